use Rattle.std.proofs.Common.{◌≡◌, ◌++◌, map, drop}
use Rattle.wast_tree_nodes.proofs.imports.push_shared.Given as goal

abbrev pub invariant-loop-name : goal.invariant-loop-name
invariant-loop-name l = map (λ s. s.now) l.sigs.items ++ map (λ name. l.sig) (drop l._name-index l.names) ≡ map (λ s. s.now) l.fn.sigs.items ++ map
    (λ name. l.sig) l.names
