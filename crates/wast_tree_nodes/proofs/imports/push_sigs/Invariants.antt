use Rattle.std.proofs.Common.{◌≡◌, ◌++◌, map, drop}
use Rattle.wast_tree_nodes.proofs.imports.push_sigs.Given as goal

abbrev pub invariant-loop-item : goal.invariant-loop-item
invariant-loop-item l = map (λ s. s.now) l.sigs.items ++ map (λ p. p.1) (drop l.item-index l.items) ≡ map (λ s. s.now) l.fn.sigs.items ++ map (λ p. p.1) l.items
