use Rattle.std.proofs.Common.{◌≡◌, flat_map, take}
use Rattle.wast_tree_visit.specs.IllFormed.{failing_from}
use Rattle.wast_tree_nodes.specs.Uncovered.{head_of}
use Rattle.wast_tree_visit.proofs.first_failing.first_failing.Given as goal

abbrev pub invariant-loop-part : goal.invariant-loop-part
invariant-loop-part g l =
    (g.S.IdResolver.known l.first.settler ≡ g.S.IdResolver.known l.fn.settler)
    × (l.first.found ≡ head_of (flat_map (λ x. failing_from (g.S.IdResolver.known l.fn.settler) (g.T.Searchable.place x) (g.T.Searchable.asks x))
    (take l.part-index l.parts)))
