use Rattle.std.proofs.Common.{◌≡◌, flat_map, take}
use Rattle.wast_tree_nodes.specs.Uncovered.{head_of}
use Rattle.wast_tree_visit.specs.FirstUncovered.{uncovered_at}
use Rattle.wast_tree_visit.specs.IllFormed.{found_from}
use Rattle.wast_tree_visit.proofs.uncovered_places.first_in.Given as goal

abbrev pub invariant-loop-part : goal.invariant-loop-part
invariant-loop-part g l = l.finder.found ≡ head_of (flat_map (λ x. found_from uncovered_at (g.T.Placed.place x) (g.T.Visit.asks x)) (take l.part-index l.parts))
