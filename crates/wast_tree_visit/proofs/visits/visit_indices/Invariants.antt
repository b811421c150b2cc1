use Rattle.std.proofs.Common.{flat_map, take}
use Rattle.wast_tree_nodes.specs.Sites.{in_index}
use Rattle.wast_tree_visit.specs.Visits.{Visits}
use Rattle.wast_tree_visit.proofs.visits.visit_indices.Given as goal

abbrev pub invariant-loop-index : goal.invariant-loop-index
invariant-loop-index g l = Visits g.V.Visitor.told l.fn.visitor (flat_map (in_index l.fn.space) (take l.index-index l.indices)) l.visitor
