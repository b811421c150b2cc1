use Rattle.std.proofs.Common.{[], ◌∷◌, flat_map, take}
use Rattle.wast_tree_nodes.specs.Sites.{InnerIndex}
use Rattle.wast_tree_visit.specs.Visits.{Visits}
use Rattle.wast_tree_visit.proofs.visits.visit_labels.Given as goal

abbrev pub invariant-loop-label : goal.invariant-loop-label
invariant-loop-label g l = Visits g.V.Visitor.told l.fn.visitor (flat_map (λ i. InnerIndex i ∷ []) (take l.label-index l.labels)) l.visitor
