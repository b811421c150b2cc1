use Rattle.std.proofs.Common.{[], ◌∷◌, flat_map, take}
use Rattle.wast_tree_nodes.specs.Items.{item_of_sig}
use Rattle.wast_tree_visit.specs.Visits.{Visits}
use Rattle.wast_tree_visit.proofs.visits.visit_sigs.Given as goal

abbrev pub invariant-loop-item : goal.invariant-loop-item
invariant-loop-item g l = Visits g.V.ItemVisitor.told l.fn.visitor (flat_map (λ p. item_of_sig p.1 ∷ []) (take l.item-index l.items)) l.visitor
