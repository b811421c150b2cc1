use Rattle.std.proofs.Common.{[], ◌∷◌, flat_map, take}
use Rattle.wast_tree_nodes.specs.Items.{item_of_sig}
use Rattle.wast_tree_visit.specs.Visits.{Visits}
use Rattle.wast_tree_visit.proofs.visits.visit_shared.Given as goal

abbrev pub invariant-loop-name : goal.invariant-loop-name
invariant-loop-name g l = Visits g.V.ItemVisitor.told l.fn.visitor (flat_map (λ name. item_of_sig l.sig ∷ []) (take l._name-index l.names)) l.visitor
