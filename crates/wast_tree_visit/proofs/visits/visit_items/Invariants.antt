use Rattle.std.proofs.Common.{flat_map, take}
use Rattle.wast_tree_nodes.specs.Items.{items_in}
use Rattle.wast_tree_visit.specs.Visits.{Visits}
use Rattle.wast_tree_visit.proofs.visits.visit_items.Given as goal

abbrev pub invariant-loop-field : goal.invariant-loop-field
invariant-loop-field g l = Visits g.V.ItemVisitor.told l.fn.visitor (flat_map (items_in) (take l.field-index l.fields)) l.visitor
