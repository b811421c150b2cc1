use Rattle.std.proofs.Common.{arith}
use Rattle.wast_tree_nodes.specs.Items.{items_in}
use Rattle.wast_tree_visit.proofs.Visiting.{visits_more}
use Rattle.wast_tree_visit.proofs.visits.visit_items.Goals as goal

pub loop-field-preserved : goal.loop-field-preserved
loop-field-preserved g c = visits_more (items_in) c.args.fields.now c.loop-field.field-index c.field-item.result c.field-item.result
    (omega arith) c.field-item.is c.loop-field.invariant c.visit_items_in.ensures
