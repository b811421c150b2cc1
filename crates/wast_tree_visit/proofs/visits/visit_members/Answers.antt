use Rattle.std.proofs.Common.{arith}
use Rattle.wast_tree_nodes.specs.Items.{items_of_type}
use Rattle.wast_tree_visit.proofs.Visiting.{visits_more}
use Rattle.wast_tree_visit.proofs.visits.visit_members.Goals as goal

pub loop-ty-preserved : goal.loop-ty-preserved
loop-ty-preserved g c = visits_more items_of_type c.args.types.now c.loop-ty.ty-index c.ty-item.result c.ty-item.result
    (omega arith) c.ty-item.is c.loop-ty.invariant c.visit_type.ensures
