use Rattle.std.proofs.Common.{[], ◌∷◌, arith}
use Rattle.wast_tree_nodes.specs.Items.{item_of_sig}
use Rattle.wast_tree_visit.proofs.Visiting.{visits_more}
use Rattle.wast_tree_visit.proofs.visits.visit_sigs.Goals as goal

pub loop-item-preserved : goal.loop-item-preserved
loop-item-preserved g c = visits_more (λ p. item_of_sig p.1 ∷ []) c.args.items.now c.loop-item.item-index c.item-item.result c.item-item.result
    (omega arith) c.item-item.is c.loop-item.invariant c.visit_sig.ensures
