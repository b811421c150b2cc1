use Rattle.std.proofs.Common.{[], ◌∷◌, arith}
use Rattle.wast_tree_nodes.specs.Items.{item_of_sig}
use Rattle.wast_tree_visit.proofs.Shared.{visits_again}
use Rattle.wast_tree_visit.proofs.visits.visit_shared.Goals as goal

pub loop-name-preserved : goal.loop-name-preserved
loop-name-preserved g c = visits_again (item_of_sig c.args.sig.now ∷ []) c.args.names.now c.loop-name._name-index
    (omega (arith, c.loop-name-test.true)) c.loop-name.invariant c.visit_sig.ensures
