use Rattle.std.proofs.Common.{arith}
use Rattle.wast_tree_visit.proofs.Visiting.{visits_more}
use Rattle.wast_tree_visit.proofs.visits.visit_each.Goals as goal

pub loop-part-preserved : goal.loop-part-preserved
loop-part-preserved g c = visits_more (g.T.Visit.asks) c.args.parts.now c.loop-part.part-index c.part-item.result c.part-item.result
    (omega arith) c.part-item.is c.loop-part.invariant c.visit.ensures
