use Rattle.std.proofs.Common.{arith, refl}
use Rattle.wast_tree_nodes.specs.Sites.{in_index}
use Rattle.wast_tree_visit.proofs.Visiting.{visits_more, visits_one}
use Rattle.wast_tree_visit.proofs.visits.visit_indices.Goals as goal

pub loop-index-preserved : goal.loop-index-preserved
loop-index-preserved g c = visits_more (in_index c.args.space) c.args.indices.now c.loop-index.index-index _ _
    (omega arith) refl c.loop-index.invariant (visits_one c.index.ensures)
