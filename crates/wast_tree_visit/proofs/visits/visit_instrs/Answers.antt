use Rattle.std.proofs.Common.{arith, take}
use Rattle.wast_tree_nodes.specs.Sites.{after_all, in_instrs}
use Rattle.wast_tree_visit.proofs.Visiting.{visits_next}
use Rattle.wast_tree_visit.proofs.visits.visit_instrs.Goals as goal

pub loop-instr-preserved : goal.loop-instr-preserved
loop-instr-preserved g c = λ h.
    visits_next h c.args.instrs.now c.loop-instr.instr-index c.instr-item.result _ (omega arith) c.instr-item.is (c.loop-instr.invariant h)
    (c.visit_instr.ensures (after_all h (in_instrs h (take c.loop-instr.instr-index c.args.instrs.now))))
