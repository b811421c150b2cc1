use Rattle.std.proofs.Common.{take}
use Rattle.wast_tree_nodes.specs.Sites.{BodyContext, in_instrs, checks_of}
use Rattle.wast_tree_visit.specs.Visits.{Visits}
use Rattle.wast_tree_visit.proofs.visits.visit_instrs.Given as goal

abbrev pub invariant-loop-instr : goal.invariant-loop-instr
invariant-loop-instr g l = (h : BodyContext) → Visits g.V.Visitor.told l.fn.visitor (checks_of (in_instrs h (take l.instr-index l.instrs))) l.visitor
