use Rattle.wast_valid_machine.proofs.stack.Stack.cut.Goals as goal
use Rattle.wast_valid_machine.proofs.Cuts.{cut_once}
use Rattle.std.proofs.Common.{◌∙◌, arith}

pub loop-self-preserved : goal.loop-self-preserved
loop-self-preserved g c = cut_once c.args.keep c.loop-self.self c.pop.new.self c.pop.result c.pop.ensures (omega (arith, c.len.ensures, c.loop-self-test.true)) ∙ c.loop-self.invariant
