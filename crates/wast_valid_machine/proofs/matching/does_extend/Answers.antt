use Rattle.std.proofs.Common.{sym, ◌∙◌}
use Rattle.wast_valid_machine.proofs.Extends.{extends_same, extends_on, extends_none, extends_last}
use Rattle.std.proofs.Common.{length, ◌-◌}
use Rattle.wast_valid_machine.proofs.matching.does_extend.Goals as goal

pub returns-then-at-j : goal.returns-then-at-j
returns-then-at-j c = extends_same c.args.types.now (length c.args.types.now - c.loop-steps.steps) c.loop-steps.at c.args.j c.if-at-j.true ∙ sym c.loop-steps.invariant

pub returns-in-None : goal.returns-in-None
returns-in-None c = sym (c.loop-steps.invariant ∙ extends_none c.args.types.now (length c.args.types.now) c.loop-steps.steps c.loop-steps.at c.args.j c.loop-steps-test.true c.if-at-j.false (sym c.in-None.ensures))

pub loop-steps-preserved : goal.loop-steps-preserved
loop-steps-preserved c = c.loop-steps.invariant ∙ extends_on c.args.types.now (length c.args.types.now) c.loop-steps.steps c.loop-steps.at c.args.j c.in-Some.parent c.loop-steps-test.true c.if-at-j.false (sym c.in-Some.ensures)

pub returns : goal.returns
returns c = sym (c.loop-steps.invariant ∙ extends_last c.args.types.now (length c.args.types.now) c.loop-steps.steps c.loop-steps.at c.args.j c.loop-steps-test.false)
