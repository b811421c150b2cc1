use Rattle.std.proofs.Common.{sym, ◌∙◌, arith}
use Rattle.wast_valid_machine.proofs.Marks.{is_here, is_further, is_nowhere, is_past}
use Rattle.wast_valid_machine.proofs.lookups.is_on.Goals as goal

pub returns-then-y-x : goal.returns-then-y-x
returns-then-y-x c = sym (c.loop-depth.invariant ∙ is_here c.args.x c.args.stack.now c.loop-depth.depth c.in-Some.y (sym c.in-Some.ensures) c.if-y-x.true)

pub returns-in-None : goal.returns-in-None
returns-in-None c = sym (c.loop-depth.invariant ∙ is_nowhere c.args.x c.args.stack.now c.loop-depth.depth (sym c.in-None.ensures))

pub loop-depth-preserved : goal.loop-depth-preserved
loop-depth-preserved c = c.loop-depth.invariant ∙ is_further c.args.x c.args.stack.now c.loop-depth.depth c.in-Some.y (sym c.in-Some.ensures) c.if-y-x.false

pub returns : goal.returns
returns c = sym (c.loop-depth.invariant ∙ is_past c.args.x c.args.stack.now c.loop-depth.depth (omega (arith, c.len-depth-end.ensures, c.loop-depth-test.false)))
