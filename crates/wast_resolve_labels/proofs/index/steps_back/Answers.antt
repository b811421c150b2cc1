use Rattle.std.proofs.Common.{sym, arith}
use Rattle.wast_base.specs.Ids.{name_of}
use Rattle.wast_resolve_labels.proofs.Indexed.{sought_here, sought_on, sought_all}
use Rattle.wast_resolve_labels.proofs.index.steps_back.Goals as goal

pub returns-then-has_label : goal.returns-then-has_label
returns-then-has_label c = sym
    (sought_here (name_of c.args.id.now) c.args.blocks.now c.loop-steps.steps _ c.loop-steps.invariant c.loop-steps-test.true (sym c.if-has_label.ensures))

pub loop-steps-preserved : goal.loop-steps-preserved
loop-steps-preserved c = sought_on (name_of c.args.id.now) c.args.blocks.now c.loop-steps.steps _ c.loop-steps.invariant c.loop-steps-test.true
    (sym c.if-has_label.ensures)

pub returns : goal.returns
returns c = sym (sought_all (name_of c.args.id.now) c.args.blocks.now c.loop-steps.steps c.loop-steps.invariant (omega (arith, c.loop-steps-test.false)))
