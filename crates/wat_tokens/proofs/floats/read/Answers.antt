-- Closes the steps of the loop, each by the lemma on that step.
use Rattle.std.proofs.Common.{◌∙◌, ◌+◌, sym, subst, arith}
use Rattle.wat_tokens.proofs.Kept.{Reading, begun, digit_read, other_read, all_keeps, all_many}
use Rattle.wat_tokens.proofs.floats.read.Goals as goal
use Rattle.wat_tokens.proofs.floats.read.Goals.{in-Some, in_default}

pub with-leading-requires-clause-count : goal.with-leading-requires-clause-count
with-leading-requires-clause-count c = omega (arith, c.loop-byte.invariant.most, c.loop-byte-test.true, c.requires.count)

pub with-leading-requires-clause-dropped : goal.with-leading-requires-clause-dropped
with-leading-requires-clause-dropped c = c.loop-byte.invariant.dropped

pub loop-byte-init : goal.loop-byte-init
loop-byte-init c = begun c.args.start c.args.text.now c.requires.dropped

pub loop-byte-preserved : goal.loop-byte-preserved
loop-byte-preserved c = elim c.match-digit.branch [
  | in-Some w ↦ subst (λ l. Reading c.args.start l (c.loop-byte.byte-index + 1) c.args.text.now) (sym w.leading-is)
      (digit_read c.args.start c.loop-byte.leading w.with-leading.result c.loop-byte.byte-index w.in-Some.digit c.args.text.now c.loop-byte-test.true
      (sym c.digit.ensures.value ∙ w.in-Some.is) w.with-leading.ensures.keeps w.with-leading.ensures.count w.with-leading.ensures.dropped c.loop-byte.invariant)
  | in_default w ↦ subst (λ l. Reading c.args.start l (c.loop-byte.byte-index + 1) c.args.text.now) (sym w.leading-is)
      (other_read c.args.start c.loop-byte.leading c.loop-byte.byte-index c.args.text.now c.loop-byte-test.true
      (sym c.digit.ensures.value ∙ w.in_default.is) c.loop-byte.invariant)
]

pub returns-clause-keeps : goal.returns-clause-keeps
returns-clause-keeps c = all_keeps c.args.start c.loop-byte.leading c.loop-byte.byte-index c.args.text.now c.loop-byte-test.false c.loop-byte.invariant

pub returns-clause-count : goal.returns-clause-count
returns-clause-count c = all_many c.args.start c.loop-byte.leading c.loop-byte.byte-index c.args.text.now c.loop-byte-test.false c.loop-byte.invariant
