-- Closes the steps of the loop over digits, each by the lemma on that step.
use Rattle.std.proofs.Common.{◌∙◌, sym, refl, arith}
use Rattle.wat_tokens.proofs.ShortNumbers.{no_digit, digit_on, digits_end}
use Rattle.wat_tokens.proofs.integers.short.Goals as goal

pub loop-byte-init : goal.loop-byte-init
loop-byte-init c = no_digit

pub loop-byte-preserved : goal.loop-byte-preserved
loop-byte-preserved c = digit_on c.loop-byte.byte-index c.loop-byte.value _ c.args.text.now c.loop-byte-test.true (omega arith) (omega arith) refl
    (omega arith) c.loop-byte.invariant

pub returns-clause-value : goal.returns-clause-value
returns-clause-value c = digits_end c.loop-byte.byte-index c.loop-byte.value c.args.text.now c.loop-byte-test.false (sym c.is_empty.ensures
    ∙ c.if-is_empty.false) c.loop-byte.invariant
