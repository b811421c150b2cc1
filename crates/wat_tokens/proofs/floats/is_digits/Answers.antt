-- Closes the steps of the loop, each by the lemma on that step.
use Rattle.std.proofs.Common.{◌≡◌, ◌∙◌, ◌+◌, drop, Bool, true, false, sym, ap}
use Rattle.std.specs.Prelude.{is_some, not}
use Rattle.wat_tokens.specs.Numbers.{digit_in}
use Rattle.wat_tokens.specs.Fractions.{is_digits_after}
use Rattle.wat_tokens.proofs.Scanned.{underscore_on, digit_on, no_digit_on, digits_end}
use Rattle.wat_tokens.proofs.floats.is_digits.Goals as goal
use Rattle.wat_tokens.proofs.floats.is_digits.Goals.{then-is_between, else-is_between+else-is_none}

turned : (a b c : Bool) → a ≡ not b → b ≡ c → a ≡ not c
turned a b c e f = e ∙ ap not f

pub returns-then-is_none : goal.returns-then-is_none
returns-then-is_none c = sym (c.loop-byte.invariant
    ∙ no_digit_on (digit_in c.args.is_hex) c.loop-byte.byte-index c.args.text.now c.loop-byte.after_digit c.loop-byte-test.true
    (sym c.is_between.ensures ∙ c.if-is_between.false)
    (ap is_some (sym c.digit.ensures.value) ∙ turned _ c.is_none.result true c.is_none.ensures c.if-is_none.true))

pub loop-byte-preserved : goal.loop-byte-preserved
loop-byte-preserved c = elim c.if-is_between.branch [
  | then-is_between w ↦ c.loop-byte.invariant
      ∙ underscore_on (digit_in c.args.is_hex) c.loop-byte.byte-index c.args.text.now c.loop-byte.after_digit c.loop-byte-test.true
      (sym c.is_between.ensures ∙ w.if-is_between.true)
      ∙ ap (λ a. is_digits_after (digit_in c.args.is_hex) a (drop (c.loop-byte.byte-index + 1) c.args.text.now)) (sym w.after_digit-is)
  | else-is_between+else-is_none w ↦ c.loop-byte.invariant
      ∙ digit_on (digit_in c.args.is_hex) c.loop-byte.byte-index c.args.text.now c.loop-byte.after_digit c.loop-byte-test.true
      (sym c.is_between.ensures ∙ w.if-is_between.false)
      (ap is_some (sym w.digit.ensures.value) ∙ turned _ w.is_none.result false w.is_none.ensures w.if-is_none.false)
      ∙ ap (λ a. is_digits_after (digit_in c.args.is_hex) a (drop (c.loop-byte.byte-index + 1) c.args.text.now)) (sym w.after_digit-is)
]

pub returns : goal.returns
returns c = sym (c.loop-byte.invariant
    ∙ digits_end (digit_in c.args.is_hex) c.loop-byte.byte-index c.args.text.now c.loop-byte.after_digit c.loop-byte-test.false)
