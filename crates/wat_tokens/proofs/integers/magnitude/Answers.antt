-- Closes the steps of the loop over digits, each by the lemma on that step: the tactics do not find the branch that ran.
use Rattle.std.proofs.Common.{◌≡◌, ◌∙◌, get_or, sym, ap, Err, Bool, true, false, None, refl}
use Rattle.std.proofs.lemmas.Result.{err_from_is_err_and}
use Rattle.wat_tokens.specs.Numbers.{digit_in, radix_of, sized}
use Rattle.wat_tokens.proofs.Backwards.{begun, underscore_at, digit_at, none_at, ends_at, stops_at, is_some_digit, is_no_digit}
use Rattle.wat_tokens.proofs.integers.magnitude.Goals as goal
use Rattle.wat_tokens.proofs.integers.magnitude.Goals.{then-byte-eq95+then-after_digit, else-byte-eq95+in_ok-digit}
use Rattle.wat_tokens.proofs.integers.magnitude.Goals.{else-byte-eq95-via-then-byte-eq95+else-after_digit, else-byte-eq95-via-else-byte-eq95}

-- an underscore is no digit
under : (is_hex : Bool) → digit_in is_hex 0x5f ≡ None
under true = refl
under false = refl

pub loop-byte-init : goal.loop-byte-init
loop-byte-init c = begun (digit_in c.args.is_hex) (radix_of c.args.is_hex)

pub returns-in_err-digit : goal.returns-in_err-digit
returns-in_err-digit c =
    let p = err_from_is_err_and c.from_residual.result c.from_residual.ensures.1 in
    let other : get_or c.args.digits.now c.loop-byte.byte-index 0 ≡ 95 → c.loop-byte.after_digit ≡ false = λ e. elim c.else-byte-eq95.branch [
      | else-byte-eq95-via-then-byte-eq95+else-after_digit w ↦ w.if-after_digit.false
      | else-byte-eq95-via-else-byte-eq95 w ↦ absurd (w.if-byte-eq95.false e)
    ] in
    let none = is_no_digit c.digit.result c.ok_or.result c.in_err-digit.field-0.0 c.ok_or.ensures.value c.in_err-digit.was in
    p.1 ∙ ap Err (p.2 ∙ none.1) ∙ sym (ap sized (none_at (digit_in c.args.is_hex)
    (radix_of c.args.is_hex) c.loop-byte.byte-index c.args.digits.now c.loop-byte.value c.loop-byte.after_digit
    (under c.args.is_hex) c.loop-byte-test.true other (sym c.digit.ensures.value ∙ none.0) c.loop-byte.invariant))

pub loop-byte-preserved : goal.loop-byte-preserved
loop-byte-preserved c = elim c.if-byte-eq95.branch [
  | then-byte-eq95+then-after_digit w ↦ underscore_at (digit_in c.args.is_hex)
      (radix_of c.args.is_hex) c.loop-byte.byte-index c.args.digits.now c.loop-byte.value c.if-byte-eq95.value
      c.loop-byte.after_digit c.if-byte-eq95.after_digit c.loop-byte-test.true w.if-byte-eq95.true
      w.if-after_digit.true w.value-is w.after_digit-is c.loop-byte.invariant
  | else-byte-eq95+in_ok-digit w ↦ digit_at (digit_in c.args.is_hex)
      (radix_of c.args.is_hex) c.loop-byte.byte-index w.in_ok-digit.digit c.args.digits.now c.loop-byte.value c.if-byte-eq95.value
      c.loop-byte.after_digit c.if-byte-eq95.after_digit (under c.args.is_hex) c.loop-byte-test.true
      (sym w.digit.ensures.value ∙ is_some_digit w.digit.result w.ok_or.result w.in_ok-digit.digit w.ok_or.ensures.value w.in_ok-digit.was)
      (λ n h. w.value-is ∙ w.with_digit-value.ensures n h) w.after_digit-is c.loop-byte.invariant
]

pub returns-in-true : goal.returns-in-true
returns-in-true c = ends_at (digit_in c.args.is_hex)
    (radix_of c.args.is_hex) c.loop-byte.byte-index c.args.digits.now c.loop-byte.value c.ok_or-in-true.result c.loop-byte.after_digit
    c.loop-byte-test.false c.in-true.is c.ok_or-in-true.ensures.value c.loop-byte.invariant

pub returns-in-false : goal.returns-in-false
returns-in-false c = stops_at (digit_in c.args.is_hex)
    (radix_of c.args.is_hex) c.loop-byte.byte-index c.args.digits.now c.loop-byte.value c.loop-byte.after_digit
    (under c.args.is_hex) c.loop-byte-test.false c.in-false.is c.loop-byte.invariant
