-- Which lines are numbers, from the result of `parse`.
use Rattle.std.proofs.Common.{◌≡◌, ◌≢◌, ℕ, ◌<◌, ◌≤◌, List, length, slice_index, Result, Ok, Err, MatchResult, Option, MatchOption, zero}
use Rattle.std.proofs.Common.{suc, sym, ap, subst, arith, ◌∙◌}
use Rattle.std.specs.Fmt.{decimal}
use Rattle.std.specs.Result.{result_ok}
use Rattle.std.specs.Str.{IsUtf8}
use Rattle.std.specs.Str.Parse.{ParsesUnsigned, AllDigits, digits_value}
use Rattle.std.proofs.lemmas.Fmt.{decimal_is_IsNumeral, decimal_digit, first_decimal, decimal-digits_value, parse-decimal, IsAscii-decimal}
use Rattle.std.proofs.lemmas.Str.{IsUtf8-from_ascii}
use Rattle.std.proofs.lemmas.Str.Parse.{digit_at, numerals_by_value, tells_digits, parse_plain, IsNumeralModel}
use Rattle.wast_rows.specs.Numerals.{IsDecimalOf, IsNoNumber}

own : IsNumeralModel (AllDigits 10) (digits_value 10)
own = numerals_by_value _ tells_digits

-- No number begins with a plus.
pub no_plus : (line : List ℕ) → slice_index line 0 ≡ 43 → IsNoNumber line
no_plus line plus n small e =
    let numeral = (decimal_is_IsNumeral n (omega arith)).0 in
    omega (arith, digit_at (decimal n) 0 numeral.1 numeral.0, plus, ap (λ bs. slice_index bs 0) e)

-- No number with two digits or more begins with a zero.
pub no_leading_zero : (line : List ℕ) → slice_index line 0 ≡ 48 → 2 ≤ length line → IsNoNumber line
no_leading_zero line zero_first long zero small e = omega (arith, ap length e, ap length (decimal_digit 0 (omega arith)))
no_leading_zero line zero_first long (suc n) small e =
    omega (arith, first_decimal (suc n) (omega arith) (omega arith), zero_first, ap (λ bs. slice_index bs 0) e)

-- What is not a text is not a number.
pub no_text : (line : List ℕ) → (IsUtf8 line → ⊥) → IsNoNumber line
no_text line none n small e = none (subst IsUtf8 (sym e) (IsUtf8-from_ascii (decimal n) (IsAscii-decimal n (omega arith))))

-- The result of `parse` for a line without sign and leading zeros.
pub parsed : {E : Type 0} (line : List ℕ) (r : Result ℕ E) → slice_index line 0 ≢ 43 → (slice_index line 0 ≡ 48 → length line < 2) → ParsesUnsigned 32 10 line r
    → MatchResult r (IsDecimalOf line) (λ _. IsNoNumber line)
parsed {E = E} line (Ok n) plain alone h =
    let p = parse_plain own {E = E} 32 line (Ok n) h plain in
    let e = decimal-digits_value own line p.0.0 p.0.1 (λ z. omega (arith, alone z, p.0.1)) (omega (arith, p.0.2)) in
    record { in_range = omega (arith, p.0.2, p.1); spelled = sym e ∙ ap decimal (sym p.1) }
parsed line (Err x) plain alone h = λ n small e. absurd (cc (parse-decimal 32 n line (Err x) small (omega arith) e h))

-- The same without its error.
pub parsed_ok : {E : Type 0} (line text : List ℕ) (r : Result ℕ E) (o : Option ℕ) → slice_index line 0 ≢ 43
    → (slice_index line 0 ≡ 48 → length line < 2) → text ≡ line
    → ParsesUnsigned 32 10 text r → o ≡ result_ok r → MatchOption o (IsNoNumber line) (IsDecimalOf line)
parsed_ok {E = E} line text (Ok n) o plain alone same h e = rw e (parsed {E = E} line (Ok n) plain alone (rw same at h))
parsed_ok {E = E} line text (Err x) o plain alone same h e = rw e (parsed {E = E} line (Err x) plain alone (rw same at h))
