-- Closes the look-up: the table is compared with the rule at each of its 256 places, by computing.
use Rattle.std.proofs.Common.{◌≡◌, ℕ, ◌<◌, ◌≤◌, ◌&&◌, eqb, ltb, Bool, true, Option, None, Some, slice_index_or, refl, ap, arith, eqb-true, ltb-true}
use Rattle.std.proofs.lemmas.Bool.{agree_below_at, and_parts}
use Rattle.wat_grammar.specs.Characters.{hexdigit}
use Rattle.wat_tokens.specs.declared.strings.TheConstants.{DIGITS}
use Rattle.wat_tokens.proofs.strings.hex_digit.Goals as goal

-- whether an entry says what a digit is, or that it is none
abbrev is_entry : ℕ → Option ℕ → Bool
is_entry entry None = eqb entry 16
is_entry entry (Some d) = eqb entry d && ltb d 16

read : (c : ℕ) → c < 256 → is_entry (slice_index_or DIGITS c 0) (hexdigit c) ≡ true
read c below = agree_below_at (λ k. is_entry (slice_index_or DIGITS k 0) (hexdigit k)) (λ _. true) 256 c refl below

digit : (entry : ℕ) (o : Option ℕ) → is_entry entry o ≡ true → entry < 16 → Some entry ≡ o
digit entry None is below = absurd (let none : entry ≡ 16 = eqb-true entry 16 is in omega (arith, none, below))
digit entry (Some d) is below = ap Some (eqb-true entry d (and_parts _ _ is).0)

no_digit : (entry : ℕ) (o : Option ℕ) → is_entry entry o ≡ true → 16 ≤ entry → None ≡ o
no_digit entry None is above = refl
no_digit entry (Some d) is above =
    let both = and_parts _ _ is in
    absurd (let same : entry ≡ d = eqb-true entry d both.0 in let below : d < 16 = ltb-true d 16 both.1 in omega (arith, same, below, above))

pub returns-then-digit-lt16-clause-value : goal.returns-then-digit-lt16-clause-value
returns-then-digit-lt16-clause-value c = digit _ (hexdigit c.args.byte) (read c.args.byte (omega arith)) c.if-digit-lt16.true

pub returns-clause-value : goal.returns-clause-value
returns-clause-value c = no_digit _ (hexdigit c.args.byte) (read c.args.byte (omega arith)) c.if-digit-lt16.false
