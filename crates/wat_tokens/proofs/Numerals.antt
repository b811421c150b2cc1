-- Says which float the kit reads of the plain text of a decimal number: the rounded fraction of the rules.
use Rattle.std.proofs.Common.{◌≡◌, ◌∙◌, ℕ, suc, ◌+◌, ◌*◌, ◌<◌, ◌==◌, ◌&&◌, Bool, true, false, List, [], ◌∷◌}
use Rattle.std.proofs.Common.{◌++◌, length, Option, None, Some, eqb-true, refl, sym, ap, subst, arith}
use Rattle.std.specs.Prelude.{is_some, ◌^◌, if◌then◌else◌}
use Rattle.std.specs.Char.{digit_value}
use Rattle.std.specs.Str.Parse.{AllDigits, digits_value, digits_value_after}
use Rattle.std.specs.Float.{Format}
use Rattle.std.specs.Float.Ieee.{round}
use Rattle.std.specs.Float.Parse.{parse_float}
use Rattle.std.specs.Float.Numeral.{Parts, text_of, exponent_text, IsWellFormed, numeral_digits}
use Rattle.std.proofs.lemmas.Float.Parse.{parse_float-text_of}
use lib.Pow.{pow-add}
use native.Mathlib.Nat.{pow-zero, mul-one}
use Rattle.wat_grammar.specs.Characters.{digit}
use Rattle.wat_grammar.specs.Floats.{up, down}
use Rattle.wat_tokens.specs.Fractions.{is_digits_after, value_after, count, bare, Form, is_fraction}
use Rattle.wat_tokens.specs.Fractions.{is_exponent, fraction_text, power_text, plain_text, power_of}
use Rattle.wat_tokens.proofs.Forwards.{first, skipped, uncounted, taken, counted}
use Rattle.wat_tokens.proofs.Fractional.{digits_of, places_of, exponent_of}

-- a digit, and a character that is none
digit_is : (c d : ℕ) → digit c ≡ Some d → (digit_value c ≡ d) × (d < 10) × (c == 0x5f ≡ false)
digit_is c d is = (grind arith, grind arith, grind arith)

-- ---- digits without their underscores

record Plain (n : ℕ) (text : List ℕ) : Type 0 where
  digits : AllDigits 10 (bare text)
  value : value_after digit 10 n text ≡ digits_value_after 10 n (bare text)
  many : count digit text ≡ length (bare text)

bare_other : (c : ℕ) (cs : List ℕ) → c == 0x5f ≡ false → bare (c ∷ cs) ≡ c ∷ bare cs
unfolding bare
bare_other c cs e = ap (λ b. elim b as (λ b. List ℕ) [ true ↦ bare cs | false ↦ c ∷ bare cs ]) e

bare_underscore : (c : ℕ) (cs : List ℕ) → c == 0x5f ≡ true → bare (c ∷ cs) ≡ bare cs
unfolding bare
bare_underscore c cs e = ap (λ b. elim b as (λ b. List ℕ) [ true ↦ bare cs | false ↦ c ∷ bare cs ]) e

over_underscore : (c n : ℕ) (cs : List ℕ) → c == 0x5f ≡ true → Plain n cs → Plain n (c ∷ cs)
over_underscore c n cs e h =
    let none : digit c ≡ None = ap digit (eqb-true c 0x5f e) in
    let now = bare_underscore c cs e in
    record {
      digits = subst (AllDigits 10) (sym now) h.digits;
      value = skipped digit 10 n c cs none ∙ h.value ∙ ap (digits_value_after 10 n) (sym now);
      many = uncounted digit c cs none ∙ h.many ∙ ap (λ t. length t) (sym now);
    }

over_digit : (c d n : ℕ) (cs : List ℕ) → digit c ≡ Some d → Plain (10 * n + d) cs → Plain n (c ∷ cs)
over_digit c d n cs e h =
    let is = digit_is c d e in
    let now = bare_other c cs is.2 in
    let same : 10 * n + d ≡ n * 10 + digit_value c = omega (arith, is.0) in
    let small : digit_value c < 10 = omega (arith, is.0, is.1) in
    record {
      digits = subst (AllDigits 10) (sym now) (small, h.digits);
      value = taken digit 10 n c d cs e ∙ h.value ∙ ap (λ m. digits_value_after 10 m (bare cs)) same ∙ ap (digits_value_after 10 n) (sym now);
      many = counted digit c d cs e ∙ ap suc h.many ∙ ap (λ t. length t) (sym now);
    }

plain : (text : List ℕ) (a : Bool) (n : ℕ) → is_digits_after digit a text ≡ true → Plain n text
unfolding is_digits_after bare value_after count
plain [] a n is = record { digits = tt; value = refl; many = refl }
plain (c ∷ cs) a n is = go (λ b m is. plain cs b m is) (c == 0x5f) refl (digit c) refl a is
  where
    go : ((b : Bool) (m : ℕ) → is_digits_after digit b cs ≡ true → Plain m cs) → (x : Bool) → c == 0x5f ≡ x → (o : Option ℕ) → digit c ≡ o → (a : Bool)
        → elim (x && a) as (λ b. Bool) [
          | true ↦ is_digits_after digit false cs
          | false ↦ elim (is_some o) as (λ b. Bool) [ true ↦ is_digits_after digit true cs | false ↦ false ]
        ] ≡ true
        → Plain n (c ∷ cs)
    go more true e (Some d) g a is = absurd (cc (e, (digit_is c d g).2))
    go more true e None g true is = over_underscore c n cs e (more false n is)
    go more true e None g false is = absurd (cc is)
    go more false e (Some d) g a is = over_digit c d n cs g (more true (10 * n + d) is)
    go more false e None g a is = absurd (cc is)

some_digit : (text : List ℕ) → is_digits_after digit false text ≡ true → 0 < length (bare text)
unfolding is_digits_after
some_digit [] is = absurd (cc is)
some_digit (c ∷ cs) is = go (digit c) refl (sym (first digit c cs) ∙ is)
  where
    go : (o : Option ℕ) → digit c ≡ o → (is_some o && is_digits_after digit true cs) ≡ true → 0 < length (bare (c ∷ cs))
    go None g is = absurd (cc is)
    go (Some d) g is = subst (λ t. 0 < length t) (sym (bare_other c cs (digit_is c d g).2)) (omega arith)

-- ---- the parts of the kit

abbrev is_point : List ℕ → Bool
is_point [] = false
is_point (c ∷ cs) = true

abbrev exponent_digits : Option (List ℕ) → List ℕ
exponent_digits None = []
exponent_digits (Some text) = bare text

abbrev parts_of : Form → Parts
parts_of p = record {
  whole = bare p.whole;
  point = is_point p.fraction;
  fraction = bare p.fraction;
  exponent_negative = p.is_negative;
  exponent = exponent_digits p.exponent;
  len = length (plain_text p);
}

value_over : (n : ℕ) (xs ys : List ℕ) → digits_value_after 10 n (xs ++ ys) ≡ digits_value_after 10 (digits_value_after 10 n xs) ys
value_over n [] ys = refl
value_over n (x ∷ xs) ys = value_over (n * 10 + digit_value x) xs ys

exponent_text_is : (is_negative : Bool) (ds : List ℕ) → 0 < length ds → exponent_text is_negative ds ≡ 0x65 ∷ ((if is_negative then 0x2d ∷ [] else []) ++ ds)
exponent_text_is is_negative [] h = absurd (omega (arith, h))
exponent_text_is is_negative (d ∷ ds) h = refl

-- a number in pieces, which has no sign without an exponent
pub record IsDecimal (p : Form) : Type 0 where
  pub whole : is_digits_after digit false p.whole ≡ true
  pub fraction : is_fraction false p.fraction ≡ true
  pub power : is_exponent p.exponent ≡ true
  pub no_power : p.exponent ≡ None → p.is_negative ≡ false

fraction_is_text : (text : List ℕ) → (if is_point text then 0x2e ∷ bare text else []) ≡ fraction_text text
fraction_is_text [] = refl
fraction_is_text (c ∷ cs) = refl

power_is_text : (is_negative : Bool) (o : Option (List ℕ)) → is_exponent o ≡ true → exponent_text is_negative (exponent_digits o) ≡ power_text is_negative o
power_is_text is_negative None is = refl
power_is_text is_negative (Some text) is = exponent_text_is is_negative (bare text) (some_digit text is)

text_is : (p : Form) → IsDecimal p → text_of (parts_of p) ≡ plain_text p
text_is p h = λ i. bare p.whole ++ (fraction_is_text p.fraction i ++ power_is_text p.is_negative p.exponent h.power i)

fraction_plain : (n : ℕ) (text : List ℕ) → is_fraction false text ≡ true → Plain n text
unfolding bare value_after count
fraction_plain n [] is = record { digits = tt; value = refl; many = refl }
fraction_plain n (c ∷ cs) is = plain (c ∷ cs) false n is

power_digits : (o : Option (List ℕ)) → is_exponent o ≡ true → AllDigits 10 (exponent_digits o) × (power_of o ≡ digits_value 10 (exponent_digits o))
power_digits None is = (tt, refl)
power_digits (Some text) is = let h = plain text false 0 is in (h.digits, h.value)

no_point : (text : List ℕ) → is_point text ≡ false → bare text ≡ []
unfolding bare
no_point [] is = refl
no_point (c ∷ cs) is = absurd (cc is)

no_exponent : (p : Form) → IsDecimal p → exponent_digits p.exponent ≡ [] → p.is_negative ≡ false
no_exponent p h = go p.exponent refl h.power
  where
    go : (o : Option (List ℕ)) → p.exponent ≡ o → is_exponent o ≡ true → exponent_digits o ≡ [] → p.is_negative ≡ false
    go None e is empty = h.no_power e
    go (Some text) e is empty = absurd (omega (arith, some_digit text is, ap (λ t. length t) empty))

well_formed : (p : Form) → IsDecimal p → IsWellFormed (parts_of p)
well_formed p h = record {
  whole_digits = (plain p.whole false 0 h.whole).digits;
  fraction_digits = (fraction_plain 0 p.fraction h.fraction).digits;
  exponent_digits = (power_digits p.exponent h.power).0;
  no_point = no_point p.fraction;
  no_exponent = no_exponent p h;
  len_is = ap (λ t. length t) (sym (text_is p h));
}

numerator_is : (p : Form) → IsDecimal p → numeral_digits (parts_of p) ≡ digits_of false p
numerator_is p h = value_over 0 (bare p.whole) (bare p.fraction)
    ∙ ap (λ n. digits_value_after 10 n (bare p.fraction)) (sym (plain p.whole false 0 h.whole).value)
    ∙ sym (fraction_plain (value_after digit 10 0 p.whole) p.fraction h.fraction).value

up_is : (is_negative : Bool) (n e : ℕ) → e ≡ n → 10 ^ (if is_negative then 0 else n) ≡ up 10 (is_negative, e)
up_is true n e is = pow-zero 10
up_is false n e is = ap (λ k. 10 ^ k) (sym is)

down_is : (is_negative : Bool) (k l n e : ℕ) → l ≡ k → e ≡ n → 10 ^ (k + (if is_negative then n else 0)) ≡ 10 ^ l * down 10 (is_negative, e)
down_is true k l n e at is = pow-add 10 k n ∙ λ i. 10 ^ sym at i * 10 ^ sym is i
down_is false k l n e at is = ap (λ j. 10 ^ j) {x = k + 0} {y = l} (omega (arith, at)) ∙ sym (mul-one (10 ^ l))

-- what the kit reads
pub parsed : (f : Format) (p : Form) → IsDecimal p
    → parse_float f (plain_text p) ≡ Some (round f false (digits_of false p * up 10 (exponent_of p)) (10 ^ places_of false p * down 10 (exponent_of p)))
parsed f p h =
    let e = power_digits p.exponent h.power in
    let some : 0 < length (bare p.whole) = some_digit p.whole h.whole in
    ap (parse_float f) (sym (text_is p h)) ∙ parse_float-text_of f false (parts_of p) (well_formed p h) some
    ∙ λ i. Some (round f false (numerator_is p h i * up_is p.is_negative (digits_value 10 (exponent_digits p.exponent)) (power_of p.exponent) e.1 i)
    (down_is p.is_negative (length (bare p.fraction)) (places_of false p) (digits_value 10 (exponent_digits p.exponent))
    (power_of p.exponent) (fraction_plain 0 p.fraction h.fraction).many e.1 i))
