-- Says what the rules for floats give of the pieces of a text: a fraction, if they are those of a number.
use Rattle.std.proofs.Common.{◌≡◌, ◌∙◌, ℕ, ◌+◌, ◌*◌, ◌&&◌, Bool, true, false, List, [], ◌∷◌, Option, None, Some, refl, sym, ap}
use Rattle.std.specs.Prelude.{reverse, ◌^◌}
use Rattle.wat_grammar.specs.Parts.{◌>>=◌}
use Rattle.wat_grammar.specs.Characters.{digit, hexdigit}
use Rattle.wat_grammar.specs.Integers.{backwards, sign}
use Rattle.wat_grammar.specs.Floats.{cut, fraction, whole_and_fraction, exponent, up, down, Magnitude, number, float, hexfloat}
use Rattle.wat_tokens.specs.Numbers.{digit_in, radix_of}
use Rattle.wat_tokens.specs.Fractions.{is_digits, is_digits_after, value_after, count, Form, form, or_empty}
use Rattle.wat_tokens.specs.Fractions.{is_below, after_sign, is_fraction, is_exponent, is_number, power_of}
use Rattle.wat_tokens.proofs.Forwards.{when, number_is, fraction_is, value_from}

-- all digits as one number, and the exponent
abbrev pub digits_of : Bool → Form → ℕ
digits_of is_hex p = value_after (digit_in is_hex) (radix_of is_hex) (value_after (digit_in is_hex) (radix_of is_hex) 0 p.whole) p.fraction

abbrev pub places_of : Bool → Form → ℕ
places_of is_hex p = count (digit_in is_hex) p.fraction

abbrev pub exponent_of : Form → Bool × ℕ
exponent_of p = (p.is_negative, power_of p.exponent)

exponent_is : (o : Option (List ℕ)) → exponent o ≡ when {T = Bool × ℕ} (is_exponent (after_sign o)) (is_below o, power_of (after_sign o))
exponent_is None = refl
exponent_is (Some text) = ap (λ o. o >>= λ e. Some ((sign text).0, e)) (number_is digit 10 refl (sign text).1) ∙ go (is_digits false (sign text).1)
  where
    go : (b : Bool) → (when b (value_after digit 10 0 (sign text).1) >>= λ e. Some ((sign text).0, e))
        ≡ when {T = Bool × ℕ} b ((sign text).0, value_after digit 10 0 (sign text).1)
    go true = refl
    go false = refl

-- whole and fraction, where the digits of the fraction follow those before the point
mantissa_is : (f : ℕ → Option ℕ) (radix : ℕ) → f 0x5f ≡ None → (t : List ℕ × Option (List ℕ)) (b : Bool)
    → b ≡ elim (or_empty t.1) as (λ x. Bool) [ [] ↦ true | c ∷ cs ↦ is_digits_after f false (c ∷ cs) ]
    → whole_and_fraction (λ text. backwards f radix (reverse text)) (λ text. fraction f radix text) radix t
    ≡ when {T = ℕ × ℕ} (is_digits_after f false t.0 && b) (value_after f radix (value_after f radix 0 t.0) (or_empty t.1), count f (or_empty t.1))
unfolding value_after count
mantissa_is f radix none (text, None) b is =
    ap (λ o. o >>= λ p. Some (p, 0)) (number_is f radix none text) ∙ go (is_digits_after f false text)
    ∙ ap (λ b. when {T = ℕ × ℕ} (is_digits_after f false text && b) (value_after f radix 0 text, 0)) (sym is)
  where
    go : (a : Bool) → (when a (value_after f radix 0 text) >>= λ p. Some (p, 0)) ≡ when {T = ℕ × ℕ} (a && true) (value_after f radix 0 text, 0)
    go true = refl
    go false = refl
mantissa_is f radix none (text, Some []) b is =
    ap (λ o. o >>= λ p. Some (p, 0)) (number_is f radix none text) ∙ go (is_digits_after f false text)
    ∙ ap (λ b. when {T = ℕ × ℕ} (is_digits_after f false text && b) (value_after f radix 0 text, 0)) (sym is)
  where
    go : (a : Bool) → (when a (value_after f radix 0 text) >>= λ p. Some (p, 0)) ≡ when {T = ℕ × ℕ} (a && true) (value_after f radix 0 text, 0)
    go true = refl
    go false = refl
mantissa_is f radix none (text, Some (c ∷ cs)) b is =
    ap (λ o. o >>= λ p. fraction f radix (c ∷ cs) >>= λ q. Some (p * radix ^ q.1 + q.0, q.1)) (number_is f radix none text)
    ∙ ap (λ r. when (is_digits_after f false text) (value_after f radix 0 text) >>= λ p. r >>= λ q. Some (p * radix ^ q.1 + q.0, q.1))
    (fraction_is f radix none (c ∷ cs))
    ∙ go (is_digits_after f false text) (is_digits_after f false (c ∷ cs)) ∙ ap (λ b. when {T = ℕ × ℕ}
    (is_digits_after f false text && b) (value_after f radix (value_after f radix 0 text) (c ∷ cs), count f (c ∷ cs))) (sym is)
  where
    go : (a b : Bool) → (when a (value_after f radix 0 text)
        >>= λ p. when {T = ℕ × ℕ} b (value_after f radix 0 (c ∷ cs), count f (c ∷ cs)) >>= λ q. Some (p * radix ^ q.1 + q.0, q.1))
        ≡ when {T = ℕ × ℕ} (a && b) (value_after f radix (value_after f radix 0 text) (c ∷ cs), count f (c ∷ cs))
    go true true = λ i. Some (sym (value_from f radix (value_after f radix 0 text) (c ∷ cs)) i, count f (c ∷ cs))
    go true false = refl
    go false b = refl

-- a number of both parts
joined : (a b c : Bool) (m : ℕ × ℕ) (e : Bool × ℕ) (make : ℕ × ℕ → Bool × ℕ → Magnitude)
    → (when (a && b) m >>= λ m. when c e >>= λ e. Some (make m e)) ≡ when (a && (b && c)) (make m e)
joined true true true m e make = refl
joined true true false m e make = refl
joined true false c m e make = refl
joined false b c m e make = refl

fraction_test : (is_hex : Bool) (text : List ℕ)
    → is_fraction is_hex text ≡ elim text as (λ x. Bool) [ [] ↦ true | c ∷ cs ↦ is_digits_after (digit_in is_hex) false (c ∷ cs) ]
fraction_test is_hex [] = refl
fraction_test is_hex (c ∷ cs) = refl

pub float_is : (text : List ℕ) → let p = form 0x45 0x65 text in
    float text ≡ when (is_number false p) (number (digits_of false p * up 10 (exponent_of p)) (10 ^ places_of false p * down 10 (exponent_of p)))
float_is text =
    let p = form 0x45 0x65 text in
    ap (λ o. o >>= λ m. exponent (cut 0x45 0x65 text).1 >>= λ e. Some (number (m.0 * up 10 e) (10 ^ m.1 * down 10 e)))
    (mantissa_is digit 10 refl (cut 0x2e 0x2e (cut 0x45 0x65 text).0) (is_fraction false p.fraction) (fraction_test false p.fraction))
    ∙ ap (λ o. when {T = ℕ × ℕ} (is_digits false p.whole && is_fraction false p.fraction) (digits_of false p, places_of false p)
    >>= λ m. o >>= λ e. Some (number (m.0 * up 10 e) (10 ^ m.1 * down 10 e)))
    (exponent_is (cut 0x45 0x65 text).1)
    ∙ joined (is_digits false p.whole) (is_fraction false p.fraction) (is_exponent p.exponent) (digits_of false p, places_of false p) (exponent_of p)
    (λ m e. number (m.0 * up 10 e) (10 ^ m.1 * down 10 e))

pub hexfloat_is : (text : List ℕ) → let p = form 0x50 0x70 text in
    hexfloat text ≡ when (is_number true p) (number (digits_of true p * up 2 (exponent_of p)) (16 ^ places_of true p * down 2 (exponent_of p)))
hexfloat_is text =
    let p = form 0x50 0x70 text in
    ap (λ o. o >>= λ m. exponent (cut 0x50 0x70 text).1 >>= λ e. Some (number (m.0 * up 2 e) (16 ^ m.1 * down 2 e)))
    (mantissa_is hexdigit 16 refl (cut 0x2e 0x2e (cut 0x50 0x70 text).0) (is_fraction true p.fraction) (fraction_test true p.fraction))
    ∙ ap (λ o. when {T = ℕ × ℕ} (is_digits true p.whole && is_fraction true p.fraction) (digits_of true p, places_of true p)
    >>= λ m. o >>= λ e. Some (number (m.0 * up 2 e) (16 ^ m.1 * down 2 e)))
    (exponent_is (cut 0x50 0x70 text).1)
    ∙ joined (is_digits true p.whole) (is_fraction true p.fraction) (is_exponent p.exponent) (digits_of true p, places_of true p) (exponent_of p)
    (λ m e. number (m.0 * up 2 e) (16 ^ m.1 * down 2 e))
