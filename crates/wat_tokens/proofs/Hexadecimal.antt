-- Closes what hexadecimal numbers leave: by the place of the mantissa the fraction of the rules is tiny, huge or in between.
use Rattle.std.proofs.Common.{◌≡◌, ◌∙◌, ℕ, zero, suc, ◌+◌, ◌-◌, ◌*◌, ◌/◌, ◌%◌, ◌<◌, ◌≤◌, Bool, true, false}
use Rattle.std.proofs.Common.{List, None, Some, Ok, Err, refl, sym, ap, subst, arith, ltb-true, ltb-false}
use Rattle.std.specs.Prelude.{min, nat_lt, not, ◌^◌, if◌then◌else◌}
use Rattle.std.specs.Float.{Float, Format, float_is_finite}
use Rattle.std.specs.Float.Ieee.{low, hid, ones, top, to_bits, of_bits, fin, inf, nan, is_nan}
use lib.Dec.{T, lit≤}
use lib.Ieee.Bits.{to_bits-of_bits}
use lib.Ieee.Exact.{HasValue}
use native.Mathlib.Nat.{mul-le-mul_right, mul-le-mul_left, mul-le-mul, mul-lt-mul_of_pos_right, zero-mul, le_trans}
use native.Mathlib.Nat.{le_of_eq, pow-suc, pow-zero, mul-pos, div-add-mod', mod-lt, div-lt_iff_lt-mul, le_of_lt}
use lib.Pow.{pow_pos, pow_mono, pow-add}
use Rattle.fast_float.specs.Rounding.{IsNearestBits}
use Rattle.fast_float.proofs.Patterns.{shape, of_bits_value, field_units, infinite}
use Rattle.fast_float.proofs.Extremes.{nearest_of_tiny, nearest_of_huge, nearest_of_zero}
use Rattle.wat_grammar.specs.Characters.{digit}
use Rattle.wat_grammar.specs.Floats.{up, down, number, hexfloat}
use Rattle.wat_tokens.specs.Fractions.{bits_in, Form, form, is_number, is_digits, value_after, power_of, Keeps, IsScaled}
use Rattle.wat_tokens.specs.declared.floats.Leading.{Leading}
use Rattle.wat_tokens.specs.declared.faults.TextFault.{TextFault}
use Rattle.wat_tokens.specs.declared.faults.TextFault.TheVariants as fault
use Rattle.wat_tokens.specs.Numbers.{answer, sized, number_in}
use Rattle.wat_tokens.proofs.Forwards.{when, number_is}
use Rattle.wat_tokens.proofs.Fractional.{digits_of, places_of, exponent_of, hexfloat_is}
use Rattle.wat_tokens.proofs.FloatBits.{finite_bits, number_bits, sized_ok}

-- ---- from the nearest bits to the answer

is_finite : (x : Float) (s : Bool) (a c : ℕ) → HasValue x s a c → (float_is_finite x ≡ true) × T (not (is_nan x))
unfolding float_is_finite is_nan
is_finite nan s a c v = absurd v
is_finite (inf t) s a c v = absurd v
is_finite (fin t m e) s a c v = (refl, tt)

finite_pattern : (f : Format) (bits : ℕ) → bits < ones f * hid f → (float_is_finite (of_bits f bits) ≡ true) × T (not (is_nan (of_bits f bits)))
finite_pattern f bits h =
    let some : 0 < hid f = omega (arith, (shape f).some) in
    let parts = div-add-mod' bits (hid f) in
    let field : bits / hid f < ones f = (div-lt_iff_lt-mul some).1 h in
    let rest : bits % hid f < hid f = mod-lt bits some in
    subst (λ b. (float_is_finite (of_bits f b) ≡ true) × T (not (is_nan (of_bits f b)))) parts
    (is_finite (of_bits f (bits / hid f * hid f + bits % hid f)) false (field_units f (bits / hid f) (bits % hid f))
    (2 ^ low f) (of_bits_value f (bits / hid f) (bits % hid f) field rest))

small_pattern : (f : Format) (bits : ℕ) → bits < ones f * hid f → bits < 2 * top f
small_pattern f bits h = omega (arith, h)

pub nearest_ok : (f : Format) (num den bits : ℕ) → IsNearestBits f num den bits → bits < ones f * hid f → bits_in f (Some (number num den)) ≡ Ok bits
nearest_ok f num den bits near h =
    let g = finite_pattern f bits h in
    number_bits f num den ∙ ap (finite_bits f) (sym near.0) ∙ ap (λ b. if b then Ok (to_bits f (of_bits f bits)) else Err fault.Range) g.0
    ∙ ap Ok (to_bits-of_bits f bits (small_pattern f bits h) g.1)

pub nearest_range : (f : Format) (num den bits : ℕ) → IsNearestBits f num den bits → bits ≡ ones f * hid f → bits_in f (Some (number num den)) ≡ Err fault.Range
unfolding float_is_finite
nearest_range f num den bits near h = number_bits f num den ∙ ap (finite_bits f) (sym near.0 ∙ ap (of_bits f) h ∙ infinite f)

-- ---- powers of two

sixteen : (d : ℕ) → 16 ^ d ≡ 2 ^ (d * 4)
sixteen zero = pow-zero 16 ∙ sym (pow-zero 2)
sixteen (suc d) = pow-suc 16 d ∙ ap (λ y. y * 16) (sixteen d) ∙ sym (pow-add 2 (d * 4) 4) ∙ ap (λ k. 2 ^ k) {x = d * 4 + 4} {y = suc d * 4} (omega arith)

up_two : (is_negative : Bool) (e : ℕ) → up 2 (is_negative, e) ≡ 2 ^ (if not is_negative then e else 0)
up_two true e = sym (pow-zero 2)
up_two false e = refl

down_two : (is_negative : Bool) (e : ℕ) → down 2 (is_negative, e) ≡ 2 ^ (if is_negative then e else 0)
down_two true e = refl
down_two false e = sym (pow-zero 2)

-- ---- exponents

power_is : (text : List ℕ) → is_digits false text ≡ true → number_in false text ≡ Some (value_after digit 10 0 text)
power_is text is = number_is digit 10 refl text ∙ ap (λ b. when b (value_after digit 10 0 text)) is

pub power_ok : (text : List ℕ) (v : ℕ) → is_digits false text ≡ true → Ok v ≡ sized (number_in false text) → v ≡ value_after digit 10 0 text
power_ok text v is read = same (sym (sized_ok (number_in false text) v read) ∙ power_is text is)
  where
    same : {a b : ℕ} → Some a ≡ Some b → a ≡ b
    same e = cc e

pub power_err : (text : List ℕ) (e : TextFault) → is_digits false text ≡ true
    → Err e ≡ sized (number_in false text) → 2 ^ 63 ≡ min (value_after digit 10 0 text) (2 ^ 63)
power_err text e is read = go (nat_lt (value_after digit 10 0 text) (2 ^ 64)) refl (read ∙ ap sized (power_is text is))
  where
    go : (b : Bool) → nat_lt (value_after digit 10 0 text) (2 ^ 64) ≡ b
        → Err e ≡ answer (Some (value_after digit 10 0 text)) (if b then Some (value_after digit 10 0 text) else None)
        → 2 ^ 63 ≡ min (value_after digit 10 0 text) (2 ^ 63)
    go true g is = absurd (cc is)
    go false g is = omega (arith, ltb-false (value_after digit 10 0 text) (2 ^ 64) g)

-- ---- products, by letters

tiny_at : (d a r z t den : ℕ) → d ≤ 2 ^ 63 * a → t ≤ z → a * r * z ≤ den → d * r * t ≤ 2 ^ 64 * den
tiny_at d a r z t den most ten far = le_trans (mul-le-mul (mul-le-mul_right r most) ten) (omega (arith, mul-le-mul_left (2 ^ 63) far))

huge_at : (m d a r den z t : ℕ) → 0 < m → m * a ≤ d → den * z ≤ a * r → t ≤ z → t * den ≤ d * r
huge_at m d a r den z t some from far ten =
    let one : a ≤ d = omega (arith, mul-le-mul_right a some, from) in
    omega (arith, mul-le-mul_right den ten, mul-le-mul_right r one, far)

regroup : (a r l z : ℕ) → a * r * l * z ≡ a * (r * l * z)
regroup a r l z = omega arith

scaled_at : (f : Format) (num den m x : ℕ) (more : Bool) (d a q : ℕ) → 0 < den → den * 2 ^ x ≡ a * q
    → num * 2 ^ low f * 2 ^ 4096 ≡ d * q → 0 < q → m * a ≤ d → d < (m + 1) * a
    → (more ≡ false → d ≡ m * a) → (more ≡ true → m * a < d) → (more ≡ true → 2 ^ 59 ≤ m) → IsScaled f num den m more x
scaled_at f num den m x more d a q pos unit total some from below exact above long = record {
  positive = pos;
  from = subst (λ y. m * (den * 2 ^ x) ≤ y) (sym total) (subst (λ y. m * y ≤ d * q) (sym unit) (omega (arith, mul-le-mul_right q from)));
  below = subst (λ y. y < (m + 1) * (den * 2 ^ x)) (sym total)
      (subst (λ y. d * q < (m + 1) * y) (sym unit) (omega (arith, mul-lt-mul_of_pos_right below some)));
  exact = λ is. total ∙ ap (λ y. y * q) (exact is) ∙ again ∙ ap (λ y. m * y) (sym unit);
  more = λ is. subst (λ y. m * (den * 2 ^ x) < y) (sym total) (subst (λ y. m * y < d * q) (sym unit) (omega (arith, mul-lt-mul_of_pos_right (above is) some)));
  long = long;
}
  where
    again : m * a * q ≡ m * (a * q)
    again = omega arith

-- ---- the fraction of a number in pieces

abbrev pub num_of : Form → ℕ
num_of p = digits_of true p * up 2 (exponent_of p)

abbrev pub den_of : Form → ℕ
den_of p = 16 ^ places_of true p * down 2 (exponent_of p)

-- ---- what is read of a number, and where its mantissa is

pub record IsRead (f : Format) (p : Form) (all : Leading) (k e high less : ℕ) : Type 0 where
  pub keeps : Keeps (digits_of true p) all
  pub places : k ≡ places_of true p
  pub power : e ≡ min (power_of p.exponent) (2 ^ 63)
  pub high_is : high ≡ all.dropped * 4 + low f + 4096 + (if not p.is_negative then e else 0)
  pub less_is : less ≡ k * 4 + (if p.is_negative then e else 0)
  pub few : all.dropped < 2 ^ 60
  pub short : k < 2 ^ 60

pub is_read : (f : Format) (p : Form) (whole all : Leading) (e lowest rise fall long_whole long_fraction : ℕ) → Keeps (digits_of true p) all
    → whole.count ≤ long_whole → long_whole < 2 ^ 59 → all.count ≡ whole.count + places_of true p
    → all.count ≤ whole.count + long_fraction → long_fraction < 2 ^ 59 → all.dropped ≤ all.count
    → e ≡ min (power_of p.exponent) (2 ^ 63) → lowest ≡ low f → rise ≡ (if not p.is_negative then e else 0) → fall ≡ (if p.is_negative then e else 0)
    → IsRead f p all (all.count - whole.count) e (all.dropped * 4 + lowest + 4096 + rise) ((all.count - whole.count) * 4 + fall)
is_read f p whole all e lowest rise fall long_whole long_fraction keeps w few_whole many a few_fraction d power l r s = record {
  keeps = keeps;
  places = omega (arith, many);
  power = power;
  high_is = λ i. all.dropped * 4 + l i + 4096 + r i;
  less_is = λ i. (all.count - whole.count) * 4 + s i;
  few = omega (arith, w, few_whole, a, few_fraction, d);
  short = omega (arith, a, few_fraction);
}

module _ (f : Format) (p : Form) (all : Leading) (k e high less : ℕ) (r : IsRead f p all k e high less) where
  rise : ℕ
  rise = if not p.is_negative then power_of p.exponent else 0

  fall : ℕ
  fall = if p.is_negative then power_of p.exponent else 0

  numerator : ℕ
  numerator = digits_of true p * up 2 (exponent_of p)

  denominator : ℕ
  denominator = 16 ^ places_of true p * down 2 (exponent_of p)

  numerator_is : numerator ≡ digits_of true p * 2 ^ rise
  unfolding numerator rise
  numerator_is = ap (λ y. digits_of true p * y) (up_two p.is_negative (power_of p.exponent))

  denominator_is : denominator ≡ 2 ^ (k * 4 + fall)
  unfolding denominator fall
  denominator_is = (λ i. 16 ^ sym r.places i * down_two p.is_negative (power_of p.exponent) i)
      ∙ ap (λ y. y * 2 ^ fall) (sixteen k) ∙ sym (pow-add 2 (k * 4) fall)

  positive : 0 < denominator
  positive = subst (λ y. 0 < y) (sym denominator_is) (pow_pos (k * 4 + fall))

  -- the digits, from those that are kept
  from_kept : all.mantissa * 2 ^ (all.dropped * 4) ≤ digits_of true p
  from_kept = omega (arith, r.keeps.total, ap (λ y. all.mantissa * y) (sixteen all.dropped))

  below_kept : digits_of true p < (all.mantissa + 1) * 2 ^ (all.dropped * 4)
  below_kept = omega (arith, r.keeps.total, r.keeps.small, sixteen all.dropped, ap (λ y. all.mantissa * y) (sixteen all.dropped))

  -- ---- a number below all others
  beneath : high < less → all.dropped * 4 + rise + 4096 ≤ k * 4 + fall
  unfolding rise fall
  beneath h = go p.is_negative r.high_is r.less_is
    where
      go : (b : Bool) → high ≡ all.dropped * 4 + low f + 4096 + (if not b then e else 0) → less ≡ k * 4 + (if b then e else 0)
          → all.dropped * 4 + (if not b then power_of p.exponent else 0) + 4096 ≤ k * 4 + (if b then power_of p.exponent else 0)
      go true a b = omega (arith, a, b, h, r.power)
      go false a b = omega (arith, a, b, h, r.power, r.short)

  -- ---- a number above all others
  beyond : less + 7168 < high → k * 4 + fall + 1999 ≤ all.dropped * 4 + rise
  unfolding rise fall
  beyond h = go p.is_negative r.high_is r.less_is
    where
      go : (b : Bool) → high ≡ all.dropped * 4 + low f + 4096 + (if not b then e else 0) → less ≡ k * 4 + (if b then e else 0)
          → k * 4 + (if b then power_of p.exponent else 0) + 1999 ≤ all.dropped * 4 + (if not b then power_of p.exponent else 0)
      go true a b = omega (arith, a, b, h, r.power, r.few, (shape f).least.1)
      go false a b = omega (arith, a, b, h, r.power, (shape f).least.1)

  -- ---- a number in between
  between : less ≤ high → high ≤ less + 7168 → k * 4 + fall + (high - less) ≡ all.dropped * 4 + rise + low f + 4096
  unfolding rise fall
  between l h = go p.is_negative r.high_is r.less_is
    where
      go : (b : Bool) → high ≡ all.dropped * 4 + low f + 4096 + (if not b then e else 0) → less ≡ k * 4 + (if b then e else 0)
          → k * 4 + (if b then power_of p.exponent else 0) + (high - less) ≡ all.dropped * 4 + (if not b then power_of p.exponent else 0) + low f + 4096
      go true a b = omega (arith, a, b, l, h, r.power, r.few, (shape f).least.1)
      go false a b = omega (arith, a, b, l, h, r.power, r.short, (shape f).least.1)

  -- ---- no digit but zeros
  zeros : all.mantissa ≡ 0 → IsNearestBits f numerator denominator 0
  zeros m = nearest_of_zero f numerator denominator positive (numerator_is ∙ ap (λ y. y * 2 ^ rise) nothing ∙ zero-mul (2 ^ rise))
    where
      go : (j : ℕ) → all.dropped ≡ j → digits_of true p ≡ 0
      go zero e = omega (arith, r.keeps.total, ap (λ y. y * 16 ^ all.dropped) m, r.keeps.small, ap (λ j. 16 ^ j) e, pow-zero 16)
      go (suc j) e = absurd (omega (arith, r.keeps.long (omega (arith, e)), m))

      nothing : digits_of true p ≡ 0
      nothing = go all.dropped refl

  tiny : high < less → IsNearestBits f numerator denominator 0
  tiny h =
      let far : 2 ^ (all.dropped * 4) * 2 ^ rise * 2 ^ 4096 ≤ denominator =
      subst (λ y. 2 ^ (all.dropped * 4) * 2 ^ rise * 2 ^ 4096 ≤ y) (sym denominator_is)
      (le_trans (le_of_eq (ap (λ y. y * 2 ^ 4096) (sym (pow-add 2 (all.dropped * 4) rise)) ∙ sym (pow-add 2 (all.dropped * 4 + rise) 4096)))
      (pow_mono (beneath h))) in
      let less : all.mantissa + 1 ≤ 2 ^ 63 = omega (arith, r.keeps.fits) in
      let most : digits_of true p ≤ 2 ^ 63 * 2 ^ (all.dropped * 4) = le_trans (le_of_lt below_kept) (mul-le-mul_right (2 ^ (all.dropped * 4)) less) in
      nearest_of_tiny f numerator denominator positive
      (subst (λ y. y * 10 ^ 343 ≤ 2 ^ 64 * denominator) (sym numerator_is)
      (tiny_at (digits_of true p) (2 ^ (all.dropped * 4)) (2 ^ rise) (2 ^ 4096) (10 ^ 343) denominator most (lit≤ tt) far))

  huge : 0 < all.mantissa → less + 7168 < high → IsNearestBits f numerator denominator (ones f * hid f)
  huge some h =
      let far : denominator * 2 ^ 1999 ≤ 2 ^ (all.dropped * 4) * 2 ^ rise =
      subst (λ y. y * 2 ^ 1999 ≤ 2 ^ (all.dropped * 4) * 2 ^ rise) (sym denominator_is)
      (le_trans (le_of_eq (sym (pow-add 2 (k * 4 + fall) 1999))) (le_trans (pow_mono (beyond h)) (le_of_eq (pow-add 2 (all.dropped * 4) rise)))) in
      nearest_of_huge f numerator denominator positive
      (subst (λ y. 10 ^ 309 * denominator ≤ y) (sym numerator_is) (huge_at all.mantissa (digits_of true p)
      (2 ^ (all.dropped * 4)) (2 ^ rise) denominator (2 ^ 1999) (10 ^ 309) some from_kept far (lit≤ tt)))

  scaled : less ≤ high → high ≤ less + 7168 → IsScaled f numerator denominator all.mantissa all.is_more (high - less)
  scaled l h =
      let unit : denominator * 2 ^ (high - less) ≡ 2 ^ (all.dropped * 4) * (2 ^ rise * 2 ^ low f * 2 ^ 4096) =
      ap (λ y. y * 2 ^ (high - less)) denominator_is ∙ sym (pow-add 2 (k * 4 + fall) (high - less)) ∙ ap (λ j. 2 ^ j) (between l h)
      ∙ pow-add 2 (all.dropped * 4 + rise + low f) 4096
      ∙ ap (λ y. y * 2 ^ 4096) (pow-add 2 (all.dropped * 4 + rise) (low f) ∙ ap (λ y. y * 2 ^ low f) (pow-add 2 (all.dropped * 4) rise))
      ∙ regroup (2 ^ (all.dropped * 4)) (2 ^ rise) (2 ^ low f) (2 ^ 4096) in
      let total : numerator * 2 ^ low f * 2 ^ 4096 ≡ digits_of true p * (2 ^ rise * 2 ^ low f * 2 ^ 4096) =
      ap (λ y. y * 2 ^ low f * 2 ^ 4096) numerator_is ∙ regroup (digits_of true p) (2 ^ rise) (2 ^ low f) (2 ^ 4096) in
      scaled_at f numerator denominator all.mantissa (high - less) all.is_more (digits_of true p) (2 ^ (all.dropped * 4)) (2 ^ rise * 2 ^ low f * 2 ^ 4096)
      positive unit total (mul-pos (mul-pos (pow_pos rise) (pow_pos (low f))) (pow_pos 4096)) from_kept below_kept exact more long
    where
      exact : all.is_more ≡ false → digits_of true p ≡ all.mantissa * 2 ^ (all.dropped * 4)
      exact is = let none = ltb-false 0 r.keeps.rest (sym r.keeps.more ∙ is) in
          omega (arith, r.keeps.total, none, ap (λ y. all.mantissa * y) (sixteen all.dropped))

      more : all.is_more ≡ true → all.mantissa * 2 ^ (all.dropped * 4) < digits_of true p
      more is = let some = ltb-true 0 r.keeps.rest (sym r.keeps.more ∙ is) in
          omega (arith, r.keeps.total, some, ap (λ y. all.mantissa * y) (sixteen all.dropped))

      long : all.is_more ≡ true → 2 ^ 59 ≤ all.mantissa
      long is = go all.dropped refl
        where
          go : (j : ℕ) → all.dropped ≡ j → 2 ^ 59 ≤ all.mantissa
          go zero e = absurd (omega (arith, ltb-true 0 r.keeps.rest (sym r.keeps.more ∙ is), r.keeps.small, ap (λ j. 16 ^ j) e, pow-zero 16))
          go (suc j) e = r.keeps.long (omega (arith, e))

-- ---- what the rules give

hexadecimal_is : (f : Format) (text : List ℕ) (p : Form) → p ≡ form 0x50 0x70 text → is_number true p ≡ true
    → bits_in f (hexfloat text) ≡ bits_in f (Some (number (num_of p) (den_of p)))
hexadecimal_is f text p is so =
    ap (bits_in f) (hexfloat_is text ∙ ap (λ p. when (is_number true p) (number (num_of p) (den_of p))) (sym is)
    ∙ ap (λ b. when b (number (num_of p) (den_of p))) so)

pub hexadecimal_none : (f : Format) (text : List ℕ) (p : Form) → p ≡ form 0x50 0x70 text
    → is_number true p ≡ false → Err fault.Number ≡ bits_in f (hexfloat text)
hexadecimal_none f text p is so = sym (ap (bits_in f) (hexfloat_is text
    ∙ ap (λ p. when (is_number true p) (number (num_of p) (den_of p))) (sym is)
    ∙ ap (λ b. when b (number (num_of p) (den_of p))) so))

module _ (f : Format) (text : List ℕ) (p : Form) (is : p ≡ form 0x50 0x70 text) (so : is_number true p ≡ true)
    (all : Leading) (k e high less : ℕ) (r : IsRead f p all k e high less) where
  some_bits : 0 < ones f * hid f
  some_bits = let g = shape f in mul-pos (omega (arith, g.field.0)) (omega (arith, g.some))

  pub zero_bits : all.mantissa ≡ 0 → Ok 0 ≡ bits_in f (hexfloat text)
  unfolding numerator denominator
  zero_bits m = sym (hexadecimal_is f text p is so ∙ nearest_ok f (num_of p) (den_of p) 0 (zeros f p all k e high less r m) some_bits)

  pub tiny_bits : high < less → Ok 0 ≡ bits_in f (hexfloat text)
  unfolding numerator denominator
  tiny_bits h = sym (hexadecimal_is f text p is so ∙ nearest_ok f (num_of p) (den_of p) 0 (tiny f p all k e high less r h) some_bits)

  pub huge_bits : 0 < all.mantissa → less + 7168 < high → Err fault.Range ≡ bits_in f (hexfloat text)
  unfolding numerator denominator
  huge_bits m h = sym (hexadecimal_is f text p is so ∙ nearest_range f (num_of p) (den_of p) (ones f * hid f) (huge f p all k e high less r m h) refl)

  module _ (l : less ≤ high) (h : high ≤ less + 7168) (bits : ℕ) (near : (num den : ℕ)
      → IsScaled f num den all.mantissa all.is_more (high - less) → IsNearestBits f num den (min bits (ones f * hid f))) where
    near_bits : IsNearestBits f (num_of p) (den_of p) (min bits (ones f * hid f))
    unfolding numerator denominator
    near_bits = near (num_of p) (den_of p) (scaled f p all k e high less r l h)

    pub ok_bits : bits < ones f * hid f → Ok bits ≡ bits_in f (hexfloat text)
    ok_bits small = let same : min bits (ones f * hid f) ≡ bits = omega (arith, small) in
        sym (hexadecimal_is f text p is so
        ∙ nearest_ok f (num_of p) (den_of p) bits (subst (λ b. IsNearestBits f (num_of p) (den_of p) b) same near_bits) small)

    pub range_bits : ones f * hid f ≤ bits → Err fault.Range ≡ bits_in f (hexfloat text)
    range_bits large = let same : min bits (ones f * hid f) ≡ ones f * hid f = omega (arith, large) in
        sym (hexadecimal_is f text p is so ∙ nearest_range f (num_of p) (den_of p) (min bits (ones f * hid f)) near_bits same)
