-- Closes what the rounding of a hexadecimal number leaves: a cut mantissa gives the bits of the float nearest to the fraction.
use Rattle.std.proofs.Common.{◌≡◌, ◌∙◌, ℕ, zero, suc, ◌+◌, ◌-◌, ◌*◌, ◌/◌, ◌%◌, ◌<◌, ◌≤◌, ◌⊎◌, inl, inr, Bool, true, false, refl, sym, ap, subst, arith}
use Rattle.std.specs.Prelude.{min, ◌^◌}
use Rattle.std.specs.Float.{Format}
use Rattle.std.specs.Float.Ieee.{prec, low, hid, ones}
use native.Mathlib.Nat.{eq-zero-or-pos, mul-le-mul_right, mul-lt-mul_of_pos_right, le_of_mul-le-mul_right, lt_of_mul-lt-mul_right}
use native.Mathlib.Nat.{lt_of_lt_of_le, div-add-mod', mod-lt, div-lt_iff_lt-mul, le-div_iff_mul-le, mul-pos, not-le_of_lt}
use native.Mathlib.Nat.{le_antisymm, le_of_eq, le_trans, mod-eq_of_lt, div-eq_of_lt, pow-suc, pow-zero, eq-or-lt_of_le}
use Rattle.std.proofs.lemmas.Bool.{cases_lt}
use Rattle.std.proofs.lemmas.Nat.{mul-le}
use lib.Pow.{pow_pos, pow_mono, pow-add}
use Rattle.fast_float.specs.Rounding.{scaled_bits, IsNearestBits, IsSignificand}
use Rattle.fast_float.proofs.Patterns.{shape}
use Rattle.fast_float.proofs.RoundingLemmas.{nearest_below, nearest_tie, nearest_above}
use Rattle.wat_tokens.specs.Fractions.{IsHalved, IsScaled}

pub halved_away : (n k : ℕ) (more : Bool) → n < 2 ^ 63 → 63 < k → IsHalved n k more 0
halved_away n k more small far =
    let unit : 2 ^ 64 ≤ 2 ^ k = pow_mono far in
    let none : n / 2 ^ k ≡ 0 = div-eq_of_lt (omega (arith, unit)) in
    let all : n % 2 ^ k ≡ n = mod-eq_of_lt (omega (arith, unit)) in
    record {
      below = λ l. sym none;
      above = λ l. absurd (omega (arith, all, unit));
      more = λ e b. absurd (omega (arith, all, unit));
      tie = λ e b. absurd (omega (arith, all, unit));
    }

-- the width of a mantissa, and how many steps its last bit is above the least
pub record IsPlaced (f : Format) (m x w steps : ℕ) : Type 0 where
  pub some : 0 < w
  pub from : 2 ^ (w - 1) ≤ m
  pub below : m < 2 ^ w
  pub steps_is : steps ≡ x + w - (4096 + prec f)

module _ (f : Format) (m x w steps : ℕ) (p : IsPlaced f m x w steps) where
  fits_left : (u : ℕ) → steps + 4096 + u ≡ x → m * 2 ^ u < 2 ^ prec f
  fits_left u U = let g = shape f in lt_of_lt_of_le (mul-lt-mul_of_pos_right p.below (pow_pos u))
      (le_trans (le_of_eq (sym (pow-add 2 w u))) (pow_mono (omega (arith, p.steps_is, g.digits.0))))

  fits_right : (t : ℕ) → x + t ≡ steps + 4096 → m / 2 ^ t < 2 ^ prec f
  fits_right t U =
      let g = shape f in
      (div-lt_iff_lt-mul (pow_pos t)).1 (lt_of_lt_of_le p.below (le_trans (pow_mono (omega (arith, p.steps_is, g.digits.0))) (le_of_eq (pow-add 2 (prec f) t))))

  significand_most : 2 ^ prec f ≤ 2 ^ 53
  significand_most = pow_mono (shape f).digits.1

  -- the sum of the steps and a significand has 64 bits
  sum_fits : (s : ℕ) → x ≤ 7168 → w ≤ 64 → s ≤ 2 ^ 53 → hid f ≤ 2 ^ 52 → steps * hid f + s < 2 ^ 64
  sum_fits s X W S H =
      let g = shape f in
      let k : steps ≤ 3112 = omega (arith, p.steps_is, g.digits.0) in
      omega (arith, mul-le steps (hid f) 3112 (2 ^ 52) k H)

pub left_fits : (f : Format) (m x w steps u s : ℕ) → IsPlaced f m x w steps → steps + 4096 + u ≡ x
    → s ≡ m * 2 ^ u % 2 ^ 64 → x ≤ 7168 → w ≤ 64 → hid f ≤ 2 ^ 52 → (s ≡ m * 2 ^ u) × (steps * hid f + s < 2 ^ 64)
left_fits f m x w steps u s p U is X W H =
    let small = fits_left f m x w steps p u U in
    let most = significand_most f m x w steps p in
    let e : s ≡ m * 2 ^ u = is ∙ mod-eq_of_lt (omega (arith, small, most)) in
    (e, sum_fits f m x w steps p s X W (omega (arith, e, small, most)) H)

halved_most : (n k : ℕ) (more : Bool) (r : ℕ) → IsHalved n k more r → r ≤ n / 2 ^ k + 1
halved_most n k more r h = elim (cases_lt (2 * (n % 2 ^ k)) (2 ^ k)) [
  | inl l ↦ omega (arith, h.below l)
  | inr g ↦ elim (eq-or-lt_of_le g) [ inr l ↦ omega (arith, h.above l) | inl e ↦ go more refl (sym e) ]
]
  where
    go : (b : Bool) → more ≡ b → 2 * (n % 2 ^ k) ≡ 2 ^ k → r ≤ n / 2 ^ k + 1
    go true is e = omega (arith, h.more e is)
    go false is e = omega (arith, h.tie e is)

pub right_fits : (f : Format) (m x w steps t s : ℕ) (more : Bool) → IsPlaced f m x w steps → x + t ≡ steps + 4096
    → IsHalved m t more s → x ≤ 7168 → w ≤ 64 → hid f ≤ 2 ^ 52 → steps * hid f + s < 2 ^ 64
right_fits f m x w steps t s more p U is X W H =
    sum_fits f m x w steps p s X W (omega (arith, halved_most m t more s is, fits_right f m x w steps p t U, significand_most f m x w steps p)) H

module _ (f : Format) (num den m x w steps : ℕ) (more : Bool) (p : IsPlaced f m x w steps) (h : IsScaled f num den m more x) where
  wide : more ≡ true → 60 ≤ w
  wide is = elim (eq-zero-or-pos (60 - w)) [
    | inl z ↦ omega arith
    | inr s ↦ (let l : w ≤ 59 = omega arith in absurd (not-le_of_lt (lt_of_lt_of_le p.below (pow_mono l)) (h.long is)))
  ]

  -- where a bit of the mantissa is not dropped, it has all of the number
  whole : steps + 4096 ≤ x → num * 2 ^ low f * 2 ^ 4096 ≡ m * (den * 2 ^ x)
  whole l = go more refl
    where
      go : (b : Bool) → more ≡ b → num * 2 ^ low f * 2 ^ 4096 ≡ m * (den * 2 ^ x)
      go true is = let s = shape f in absurd (omega (arith, wide is, p.steps_is, s.digits.1))
      go false is = h.exact is

  unit_pos : 0 < den * 2 ^ x
  unit_pos = mul-pos h.positive (pow_pos x)

  value_pos : 0 < den * 2 ^ steps
  value_pos = mul-pos h.positive (pow_pos steps)

  shift_pos : 0 < 2 ^ 4096
  shift_pos = pow_pos 4096

  -- ---- to the left, with all of the number
  module _ (u s : ℕ) (U : steps + 4096 + u ≡ x) (S : s ≡ m * 2 ^ u) where
    same_left : den * 2 ^ steps * 2 ^ 4096 * 2 ^ u ≡ den * 2 ^ x
    same_left =
        let e : 2 ^ x ≡ 2 ^ steps * 2 ^ 4096 * 2 ^ u = ap (λ k. 2 ^ k) (sym U) ∙ pow-add 2 (steps + 4096) u ∙ ap (λ y. y * 2 ^ u) (pow-add 2 steps 4096) in
        omega (arith, ap (λ y. den * y) e)

    exact_left : s * (den * 2 ^ steps) * 2 ^ 4096 ≡ num * 2 ^ low f * 2 ^ 4096
    exact_left = omega (arith, ap (λ y. y * (den * 2 ^ steps) * 2 ^ 4096) S, ap (λ y. m * y) same_left, whole (omega arith))

    equal_left : s * (den * 2 ^ steps) ≡ num * 2 ^ low f
    equal_left = le_antisymm (le_of_mul-le-mul_right (le_of_eq exact_left) shift_pos) (le_of_mul-le-mul_right (le_of_eq (sym exact_left)) shift_pos)

    significand_left : IsSignificand f s steps
    significand_left =
        let g = shape f in
        record {
          fits = subst (λ y. y < 2 ^ prec f) (sym S) (fits_left f m x w steps p u U);
          normal = λ some. subst (λ y. hid f ≤ y) (sym S)
              (le_trans (le_trans (pow_mono (omega (arith, p.steps_is, p.some, g.digits.0))) (le_of_eq (pow-add 2 (w - 1) u)))
              (mul-le-mul_right (2 ^ u) p.from));
        }

    pub rounded_left : IsNearestBits f num den (min (steps * hid f + s) (ones f * hid f))
    rounded_left =
        nearest_below f num den s steps h.positive
        (record { significand = significand_left; from = le_of_eq equal_left; below = omega (arith, equal_left, value_pos) })
        (omega (arith, equal_left, value_pos))

  -- ---- to the right, where bits are dropped
  module _ (t s : ℕ) (U : x + t ≡ steps + 4096) (S : IsHalved m t more s) where
    kept : ℕ
    kept = m / 2 ^ t

    rest : ℕ
    rest = m % 2 ^ t

    same_right : den * 2 ^ steps * 2 ^ 4096 ≡ den * 2 ^ x * 2 ^ t
    same_right =
        let e : 2 ^ x * 2 ^ t ≡ 2 ^ steps * 2 ^ 4096 = sym (pow-add 2 x t) ∙ ap (λ k. 2 ^ k) U ∙ pow-add 2 steps 4096 in
        omega (arith, ap (λ y. den * y) e)

    parts : kept * 2 ^ t + rest ≡ m
    unfolding kept rest
    parts = div-add-mod' m (2 ^ t)

    small : rest < 2 ^ t
    unfolding rest
    small = mod-lt m (pow_pos t)

    value_right : kept * (den * 2 ^ steps) * 2 ^ 4096 ≡ kept * 2 ^ t * (den * 2 ^ x)
    value_right = omega (arith, ap (λ y. kept * y) same_right)

    from_right : kept * (den * 2 ^ steps) ≤ num * 2 ^ low f
    from_right =
        let l : kept * 2 ^ t ≤ m = omega (arith, parts) in
        le_of_mul-le-mul_right {k = 2 ^ 4096} (omega (arith, value_right, mul-le-mul_right (den * 2 ^ x) l, h.from)) shift_pos

    below_right : num * 2 ^ low f < (kept + 1) * (den * 2 ^ steps)
    below_right =
        let l : m + 1 ≤ kept * 2 ^ t + 2 ^ t = omega (arith, parts, small) in
        lt_of_mul-lt-mul_right (2 ^ 4096) (omega (arith, value_right, same_right, mul-le-mul_right (den * 2 ^ x) l, h.below))

    significand_right : IsSignificand f kept steps
    unfolding kept
    significand_right =
        let g = shape f in
        record {
          fits = fits_right f m x w steps p t U;
          normal = λ some. (le-div_iff_mul-le (pow_pos t)).1 (le_trans
              (le_trans (le_of_eq (sym (pow-add 2 (prec f - 1) t))) (pow_mono (omega (arith, p.steps_is, p.some, g.digits.0)))) p.from);
        }

    -- half of a step, or none if no bit is dropped
    halves : (2 ^ t ≡ 1) ⊎ ((half : ℕ) × (2 ^ t ≡ 2 * half))
    halves = go t
      where
        go : (t : ℕ) → (2 ^ t ≡ 1) ⊎ ((half : ℕ) × (2 ^ t ≡ 2 * half))
        go zero = inl (pow-zero 2)
        go (suc k) = inr (2 ^ k, omega (arith, pow-suc 2 k))

    halfway : (2 * kept + 1) * (den * 2 ^ steps) * 2 ^ 4096 ≡ (2 * (kept * 2 ^ t) + 2 ^ t) * (den * 2 ^ x)
    halfway = omega (arith, value_right, same_right)

    lower : 2 * rest < 2 ^ t → 2 * (num * 2 ^ low f) < (2 * kept + 1) * (den * 2 ^ steps)
    lower l = lt_of_mul-lt-mul_right (2 ^ 4096) (elim halves [
      | inl one ↦
          let none : rest ≡ 0 = omega (arith, small, one) in
          let e : m ≡ kept * 2 ^ t = omega (arith, parts) in
          let all = whole (no_shift one) in
          omega (arith, halfway, all, ap (λ y. y * (den * 2 ^ x)) e, ap (λ y. y * (den * 2 ^ x)) one, unit_pos)
      | inr half ↦
          let e : 2 * (m + 1) ≤ 2 * (kept * 2 ^ t) + 2 ^ t = omega (arith, parts, half.1) in
          omega (arith, halfway, mul-le-mul_right (den * 2 ^ x) e, h.below)
    ])
      where
        no_shift : 2 ^ t ≡ 1 → steps + 4096 ≤ x
        no_shift one = go t refl
          where
            go : (k : ℕ) → t ≡ k → steps + 4096 ≤ x
            go zero e = omega (arith, U)
            go (suc k) e = absurd (omega (arith, one, ap (λ j. 2 ^ j) e, pow-suc 2 k))

    upper : 2 ^ t < 2 * rest → (2 * kept + 1) * (den * 2 ^ steps) < 2 * (num * 2 ^ low f)
    upper l =
        let e : 2 * (kept * 2 ^ t) + 2 ^ t + 1 ≤ 2 * m = omega (arith, parts) in
        lt_of_mul-lt-mul_right (2 ^ 4096) (omega (arith, halfway, mul-le-mul_right (den * 2 ^ x) e, h.from, unit_pos))

    upper_more : 2 * rest ≡ 2 ^ t → more ≡ true → (2 * kept + 1) * (den * 2 ^ steps) < 2 * (num * 2 ^ low f)
    upper_more l is =
        let e : 2 * (kept * 2 ^ t) + 2 ^ t ≡ 2 * m = omega (arith, parts) in
        lt_of_mul-lt-mul_right (2 ^ 4096) (omega (arith, halfway, ap (λ y. y * (den * 2 ^ x)) e, h.more is))

    even : 2 * rest ≡ 2 ^ t → more ≡ false → 2 * (num * 2 ^ low f) ≡ (2 * kept + 1) * (den * 2 ^ steps)
    even l is =
        let e : 2 * (kept * 2 ^ t) + 2 ^ t ≡ 2 * m = omega (arith, parts) in
        let same : 2 * (num * 2 ^ low f) * 2 ^ 4096
        ≡ (2 * kept + 1) * (den * 2 ^ steps) * 2 ^ 4096 = omega (arith, halfway, ap (λ y. y * (den * 2 ^ x)) e, h.exact is) in
        le_antisymm (le_of_mul-le-mul_right (le_of_eq same) shift_pos) (le_of_mul-le-mul_right (le_of_eq (sym same)) shift_pos)

    nearest_by : {q : ℕ} → s ≡ q → IsNearestBits f num den (scaled_bits f q steps) → IsNearestBits f num den (min (steps * hid f + s) (ones f * hid f))
    nearest_by e is = subst (λ q. IsNearestBits f num den (scaled_bits f q steps)) (sym e) is

    pub rounded_right : IsNearestBits f num den (min (steps * hid f + s) (ones f * hid f))
    unfolding kept rest
    rounded_right = elim (cases_lt (2 * rest) (2 ^ t)) [
      | inl l ↦ nearest_by (S.below l) (nearest_below f num den kept steps h.positive
          (record { significand = significand_right; from = from_right; below = below_right }) (lower l))
      | inr g ↦ elim (eq-or-lt_of_le g) [
        | inr l ↦ nearest_by (S.above l) (nearest_above f num den kept steps h.positive
            (record { significand = significand_right; from = from_right; below = below_right }) (upper l))
        | inl e ↦ go more refl (sym e)
      ]
    ]
      where
        go : (b : Bool) → more ≡ b → 2 * rest ≡ 2 ^ t → IsNearestBits f num den (min (steps * hid f + s) (ones f * hid f))
        go true is e = nearest_by (S.more e is) (nearest_above f num den kept steps h.positive
            (record { significand = significand_right; from = from_right; below = below_right }) (upper_more e is))
        go false is e = nearest_by (S.tie e is) (nearest_tie f num den kept steps h.positive
            (record { significand = significand_right; from = from_right; below = below_right }) (even e is))
