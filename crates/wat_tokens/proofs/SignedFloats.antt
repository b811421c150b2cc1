-- Closes what the sign of a float leaves: the bits of a magnitude are below that of the sign.
use Rattle.std.proofs.Common.{◌≡◌, ◌∙◌, ℕ, zero, suc, ◌+◌, ◌*◌, ◌/◌, ◌%◌, ◌<◌, ◌&&◌, Bool, true, false}
use Rattle.std.proofs.Common.{Option, None, Some, Ok, refl, sym, ap, subst, arith, ltb-true, leb-false}
use Rattle.std.specs.Prelude.{nat_lt, ◌^◌, if◌then◌else◌}
use Rattle.std.specs.Float.{Float, Format, float_is_finite}
use Rattle.std.specs.Float.Ieee.{nan, inf, fin, prec, low, emax, hid, ones, top, odd, units, round, of_bits, of_fields, to_bits}
use mathlib.Core.Bool.{cond}
use lib.Dec.{leb, eqb, ltb}
use lib.Ieee.Bits.{of_bits-to_bits}
use lib.Ieee.Fits.{round_is, round-fits}
use Rattle.fast_float.proofs.Patterns.{shape}
use Rattle.wat_grammar.specs.Floats.{Magnitude, number, infinity, canonical, payload, bits_of}
use Rattle.wat_tokens.specs.Numbers.{answer}
use Rattle.wat_tokens.specs.Fractions.{bits_in}

-- ---- the sign of a float

is_minus : Float → Bool
is_minus nan = false
is_minus (inf s) = s
is_minus (fin s m e) = s

odd_sign : (d : ℕ) (s : Bool) (q k l : ℕ) → is_minus (odd d s q k l) ≡ s
unfolding odd is_minus
odd_sign d s zero k l = refl
odd_sign d s (suc q) k l = refl

units_sign : (f : Format) (s : Bool) (q k : ℕ) → is_minus (units f s q k) ≡ s
unfolding units is_minus
units_sign f s q k = go (ltb (q * 2 ^ k) (2 ^ (low f + suc (emax f))))
  where
    go : (b : Bool) → is_minus (cond b (odd (suc (prec f)) s q k (low f)) (inf s)) ≡ s
    go true = odd_sign (suc (prec f)) s q k (low f)
    go false = refl

round_sign : (f : Format) (s : Bool) (n d : ℕ) → is_minus (round f s n d) ≡ s
round_sign f s n d = ap is_minus (round_is f s n d) ∙ units_sign f s _ _

fields_sign : (f : Format) (s : Bool) (x t : ℕ) → float_is_finite (of_fields f s x t) ≡ true → is_minus (of_fields f s x t) ≡ s
unfolding of_fields is_minus float_is_finite
fields_sign f s zero t is = odd_sign (prec f) s t 0 (low f)
fields_sign f s (suc x) t is = go (eqb (suc x) (ones f)) (eqb t 0) is
  where
    go : (a b : Bool) → float_is_finite (cond a (cond b (inf s) nan) (odd (prec f) s (hid f + t) x (low f))) ≡ true
        → is_minus (cond a (cond b (inf s) nan) (odd (prec f) s (hid f + t) x (low f))) ≡ s
    go true true is = refl
    go true false is = absurd (cc is)
    go false b is = odd_sign (prec f) s (hid f + t) x (low f)

bits_sign : (f : Format) (b : ℕ) → float_is_finite (of_bits f b) ≡ true → is_minus (of_bits f b) ≡ leb (top f) b
unfolding of_bits
bits_sign f b is = fields_sign f (leb (top f) b) (b % top f / hid f) (b % hid f) is

round_below : (f : Format) (n d : ℕ) → float_is_finite (round f false n d) ≡ true → to_bits f (round f false n d) < top f
round_below f n d is =
    let x = round f false n d in
    let back = of_bits-to_bits f x (round-fits f false n d) in
    let plus : leb (top f) (to_bits f x) ≡ false = sym (bits_sign f (to_bits f x) (ap float_is_finite back ∙ is)) ∙ ap is_minus back ∙ round_sign f false n d in
    leb-false (top f) (to_bits f x) plus

-- ---- the bits of a magnitude, and the sign above them

small_bits : (f : Format) (z : Magnitude) (b : ℕ) → bits_of f z ≡ Some b → b < top f
small_bits f (number n d) b is = go (float_is_finite (round f false n d)) refl is
  where
    go : (c : Bool) → float_is_finite (round f false n d) ≡ c → (if c then Some (to_bits f (round f false n d)) else None) ≡ Some b → b < top f
    go true g is = subst (λ k. k < top f) (cc is) (round_below f n d g)
    go false g is = absurd (cc is)
small_bits f infinity b is = let e : ones f * hid f ≡ b = cc is in omega (arith, e, (shape f).some)
small_bits f canonical b is = let e : ones f * hid f + hid f / 2 ≡ b = cc is in omega (arith, e, (shape f).some)
small_bits f (payload n) b is = go (nat_lt 0 n) (nat_lt n (hid f)) refl is
  where
    go : (x y : Bool) → nat_lt n (hid f) ≡ y → (if x && y then Some (ones f * hid f + n) else None) ≡ Some b → b < top f
    go true true g is = let e : ones f * hid f + n ≡ b = cc is in omega (arith, e, ltb-true n (hid f) g)
    go true false g is = absurd (cc is)
    go false y g is = absurd (cc is)

pub below_sign : (f : Format) (o : Option Magnitude) (b : ℕ) → Ok b ≡ bits_in f o → b < top f
below_sign f None b is = absurd (cc is)
below_sign f (Some z) b is = go (bits_of f z) refl is
  where
    go : (o : Option ℕ) → bits_of f z ≡ o → Ok b ≡ answer (Some z) o → b < top f
    go None e is = absurd (cc is)
    go (Some k) e is = small_bits f z b (e ∙ same is)
      where
        same : Ok b ≡ answer (Some z) (Some k) → Some k ≡ Some b
        same is = cc is
