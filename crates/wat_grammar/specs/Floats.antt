-- Floating-point numbers (text format: floating-point). A number of a text is a fraction of two natural numbers, so that a text
-- of any length has its value exactly. It is rounded once, at the end.
use Rattle.std.specs.Prelude.{ℕ, ◌+◌, ◌-◌, ◌*◌, ◌/◌, ◌^◌, nat_lt, ◌==◌, ◌&&◌, ◌||◌, Bool, true, false, if◌then◌else◌, List, [], ◌∷◌, Option, None, Some, codes}
use Rattle.std.specs.Float.{Format, float_is_finite}
use Rattle.std.specs.Float.Ieee.{hid, ones, top, round, to_bits}
use Rattle.wat_grammar.specs.Parts.{◌>>=◌, after}
use Rattle.wat_grammar.specs.Characters.{digit, hexdigit}
use Rattle.wat_grammar.specs.Integers.{num, hexnum, sign}

-- The characters before the first c or d, and those after it, if there is one. No num, frac, hexnum or hexfrac has the character
-- that ends it in the rules below, so a text is cut in one way. "1.5" is "1" and "5" by its '.', and "15" is "15" and nothing.
unfoldable pub cut : ℕ → ℕ → List ℕ → List ℕ × Option (List ℕ)
cut c d [] = ([], None)
cut c d (x ∷ xs) = elim (x == c || x == d) [ true ↦ ([], Some xs) | false ↦ (x ∷ (cut c d xs).0, (cut c d xs).1) ]

-- frac ::= d:digit ⇒ d/10 | d:digit '_'? p:frac ⇒ (d + p/10)/10, and hexfrac with 16 and hexdigit. The value m/10^k is (m, k),
-- where k is the number of digits: "05" is (5, 2), and "", "_5" and "5_" are none.
unfoldable pub fraction : (ℕ → Option ℕ) → ℕ → List ℕ → Option (ℕ × ℕ)
fraction digit_of radix [] = None
fraction digit_of radix (c ∷ []) = digit_of c >>= λ d. Some (d, 1)
fraction digit_of radix (c ∷ b ∷ cs) =
    digit_of c >>= λ d. elim (b == 0x5f) [ true ↦ fraction digit_of radix cs | false ↦ fraction digit_of radix (b ∷ cs) ]
    >>= λ p. Some (d * radix ^ p.1 + p.0, p.1 + 1)

abbrev pub frac : List ℕ → Option (ℕ × ℕ)
frac text = fraction digit 10 text

abbrev pub hexfrac : List ℕ → Option (ℕ × ℕ)
hexfrac text = fraction hexdigit 16 text

-- p:num '.'? ⇒ p | p:num '.' q:frac ⇒ p + q, which is (p · 10^k + m)/10^k for q = m/10^k; the same with 16. This is the part of
-- a float before its exponent: "1", "1." and "1.5" are 1/10^0, 1/10^0 and 15/10^1, and ".5" is none.
abbrev pub whole_and_fraction : (List ℕ → Option ℕ) → (List ℕ → Option (ℕ × ℕ)) → ℕ → List ℕ × Option (List ℕ) → Option (ℕ × ℕ)
whole_and_fraction whole part radix (text, None) = whole text >>= λ p. Some (p, 0)
whole_and_fraction whole part radix (text, Some []) = whole text >>= λ p. Some (p, 0)
whole_and_fraction whole part radix (text, Some (c ∷ cs)) =
    whole text >>= λ p. part (c ∷ cs) >>= λ q. Some (p * radix ^ q.1 + q.0, q.1)

-- ±:sign e:num, after 'e' or 'p', if there is one: whether it is −, and e. No exponent is 0.
abbrev pub exponent : Option (List ℕ) → Option (Bool × ℕ)
exponent None = Some (false, 0)
exponent (Some text) = num (sign text).1 >>= λ e. Some ((sign text).0, e)

-- b^±e, as a numerator and a denominator
abbrev pub up : ℕ → Bool × ℕ → ℕ
up b e = if e.0 then 1 else b ^ e.1

abbrev pub down : ℕ → Bool × ℕ → ℕ
down b e = if e.0 then b ^ e.1 else 1

-- What fNmag gives, before it is rounded and before its range is looked at.
pub data Magnitude : Type 0 where
  number : ℕ → ℕ → Magnitude
  infinity : Magnitude
  canonical : Magnitude
  payload : ℕ → Magnitude

-- float ::= p:num '.'? ⇒ p | p:num '.' q:frac ⇒ p + q | p:num '.'? ('E' | 'e') ±:sign e:num ⇒ p · 10^±e
-- | p:num '.' q:frac ('E' | 'e') ±:sign e:num ⇒ (p + q) · 10^±e. "1.5e-2" is 15/1000.
abbrev pub float : List ℕ → Option Magnitude
float text =
    whole_and_fraction num frac 10 (cut 0x2e 0x2e (cut 0x45 0x65 text).0) >>= λ m. exponent (cut 0x45 0x65 text).1 >>= λ e.
    Some (number (m.0 * up 10 e) (10 ^ m.1 * down 10 e))

-- hexfloat is float with hexnum, hexfrac, 'P' and 'p' and a power of 2, after '0x': "1.8p1" is 24 · 2/16. The exponent is decimal.
abbrev pub hexfloat : List ℕ → Option Magnitude
hexfloat text =
    whole_and_fraction hexnum hexfrac 16 (cut 0x2e 0x2e (cut 0x50 0x70 text).0) >>= λ m. exponent (cut 0x50 0x70 text).1 >>= λ e.
    Some (number (m.0 * up 2 e) (16 ^ m.1 * down 2 e))

-- 'inf' ⇒ ∞: after it
abbrev pub inf : List ℕ → Option Magnitude
inf [] = Some infinity
inf (c ∷ cs) = None

-- 'nan' ⇒ nan(canon_N) | 'nan:0x' n:hexnum ⇒ nan(n): after 'nan'
abbrev pub nan : List ℕ → Option Magnitude
nan [] = Some canonical
nan (c ∷ cs) = after (codes ":0x") (c ∷ cs) >>= λ digits. hexnum digits >>= λ n. Some (payload n)

-- fNmag ::= z:float | z:hexfloat | 'inf' | 'nan' | 'nan:0x' n:hexnum, without its ranges. No text has two of these forms, because
-- a float begins with a digit and has no 'x'. "infinity", "0x", "nan:1" and "1_.0" are none.
abbrev pub magnitude : List ℕ → Option Magnitude
magnitude text = elim (after (codes "0x") text) [
  | Some digits ↦ hexfloat digits
  | None ↦ elim (after (codes "nan") text) [ Some rest ↦ nan rest | None ↦ elim (after (codes "inf") text) [ Some rest ↦ inf rest | None ↦ float text ] ]
]

-- The bits of a magnitude in the format of N bits, if it is in range. fNmag ::= z:float ⇒ float_N(z), if float_N(z) ≠ ±∞; so for
-- hexfloat; | 'inf' ⇒ ∞ | 'nan' ⇒ nan(2^(signif(N) − 1)) | 'nan:0x' n:hexnum ⇒ nan(n), if 1 ≤ n < 2^signif(N). float_N rounds to
-- the nearest, and to even if two are as near (numerics: rounding), which `round` of the standard library does. The exponent field
-- of infinity and of a nan has only ones, and `hid` is 2^signif(N), by which a field is shifted (binary format of IEEE 754).
abbrev pub bits_of : Format → Magnitude → Option ℕ
bits_of f (number n d) = if float_is_finite (round f false n d) then Some (to_bits f (round f false n d)) else None
bits_of f infinity = Some (ones f * hid f)
bits_of f canonical = Some (ones f * hid f + hid f / 2)
bits_of f (payload n) = if nat_lt 0 n && nat_lt n (hid f) then Some (ones f * hid f + n) else None

-- fN ::= ±:sign z:fNmag ⇒ ±z: the bits, of which the highest one is the sign. For N = 32, "-0x1p-149" is 0x8000_0001.
abbrev pub fN : Format → List ℕ → Option ℕ
fN f text = magnitude (sign text).1 >>= λ z. bits_of f z >>= λ b. Some (if (sign text).0 then top f + b else b)
