-- What the functions that read floats compute on the way from a text to its bits. The rules are those of wat_grammar.
use Rattle.std.specs.Prelude.{◌≡◌, ℕ, suc, ◌+◌, ◌*◌, ◌/◌, ◌%◌, ◌^◌, ◌<◌, ◌≤◌, nat_lt, ◌==◌, ◌&&◌, Bool, true, false, if◌then◌else◌}
use Rattle.std.specs.Prelude.{List, [], ◌∷◌, ◌++◌, Option, None, Some, is_some, option_map, length, codes, ⊤, Result, Ok, Err}
use Rattle.std.specs.Float as Float
use Rattle.std.specs.Float.{binary32, binary64}
use Rattle.std.specs.Float.Ieee.{low}
use Rattle.wat_grammar.specs.Characters.{digit}
use Rattle.wat_grammar.specs.Integers.{sign, hexnum}
use Rattle.wat_grammar.specs.Parts.{◌>>=◌, after}
use Rattle.wat_grammar.specs.Floats.{cut, Magnitude, payload, bits_of}
use Rattle.wat_tokens.specs.Numbers.{digit_in, answer}
use Rattle.wat_tokens.specs.declared.floats.Leading.{Leading}
use Rattle.wat_tokens.specs.declared.floats.Pieces.{Pieces}
use Rattle.wat_tokens.specs.declared.floats.Format.{Format}
use Rattle.wat_tokens.specs.declared.floats.Format.TheVariants as format
use Rattle.wat_tokens.specs.declared.faults.TextFault.{TextFault}
use Rattle.wat_tokens.specs.declared.faults.TextFault.TheVariants as fault

-- The result is this one, or the error is Memory, which only what may lack memory has.
abbrev pub UnlessMemory : {T : Type 0} → Type 0 → Result T TextFault → Result T TextFault → Type 0
UnlessMemory may_lack (Ok value) expected = Ok value ≡ expected
UnlessMemory may_lack (Err e) expected = ¬ ((e ≡ fault.Memory) × may_lack) → Err e ≡ expected

-- Reading a text without its sign may lack memory if it is none of the forms that are not decimal, or has 2^59 hexadecimal digits
-- or more. So "0x1p4", "inf" and "nan:0x1" are read without memory.
abbrev pub MayLack : List ℕ → Type 0
MayLack text = elim (after (codes "0x") text) [
  | Some digits ↦ 2 ^ 59 ≤ length digits
  | None ↦ elim (after (codes "nan") text) [ Some rest ↦ ⊥ | None ↦ elim (after (codes "inf") text) [ Some rest ↦ ⊥ | None ↦ ⊤ ] ]
]

-- what the bits of a number are in a format, and the fault if it has none
abbrev pub bits_in : Float.Format → Option Magnitude → Result ℕ TextFault
bits_in f z = answer z (z >>= λ z. bits_of f z)

-- a payload, by its digits
abbrev pub payload_of : List ℕ → Option Magnitude
payload_of text = hexnum text >>= λ n. Some (payload n)

-- a format by its name in the code
abbrev pub ieee : Format → Float.Format
ieee format.Single = binary32
ieee format.Double = binary64

-- Digits with underscores between them, read from the left; whether a digit is before them. "1_0" is, and "", "_1" and "1_" are not.
unfoldable pub is_digits_after : (ℕ → Option ℕ) → Bool → List ℕ → Bool
is_digits_after digit_of after_digit [] = after_digit
is_digits_after digit_of after_digit (c ∷ cs) = elim (c == 0x5f && after_digit) [
  | true ↦ is_digits_after digit_of false cs
  | false ↦ elim (is_some (digit_of c)) [ true ↦ is_digits_after digit_of true cs | false ↦ false ]
]

abbrev pub is_digits : Bool → List ℕ → Bool
is_digits is_hex text = is_digits_after (digit_in is_hex) false text

-- the number that digits give after those of n, and how many digits there are; other characters count for nothing
unfoldable pub value_after : (ℕ → Option ℕ) → ℕ → ℕ → List ℕ → ℕ
value_after digit_of radix n [] = n
value_after digit_of radix n (c ∷ cs) = elim (digit_of c) [ Some d ↦ value_after digit_of radix (radix * n + d) cs | None ↦ value_after digit_of radix n cs ]

unfoldable pub count : (ℕ → Option ℕ) → List ℕ → ℕ
count digit_of [] = 0
count digit_of (c ∷ cs) = elim (digit_of c) [ Some d ↦ suc (count digit_of cs) | None ↦ count digit_of cs ]

-- without underscores
unfoldable pub bare : List ℕ → List ℕ
bare [] = []
bare (c ∷ cs) = elim (c == 0x5f) [ true ↦ bare cs | false ↦ c ∷ bare cs ]

-- A number in pieces: "1.5e-2" is "1", "5", − and "2".
pub record Form : Type 0 where
  pub whole : List ℕ
  pub fraction : List ℕ
  pub is_negative : Bool
  pub exponent : Option (List ℕ)

abbrev pub or_empty : Option (List ℕ) → List ℕ
or_empty None = []
or_empty (Some text) = text

abbrev pub is_below : Option (List ℕ) → Bool
is_below None = false
is_below (Some text) = (sign text).0

abbrev pub after_sign : Option (List ℕ) → Option (List ℕ)
after_sign None = None
after_sign (Some text) = Some (sign text).1

-- the pieces, where c or d begins the exponent
abbrev pub form : ℕ → ℕ → List ℕ → Form
form c d text = record {
  whole = (cut 0x2e 0x2e (cut c d text).0).0;
  fraction = or_empty (cut 0x2e 0x2e (cut c d text).0).1;
  is_negative = is_below (cut c d text).1;
  exponent = after_sign (cut c d text).1;
}

abbrev pub is_fraction : Bool → List ℕ → Bool
is_fraction is_hex [] = true
is_fraction is_hex (c ∷ cs) = is_digits is_hex (c ∷ cs)

abbrev pub is_exponent : Option (List ℕ) → Bool
is_exponent None = true
is_exponent (Some text) = is_digits false text

-- whether the pieces are those of a number
abbrev pub is_number : Bool → Form → Bool
is_number is_hex p = is_digits is_hex p.whole && (is_fraction is_hex p.fraction && is_exponent p.exponent)

-- the text that the kit reads: no underscores, 'e' and no '+'
abbrev pub fraction_text : List ℕ → List ℕ
fraction_text [] = []
fraction_text (c ∷ cs) = 0x2e ∷ bare (c ∷ cs)

abbrev pub power_text : Bool → Option (List ℕ) → List ℕ
power_text is_negative None = []
power_text is_negative (Some text) = 0x65 ∷ ((if is_negative then 0x2d ∷ [] else []) ++ bare text)

abbrev pub plain_text : Form → List ℕ
plain_text p = bare p.whole ++ (fraction_text p.fraction ++ power_text p.is_negative p.exponent)

-- the pieces that the code has
abbrev pub seen : Pieces → Form
seen p = record { whole = p.whole.now; fraction = p.fraction.now; is_negative = p.is_negative; exponent = option_map (λ r. r.now) p.exponent }

-- the number of an exponent
abbrev pub power_of : Option (List ℕ) → ℕ
power_of None = 0
power_of (Some text) = value_after digit 10 0 text

-- What is kept of the digits of n: their first ones, and whether more is left.
pub record Keeps (n : ℕ) (s : Leading) : Type 0 where
  pub rest : ℕ
  pub total : n ≡ s.mantissa * 16 ^ s.dropped + rest
  pub small : rest < 16 ^ s.dropped
  pub more : s.is_more ≡ nat_lt 0 rest
  pub long : 0 < s.dropped → 2 ^ 59 ≤ s.mantissa
  pub fits : s.mantissa < 2 ^ 63

-- r is n over 2^k, rounded to the nearest and to even; n is a little more if is_more says so.
pub record IsHalved (n k : ℕ) (is_more : Bool) (r : ℕ) : Type 0 where
  pub below : 2 * (n % 2 ^ k) < 2 ^ k → r ≡ n / 2 ^ k
  pub above : 2 ^ k < 2 * (n % 2 ^ k) → r ≡ n / 2 ^ k + 1
  pub more : 2 * (n % 2 ^ k) ≡ 2 ^ k → is_more ≡ true → r ≡ n / 2 ^ k + 1
  pub tie : 2 * (n % 2 ^ k) ≡ 2 ^ k → is_more ≡ false → r ≡ n / 2 ^ k + n / 2 ^ k % 2

-- num / den is m times 2^place over 2^4096 of the least number above zero, or a little more.
pub record IsScaled (f : Float.Format) (num den m : ℕ) (is_more : Bool) (place : ℕ) : Type 0 where
  pub positive : 0 < den
  pub from : m * (den * 2 ^ place) ≤ num * 2 ^ low f * 2 ^ 4096
  pub below : num * 2 ^ low f * 2 ^ 4096 < (m + 1) * (den * 2 ^ place)
  pub exact : is_more ≡ false → num * 2 ^ low f * 2 ^ 4096 ≡ m * (den * 2 ^ place)
  pub more : is_more ≡ true → m * (den * 2 ^ place) < num * 2 ^ low f * 2 ^ 4096
  pub long : is_more ≡ true → 2 ^ 59 ≤ m
