-- Says what the bits of decimal numbers and of payloads are, and their faults.
use Rattle.std.proofs.Common.{◌≡◌, ◌∙◌, ℕ, ◌+◌, ◌*◌, ◌<◌, ◌≤◌, ◌&&◌, Bool, true, false, List, Option, None}
use Rattle.std.proofs.Common.{Some, Result, Ok, Err, refl, sym, ap, arith, lt-ltb, le-ltb, ltb-false}
use Rattle.std.specs.Prelude.{nat_lt, ◌^◌, if◌then◌else◌}
use Rattle.std.specs.Float.{Float, Format, float_is_finite, binary32, binary64}
use Rattle.std.specs.Float.Ieee.{hid, ones, round, to_bits}
use Rattle.std.specs.Float.Parse.{parse_float}
use native.Mathlib.Nat.{le_trans}
use Rattle.wat_grammar.specs.Parts.{◌>>=◌}
use Rattle.wat_grammar.specs.Floats.{cut, up, down, number, payload, float}
use Rattle.wat_tokens.specs.Numbers.{answer, sized, fits}
use Rattle.wat_tokens.specs.Fractions.{bits_in, is_digits, Form, form, is_fraction, is_exponent, is_number, plain_text, is_below, after_sign}
use Rattle.wat_tokens.specs.declared.faults.TextFault.{TextFault}
use Rattle.wat_tokens.specs.declared.faults.TextFault.TheVariants as fault
use Rattle.wat_tokens.proofs.Forwards.{when}
use Rattle.wat_tokens.proofs.Fractional.{digits_of, places_of, exponent_of, float_is}
use Rattle.wat_tokens.proofs.Numerals.{IsDecimal, parsed}

-- ---- decimal numbers

and_parts : (a b : Bool) → (a && b) ≡ true → (a ≡ true) × (b ≡ true)
and_parts true b is = (refl, is)
and_parts false b is = absurd (cc is)

no_power : (o : Option (List ℕ)) → after_sign o ≡ None → is_below o ≡ false
no_power None is = refl
no_power (Some text) is = absurd (cc is)

is_decimal : (text : List ℕ) → is_number false (form 0x45 0x65 text) ≡ true → IsDecimal (form 0x45 0x65 text)
is_decimal text is =
    let p = form 0x45 0x65 text in
    let a = and_parts (is_digits false p.whole) (is_fraction false p.fraction && is_exponent p.exponent) is in
    let b = and_parts (is_fraction false p.fraction) (is_exponent p.exponent) a.1 in
    record { whole = a.0; fraction = b.0; power = b.1; no_power = no_power (cut 0x45 0x65 text).1 }

-- the bits of a float that is a number's
abbrev pub finite_bits : Format → Float → Result ℕ TextFault
finite_bits f x = if float_is_finite x then Ok (to_bits f x) else Err fault.Range

pub number_bits : (f : Format) (n d : ℕ) → bits_in f (Some (number n d)) ≡ finite_bits f (round f false n d)
number_bits f n d = go (float_is_finite (round f false n d))
  where
    go : (b : Bool) → answer (Some (number n d)) (if b then Some (to_bits f (round f false n d)) else None)
        ≡ (if b then Ok (to_bits f (round f false n d)) else Err fault.Range)
    go true = refl
    go false = refl

abbrev value_in : Format → Form → Float
value_in f p = round f false (digits_of false p * up 10 (exponent_of p)) (10 ^ places_of false p * down 10 (exponent_of p))

pub decimal_none : (f : Format) (text : List ℕ) → is_number false (form 0x45 0x65 text) ≡ false → bits_in f (float text) ≡ Err fault.Number
decimal_none f text is =
    let p = form 0x45 0x65 text in
    ap (bits_in f) (float_is text ∙ ap (λ b. when b (number (digits_of false p * up 10 (exponent_of p)) (10 ^ places_of false p * down 10 (exponent_of p)))) is)

same_float : (x y : Float) → Some x ≡ Some y → x ≡ y
same_float x y e = cc e

pub decimal_bits : (f : Format) (text items : List ℕ) (x : Float) → is_number false (form 0x45 0x65 text) ≡ true
    → items ≡ plain_text (form 0x45 0x65 text) → parse_float f items ≡ Some x
    → bits_in f (float text) ≡ finite_bits f x
decimal_bits f text items x is so reads =
    let p = form 0x45 0x65 text in
    ap (bits_in f) (float_is text ∙ ap (λ b. when b (number (digits_of false p * up 10 (exponent_of p)) (10 ^ places_of false p * down 10 (exponent_of p)))) is)
    ∙ number_bits f (digits_of false p * up 10 (exponent_of p)) (10 ^ places_of false p * down 10 (exponent_of p))
    ∙ ap (finite_bits f) (same_float (value_in f p) x (sym (parsed f p (is_decimal text is)) ∙ ap (parse_float f) (sym so) ∙ reads))

pub decimal_reads : (f : Format) (text items : List ℕ) → is_number false (form 0x45 0x65 text) ≡ true
    → items ≡ plain_text (form 0x45 0x65 text) → parse_float f items ≡ None → ⊥
decimal_reads f text items is so reads = let p = form 0x45 0x65 text in
    let e = sym (parsed f p (is_decimal text is)) ∙ ap (parse_float f) (sym so) ∙ reads in absurd (cc e)

-- ---- payloads

abbrev payload_bits : Format → Option ℕ → Result ℕ TextFault
payload_bits f o = bits_in f (o >>= λ n. Some (payload n))

within : (f : Format) (n : ℕ) → payload_bits f (Some n) ≡ (if nat_lt 0 n && nat_lt n (hid f) then Ok (ones f * hid f + n) else Err fault.Range)
within f n = go (nat_lt 0 n && nat_lt n (hid f))
  where
    go : (b : Bool) → answer (Some (payload n)) (if b then Some (ones f * hid f + n) else None) ≡ (if b then Ok (ones f * hid f + n) else Err fault.Range)
    go true = refl
    go false = refl

pub sized_ok : (o : Option ℕ) (v : ℕ) → Ok v ≡ sized o → o ≡ Some v
sized_ok None v is = absurd (cc is)
sized_ok (Some n) v is = go (nat_lt n (2 ^ 64)) is
  where
    go : (b : Bool) → Ok v ≡ answer (Some n) (if b then Some n else None) → Some n ≡ Some v
    go true is = cc is
    go false is = absurd (cc is)

pub payload_ok : (f : Format) (o : Option ℕ) (v : ℕ) → Ok v ≡ sized o → 0 < v → v < hid f → Ok (ones f * hid f + v) ≡ payload_bits f o
payload_ok f o v is some fits = sym (ap (payload_bits f) (sized_ok o v is) ∙ within f v
    ∙ ap (λ b. if b && nat_lt v (hid f) then Ok (ones f * hid f + v) else Err fault.Range) (lt-ltb 0 v some)
    ∙ ap (λ b. if true && b then Ok (ones f * hid f + v) else Err fault.Range) (lt-ltb v (hid f) fits))

pub payload_zero : (f : Format) (o : Option ℕ) (v : ℕ) → Ok v ≡ sized o → v ≡ 0 → Err fault.Range ≡ payload_bits f o
payload_zero f o v is none = sym (ap (payload_bits f) (sized_ok o v is ∙ ap Some none) ∙ within f 0)

too_wide : (f : Format) (n : ℕ) → hid f ≤ n → payload_bits f (Some n) ≡ Err fault.Range
too_wide f n wide = within f n ∙ ap (λ b. if nat_lt 0 n && b then Ok (ones f * hid f + n) else Err fault.Range) (le-ltb n (hid f) wide) ∙ go (nat_lt 0 n)
  where
    go : (b : Bool) → (if b && false then Ok (ones f * hid f + n) else Err fault.Range) ≡ Err fault.Range
    go true = refl
    go false = refl

pub payload_wide : (f : Format) (o : Option ℕ) (v : ℕ) → Ok v ≡ sized o → hid f ≤ v → Err fault.Range ≡ payload_bits f o
payload_wide f o v is wide = sym (ap (payload_bits f) (sized_ok o v is) ∙ too_wide f v wide)

hid_most : (f : Format) → hid f ≤ 2 ^ 64
hid_most binary32 = omega arith
hid_most binary64 = omega arith

pub payload_err : (f : Format) (o : Option ℕ) (e : TextFault) → Err e ≡ sized o → Err e ≡ payload_bits f o
payload_err f None e is = is
payload_err f (Some n) e is = go (nat_lt n (2 ^ 64)) refl is
  where
    go : (b : Bool) → nat_lt n (2 ^ 64) ≡ b → Err e ≡ answer (Some n) (if b then Some n else None) → Err e ≡ payload_bits f (Some n)
    go true g is = absurd (cc is)
    go false g is = is ∙ sym (too_wide f n (le_trans (hid_most f) (ltb-false n (2 ^ 64) g)))
