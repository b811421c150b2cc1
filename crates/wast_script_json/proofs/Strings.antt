-- The bytes of a string, character by character: what is an escape, and what is as it is.
use Rattle.std.proofs.Common.{◌≡◌, ℕ, suc, ◌-◌, ◌/◌, ◌%◌, ◌^◌, ◌<◌, ◌≤◌, true, false, ◌||◌, ◌==◌, nat_lt, List, [], ◌∷◌, ◌++◌, length}
use Rattle.std.proofs.Common.{get_or, encode_utf8, inl, inr, refl, sym, ap, ap₂, ◌∙◌, arith, append-nil}
use Rattle.std.proofs.lemmas.Bool.{cases_lt, le-ltb, ne_eqb, ltb-true, eqb-true, or_parts, or_from, or_cases, cond-true, cond-false}
use Rattle.std.proofs.lemmas.Fmt.{hex_one_digit, hex_two_digits}
use Rattle.std.proofs.lemmas.Grind.{flat_map-append}
use Rattle.std.proofs.lemmas.List.{nil_from_length}
use Rattle.std.proofs.lemmas.Str.{encode_ascii, inside_one}
use Rattle.std.specs.Fmt.{char_count, digits, digit_glyph, format_spec, padded_integral}
use Rattle.std.specs.List.{flat_map, list_any}
use Rattle.wast_script_json.specs.Json.{is_escaped, escape, shown, escaped}

pub no_bytes : (text : List ℕ) → length text ≡ 0 → escaped text ≡ []
unfolding escaped
no_bytes text none = ap (flat_map shown) (nil_from_length text none)

-- a text that begins with a character
pub first_character : (text rest : List ℕ) (c : ℕ) → text ≡ encode_utf8 c ++ rest → escaped text ≡ escaped (encode_utf8 c) ++ escaped rest
unfolding escaped
first_character text rest c parts = ap (flat_map shown) parts ∙ flat_map-append shown (encode_utf8 c) rest

-- a text in which no byte is an escape
pub plain_text : (text : List ℕ) → list_any is_escaped text ≡ false → escaped text ≡ text
unfolding escaped
plain_text [] e = refl
plain_text (x ∷ xs) e =
    let p = or_parts (is_escaped x) (list_any is_escaped xs) e in
    ap₂ (λ (a b : List ℕ). a ++ b) (cond-false (is_escaped x) (escape x) (x ∷ []) p.0) (plain_text xs p.1)

plain_bytes : (text : List ℕ) → ((k : ℕ) → k < length text → is_escaped (get_or text k 0) ≡ false) → escaped text ≡ text
unfolding escaped
plain_bytes [] h = refl
plain_bytes (x ∷ xs) h =
    ap₂ (λ (a b : List ℕ). a ++ b) (cond-false (is_escaped x) (escape x) (x ∷ []) (h 0 (omega arith))) (plain_bytes xs (λ k below. h (suc k) (omega arith)))

high_byte : (b : ℕ) → 128 ≤ b → is_escaped b ≡ false
high_byte b h = or_from _ _ (or_from _ _ (le-ltb b 32 (omega arith)) (ne_eqb b 34 (λ e. omega arith))) (ne_eqb b 92 (λ e. omega arith))

-- no byte of a character that is not of ASCII is of ASCII
high_bytes : (c k : ℕ) → 128 ≤ c → k < length (encode_utf8 c) → 128 ≤ get_or (encode_utf8 c) k 0
high_bytes c k high below = elim (cases_lt (get_or (encode_utf8 c) k 0) 128) [
  | inl low ↦ absurd (omega (arith, inside_one c [] (encode_utf8 c) k (sym (append-nil _)) below low))
  | inr h ↦ h
]

-- a character that is no escape
pub plain_character : (c : ℕ) → is_escaped c ≡ false → escaped (encode_utf8 c) ≡ encode_utf8 c
plain_character c e = elim (cases_lt c 128) [
  | inl small ↦ rw (encode_ascii c small) (plain_text (c ∷ []) (or_from (is_escaped c) false e refl))
  | inr high ↦ plain_bytes (encode_utf8 c) (λ k below. high_byte _ (high_bytes c k high below))
]

-- an escape is of ASCII
low_escape : (c : ℕ) → is_escaped c ≡ true → c < 128
low_escape c e = elim (or_cases (nat_lt c 32 || c == 34) (c == 92) e) [
  | inl first ↦ elim (or_cases (nat_lt c 32) (c == 34) first) [
    | inl control ↦ omega (arith, ltb-true c 32 control)
    | inr quote ↦ omega (arith, eqb-true c 34 quote)
  ]
  | inr backslash ↦ omega (arith, eqb-true c 92 backslash)
]

-- what `{:04x}` writes of a byte
four_digits : (n : ℕ) → n < 256
    → padded_integral (format_spec 32 0 4 4 (2 ^ 64 - 1)) false [] (digits 16 false n) ≡ 48 ∷ 48 ∷ digit_glyph false (n / 16) ∷ digit_glyph false (n % 16) ∷ []
unfolding padded_integral char_count
four_digits n small = elim (cases_lt n 16) [
  | inl one ↦
      let high : n / 16 ≡ 0 = omega arith in
      let low : n % 16 ≡ n = omega arith in
      rw (hex_one_digit false n one, high, low)
  | inr two ↦ rw (hex_two_digits false n two small)
]

escaped_byte : (c : ℕ) → is_escaped c ≡ true → escaped (c ∷ []) ≡ escape c
unfolding escaped
escaped_byte c e = append-nil (shown c) ∙ cond-true (is_escaped c) (escape c) (c ∷ []) e

-- a character that is an escape, as `\u{:04x}` writes it
pub escaped_character : (c : ℕ) → is_escaped c ≡ true
    → escaped (encode_utf8 c) ≡ 92 ∷ 117 ∷ padded_integral (format_spec 32 0 4 4 (2 ^ 64 - 1)) false [] (digits 16 false c)
escaped_character c e =
    let low = low_escape c e in
    ap escaped (encode_ascii c low) ∙ escaped_byte c e ∙ ap (λ (l : List ℕ). 92 ∷ 117 ∷ l) (sym (four_digits c (omega arith)))
