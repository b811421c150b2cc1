-- Integers (text format: integers).
use Rattle.std.specs.Prelude.{ℕ, ◌+◌, ◌-◌, ◌*◌, ◌^◌, nat_lt, ◌==◌, ◌&&◌, Bool, true, false, if◌then◌else◌, List, [], ◌∷◌, reverse, ℤ, pos, negsuc, neg_ℤ, ◌-ℤ◌, int_lt, int_le, Option, None, Some, option_map, codes}
use Rattle.wat_grammar.specs.Parts.{◌>>=◌, after}
use Rattle.wat_grammar.specs.Characters.{digit, hexdigit}

-- num ::= d:digit ⇒ d | n:num '_'? d:digit ⇒ 10 · n + d, and hexnum with 16 and hexdigit. In both rules the last character is
-- the last digit, and what is before it is a number again. So the text is read from its end: the list has its last character
-- first. For example of "1_2" it is '2', '_', '1': the digit 2 after the number of '1'.
unfoldable pub backwards : (ℕ → Option ℕ) → ℕ → List ℕ → Option ℕ
backwards digit_of radix [] = None
backwards digit_of radix (c ∷ []) = digit_of c
backwards digit_of radix (c ∷ b ∷ bs) =
    digit_of c >>= λ d. elim (b == 0x5f) [ true ↦ backwards digit_of radix bs | false ↦ backwards digit_of radix (b ∷ bs) ]
    >>= λ n. Some (radix * n + d)

-- num: "1_000" is 1000, and "1__0", "_1" and "1_" are none.
abbrev pub num : List ℕ → Option ℕ
num text = backwards digit 10 (reverse text)

-- hexnum: "fF" is 255.
abbrev pub hexnum : List ℕ → Option ℕ
hexnum text = backwards hexdigit 16 (reverse text)

-- n:num ⇒ n | '0x' n:hexnum ⇒ n, which uN and sN share. No num begins with '0x', so at most one alternative produces a text.
-- "0x10" is 16, and "0x" and "0X10" are none.
abbrev pub natural : List ℕ → Option ℕ
natural text = elim (after (codes "0x") text) [ Some digits ↦ hexnum digits | None ↦ num text ]

-- uN ::= n:num ⇒ n | '0x' n:hexnum ⇒ n, if n < 2^N. For N = 8, "255" is 255, and "256" and "+1" are none.
abbrev pub uN : ℕ → List ℕ → Option ℕ
uN N text = natural text >>= λ n. if nat_lt n (2 ^ N) then Some n else None

-- sign ::= ε ⇒ + | '+' ⇒ + | '-' ⇒ −: whether it is −, and the text after it
abbrev pub sign : List ℕ → Bool × List ℕ
sign [] = (false, [])
sign (c ∷ cs) = if c == 0x2d then (true, cs) else (if c == 0x2b then (false, cs) else (false, c ∷ cs))

-- ± n
abbrev pub with_sign : Bool → ℕ → ℤ
with_sign is_negative n = if is_negative then neg_ℤ (pos n) else pos n

-- −2^(N−1) ≤ i < 2^(N−1)
abbrev pub is_signed : ℕ → ℤ → Bool
is_signed N i = int_le (neg_ℤ (pos (2 ^ (N - 1)))) i && int_lt i (pos (2 ^ (N - 1)))

-- the number without its range: ±:sign n:(num | '0x' hexnum) ⇒ ± n
abbrev pub signed : List ℕ → Option ℤ
signed text = natural (sign text).1 >>= λ n. Some (with_sign (sign text).0 n)

-- sN ::= ±:sign n:num ⇒ ± n | ±:sign '0x' n:hexnum ⇒ ± n, if −2^(N−1) ≤ ± n < 2^(N−1). For N = 8, "-0x80" is −128, and "128"
-- and "--1" are none.
abbrev pub sN : ℕ → List ℕ → Option ℤ
sN N text = signed text >>= λ i. if is_signed N i then Some i else None

-- The signed interpretation of N bits (numerics: signed_N), for n < 2^N: for N = 8, that of 255 is −1.
abbrev pub signed_of : ℕ → ℕ → ℤ
signed_of N n = if nat_lt n (2 ^ (N - 1)) then pos n else (pos n -ℤ pos (2 ^ N))

-- its inverse, for −2^(N−1) ≤ i < 2^(N−1): two's complement
abbrev pub bits_of : ℕ → ℤ → ℕ
bits_of N (pos n) = n
bits_of N (negsuc n) = 2 ^ N - (n + 1)

-- iN ::= n:uN ⇒ n | i:sN ⇒ n, if signed_N(n) = i. A text that both rules produce has no '-', and they agree on it. For N = 8,
-- "255" and "-1" are 255, "+127" is 127, and "256", "+128" and "-129" are none.
abbrev pub iN : ℕ → List ℕ → Option ℕ
iN N text = elim (uN N text) [ Some n ↦ Some n | None ↦ option_map (bits_of N) (sN N text) ]

-- What is read as an iN here: "+255" is 255 for N = 8 as well. The specification has no such text, because a number with a sign
-- is an sN, and that ends at 127. The Rust crate `wast` reads it: it removes a '+' before it reads a number without a sign.
abbrev pub integer : ℕ → List ℕ → Option ℕ
integer N text = elim (iN N text) [ Some n ↦ Some n | None ↦ after (codes "+") text >>= λ digits. uN N digits ]
