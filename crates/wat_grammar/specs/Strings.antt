-- Strings (text format: strings). The text is UTF-8, so a character from U+80 on is two to four bytes from 0x80 on, which stand
-- for themselves: they are what the specification writes for the character in a string's bytes.
use Rattle.std.specs.Prelude.{ℕ, zero, suc, ◌+◌, ◌-◌, ◌*◌, nat_lt, nat_le, ◌==◌, ◌&&◌, ◌||◌, not, Bool, true, false, if◌then◌else◌, List, [], ◌∷◌, ◌++◌, length, Option, None, Some, Result, Ok, Err, codes}
use Rattle.std.specs.Char.{encode_utf8}
use Rattle.wat_grammar.specs.Parts.{◌>>=◌, after}
use Rattle.wat_grammar.specs.Characters.{hexdigit}
use Rattle.wat_grammar.specs.Integers.{hexnum}

-- stringchar ::= c:char ⇒ c, if c ≥ U+20 ∧ c ≠ U+7F ∧ c ≠ '"' ∧ c ≠ '\'
abbrev pub is_raw : ℕ → Bool
is_raw c = nat_le 0x20 c && (not (c == 0x7f) && (not (c == 0x22) && not (c == 0x5c)))

-- | '\t' ⇒ U+09 | '\n' ⇒ U+0A | '\r' ⇒ U+0D | '\"' ⇒ U+22 | '\'' ⇒ U+27 | '\\' ⇒ U+5C: by the character after the backslash
abbrev pub named : ℕ → Option ℕ
named c =
    if c == 0x74 then Some 0x09 else
    (if c == 0x6e then Some 0x0a else
    (if c == 0x72 then Some 0x0d else
    (if c == 0x22 || (c == 0x27 || c == 0x5c) then Some c else None)))

-- the characters up to the first '}', and those after it
unfoldable pub braced : List ℕ → Option (List ℕ × List ℕ)
braced [] = None
braced (c ∷ cs) = elim (c == 0x7d) [ true ↦ Some ([], cs) | false ↦ braced cs >>= λ t. Some (c ∷ t.0, t.1) ]

-- n < 0xD800 ∨ 0xE000 ≤ n < 0x110000
abbrev pub is_scalar : ℕ → Bool
is_scalar n = nat_lt n 0xd800 || (nat_le 0xe000 n && nat_lt n 0x110000)

-- | '\u{' n:hexnum '}' ⇒ U+(n), if n < 0xD800 ∨ 0xE000 ≤ n < 0x110000: after '\u{', its bytes and the text after it. No hexnum
-- has a '}', so the first one ends it.
abbrev pub unicode : List ℕ → Option (List ℕ × List ℕ)
unicode text = braced text >>= λ t. hexnum t.0 >>= λ n. if is_scalar n then Some (encode_utf8 n, t.1) else None

-- stringelem ::= .. | '\' n:hexdigit m:hexdigit ⇒ 16 · n + m: after the backslash
abbrev pub byte : List ℕ → Option (List ℕ × List ℕ)
byte [] = None
byte (c ∷ []) = None
byte (c ∷ d ∷ rest) = hexdigit c >>= λ n. hexdigit d >>= λ m. Some ((16 * n + m) ∷ [], rest)

-- an escape after its backslash: its bytes and the text after it. "n" is a line feed, "0a" is one too, "u{a}" as well, and "q",
-- "0" and "u{d800}" are none.
abbrev pub escape : List ℕ → Option (List ℕ × List ℕ)
escape [] = None
escape (c ∷ cs) = elim (named c) [
  | Some b ↦ Some (b ∷ [], cs)
  | None ↦ elim (after (codes "u{") (c ∷ cs)) [ Some digits ↦ unicode digits | None ↦ byte (c ∷ cs) ]
]

-- stringelem ::= c:stringchar ⇒ utf8(c) | ..: its bytes and the text after it
abbrev pub stringelem : List ℕ → Option (List ℕ × List ℕ)
stringelem [] = None
stringelem (c ∷ cs) = elim (c == 0x5c) [ true ↦ escape cs | false ↦ if is_raw c then Some (c ∷ [], cs) else None ]

-- bytes, and those behind them
abbrev pub joined : List ℕ → Result (List ℕ) (List ℕ) → Result (List ℕ) (List ℕ)
joined bytes (Ok others) = Ok (bytes ++ others)
joined bytes (Err rest) = Err rest

-- (b*:stringelem)* ⇒ ⊕ b*, of so many elements at most; or the text from the first place on where no element is
unfoldable pub elements : ℕ → List ℕ → Result (List ℕ) (List ℕ)
elements n [] = Ok []
elements zero (c ∷ cs) = Err (c ∷ cs)
elements (suc n) (c ∷ cs) = elim (stringelem (c ∷ cs)) [ Some e ↦ joined e.0 (elements n e.1) | None ↦ Err (c ∷ cs) ]

-- string ::= '"' (b*:stringelem)* '"' ⇒ ⊕ b*: the bytes, by what is between the quotes; or how many bytes of it come before the
-- first place where no element is. Each element has a character or more, so there are no more elements than characters. Of
-- "a\n" the bytes are 'a' and a line feed; of "a\q" there are none, and 1 byte comes before "\q".
abbrev pub string : List ℕ → Result (List ℕ) ℕ
string text = elim (elements (length text) text) [ Ok bytes ↦ Ok bytes | Err rest ↦ Err (length text - length rest) ]
