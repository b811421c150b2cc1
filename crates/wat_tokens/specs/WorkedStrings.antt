-- The places of the bytes of strings, as the definitions compute them. In `codes ".."`, `\"` is a quote of the text, and `\\` a
-- backslash.
use Rattle.std.specs.Prelude.{◌≡◌, [], ◌∷◌, codes}
use Rattle.wat_tokens.specs.Strings.{Spells, spelled, string_places}

-- The string `"a\nb"` at 7 has three bytes: the line feed is at the backslash, and `b` after the escape. Both bytes of `\u{e9}` are at
-- its backslash, and those of the character itself each at its own place. A string ends at its quote, at the byte of the given number or
-- where no element is; the next string does not count.
abbrev pub Places : Type 0
Places = (string_places 3 7 (codes "\"a\\nb\" \"c\"") ≡ 8 ∷ 9 ∷ 11 ∷ []) × (string_places 3 0 (codes "\"\\u{e9}c\"") ≡ 1 ∷ 1 ∷ 7 ∷ [])
    × (string_places 2 0 (0x22 ∷ 0xc3 ∷ 0xa9 ∷ 0x22 ∷ []) ≡ 1 ∷ 2 ∷ []) × (string_places 4 0 (codes "\"a\" \"b\"") ≡ 1 ∷ [])
    × (string_places 1 0 (codes "\"ab\"") ≡ 1 ∷ []) × (string_places 2 0 (codes "\"a\\q\"") ≡ 1 ∷ []) × (string_places 1 0 [] ≡ [])
    × (spelled 2 5 (codes "ab") ≡ 5 ∷ 6 ∷ []) × Spells (codes "\\0ab") (codes "b") 5 (4 ∷ []) (4 ∷ 5 ∷ [])
