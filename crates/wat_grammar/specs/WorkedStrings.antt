-- Strings between their quotes, as the rules compute them. `codes` reads no escapes: a backslash in it is one character.
use Rattle.std.specs.Prelude.{◌≡◌, [], ◌∷◌, Some, None, Ok, Err, codes}
use Rattle.wat_grammar.specs.Strings.{escape, string}

-- each escape, and what is none
abbrev pub Escapes : Type 0
Escapes = (escape (codes "nx") ≡ Some (0x0a ∷ [], codes "x")) × (escape (codes "0a1") ≡ Some (0x0a ∷ [], codes "1"))
    × (escape (codes "u{1D_11E}x") ≡ Some (0xf0 ∷ 0x9d ∷ 0x84 ∷ 0x9e ∷ [], codes "x")) × (escape (codes "'") ≡ Some (0x27 ∷ [], []))
    × (escape (codes "q") ≡ None) × (escape (codes "0") ≡ None) × (escape (codes "u0041") ≡ None) × (escape (codes "u{}") ≡ None)
    × (escape (codes "u{d800}") ≡ None) × (escape (codes "u{110000}") ≡ None) × (escape (codes "u{1_}") ≡ None) × (escape (codes "u{1") ≡ None)

-- bytes of characters and escapes, and the place of the first that is wrong
abbrev pub Strings : Type 0
Strings = (string (0x61 ∷ 0x5c ∷ codes "n") ≡ Ok (0x61 ∷ 0x0a ∷ [])) × (string (0xc3 ∷ 0xa9 ∷ []) ≡ Ok (0xc3 ∷ 0xa9 ∷ [])) × (string [] ≡ Ok [])
    × (string (0x61 ∷ 0x5c ∷ codes "q") ≡ Err 1) × (string (0x61 ∷ 0x62 ∷ 0x7f ∷ []) ≡ Err 2) × (string (0x22 ∷ []) ≡ Err 0) × (string (0x5c ∷ []) ≡ Err 0)
