-- Tokens of texts, as the rules compute them.
use Rattle.std.specs.Prelude.{◌≡◌, [], ◌∷◌, ◌++◌, Some, None, codes, List, ℕ, Option}
use Rattle.wat_grammar.specs.Space.{linecomment, blockcomment}
use Rattle.wat_grammar.specs.Tokens.{Token, Open, Close, Annotation, Word, Id, String, Placed, bytes_of, as_written, tokens}

-- comments: a block comment ends at the `;)` of its own `(;`
abbrev pub Comments : Type 0
Comments = (blockcomment 0 (codes "a(;b;)c;)d") ≡ Some (codes "d")) × (blockcomment 0 (codes ";;)x") ≡ Some (codes "x")) × (blockcomment 0 (codes "a(;b;)c") ≡ None) × (blockcomment 0 (codes ")") ≡ None)
    × (linecomment (0x61 ∷ 0x0d ∷ 0x62 ∷ []) ≡ 0x0d ∷ 0x62 ∷ []) × (linecomment (codes "ab") ≡ [])

-- each token at its place, and white space between them
abbrev pub Places : Type 0
Places = (tokens bytes_of (codes "(a $b)") ≡ Some ((Open, 0) ∷ (Word (codes "a"), 1) ∷ (Id (codes "b"), 3) ∷ (Close, 5) ∷ []))
    × (tokens bytes_of (codes " 0x1(;;)c;;d") ≡ Some ((Word (codes "0x1"), 1) ∷ (Word (codes "c"), 8) ∷ [])) × (tokens bytes_of [] ≡ Some [])
    × (tokens bytes_of (codes "(;a") ≡ None) × (tokens bytes_of (codes "a[") ≡ None) × (tokens bytes_of (codes ";a") ≡ None) × (tokens bytes_of (0x61 ∷ 0x01 ∷ []) ≡ None) × (tokens bytes_of (0x61 ∷ 0xc3 ∷ 0xa9 ∷ []) ≡ None)

-- strings and ids in quotes; `q` is a quote, and `b` is a backslash
abbrev pub Quoted : Type 0
Quoted = (tokens bytes_of (0x22 ∷ 0x61 ∷ 0x5c ∷ codes "n" ++ 0x22 ∷ []) ≡ Some ((String (0x61 ∷ 0x0a ∷ []), 0) ∷ []))
    × (tokens as_written (0x22 ∷ 0x5c ∷ 0x22 ∷ 0x22 ∷ []) ≡ Some ((String (0x5c ∷ 0x22 ∷ []), 0) ∷ []))
    × (tokens bytes_of (0x22 ∷ 0x5c ∷ codes "q" ++ 0x22 ∷ []) ≡ None) × (tokens bytes_of (0x22 ∷ 0x61 ∷ []) ≡ None) × (tokens bytes_of (0x22 ∷ 0x22 ∷ 0x22 ∷ 0x22 ∷ []) ≡ None)
    × (tokens bytes_of (0x24 ∷ 0x22 ∷ 0x20 ∷ 0x22 ∷ []) ≡ Some ((Id (0x20 ∷ []), 0) ∷ [])) × (tokens bytes_of (0x24 ∷ 0x22 ∷ 0x22 ∷ []) ≡ None) × (tokens bytes_of (codes "$") ≡ None)
    × (tokens bytes_of (0x24 ∷ 0x22 ∷ 0x5c ∷ codes "ff" ++ 0x22 ∷ []) ≡ None)

-- annotations: with a meaning they are tokens, and others are skipped, with reserved tokens too
abbrev pub Annotations : Type 0
Annotations = (tokens bytes_of (codes "(@name a)") ≡ Some ((Annotation (codes "name"), 1) ∷ (Word (codes "a"), 7) ∷ (Close, 8) ∷ []))
    × (tokens bytes_of (codes "(@x (, ;) a[1{ (@name))b") ≡ Some ((Word (codes "b"), 23) ∷ [])) × (tokens bytes_of (codes "(@x") ≡ None) × (tokens bytes_of (codes "(@)") ≡ None) × (tokens bytes_of (codes "(@ x)") ≡ None)
