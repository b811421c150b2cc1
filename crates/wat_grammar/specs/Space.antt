-- White space and comments (text format: white space, comments). Each rule returns the text after what it produces.
use Rattle.std.specs.Prelude.{ℕ, zero, suc, ◌==◌, ◌&&◌, ◌||◌, not, Bool, true, false, List, [], ◌∷◌, length, drop, Option, None, Some}
use Rattle.wat_grammar.specs.Parts.{front}

-- space ::= (' ' | format | ..)*, format ::= newline | U+09, newline ::= U+0A | U+0D | U+0D U+0A: one of their characters.
abbrev pub is_blank : ℕ → Bool
is_blank c = c == 0x20 || (c == 0x09 || (c == 0x0a || c == 0x0d))

-- linechar ::= c:char, if c ≠ U+0A ∧ c ≠ U+0D
abbrev pub is_linechar : ℕ → Bool
is_linechar c = not (c == 0x0a || c == 0x0d)

-- the text after the characters at its start that pass a test: of "12a3" and digits it is "a3"
abbrev pub behind : (ℕ → Bool) → List ℕ → List ℕ
behind is text = drop (length (front is text)) text

-- linecomment ::= ';;' linechar* (newline | eof), without the newline, which is white space: the text after it, by that after ';;'.
abbrev pub linecomment : List ℕ → List ℕ
linecomment text = behind is_linechar text

-- blockcomment ::= '(;' blockchar* ';)'. A blockchar is a blockcomment again, or a character that begins neither '(;' nor ';)'. So
-- '(;' and ';)' are brackets that nest: this is the text after the ';)' that ends a comment, by the text after its '(;', inside of n
-- other comments. Of "a(;b;)c;)d" and n = 0 it is "d", and of "a(;b;)c" there is none.
unfoldable pub blockcomment : ℕ → List ℕ → Option (List ℕ)
blockcomment n [] = None
blockcomment n (c ∷ []) = None
blockcomment n (c ∷ d ∷ cs) = elim (c == 0x28 && d == 0x3b) [
  | true ↦ blockcomment (suc n) cs
  | false ↦ elim (c == 0x3b && d == 0x29) [
    | true ↦ elim n [ zero ↦ Some cs | suc m ↦ blockcomment m cs ]
    | false ↦ blockcomment n (d ∷ cs)
  ]
]
