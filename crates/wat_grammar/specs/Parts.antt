-- Words for the rules of the text format. A text is the list of its bytes, because each character that a number or an escape is
-- made of is ASCII. A rule is a function that returns what the text means, and `None` if the rule does not produce the text.
use Rattle.std.specs.Prelude.{◌==◌, ℕ, Bool, true, false, List, [], ◌∷◌, Option, None, Some}

infixl 30 ◌>>=◌
-- what one rule makes of the meaning of another: `hexnum text >>= λ n. ..`
abbrev pub ◌>>=◌ : {A B : Type 0} → Option A → (A → Option B) → Option B
None >>= f = None
Some x >>= f = f x

-- The text after a terminal such as '0x', if it begins with the terminal: of "0xff" it is "ff".
abbrev pub after : List ℕ → List ℕ → Option (List ℕ)
after [] text = Some text
after (t ∷ ts) [] = None
after (t ∷ ts) (c ∷ cs) = elim (c == t) [ true ↦ after ts cs | false ↦ None ]

-- The characters at the start of a text that pass a test, up to the first that does not: of "12a3" and digits it is "12".
abbrev pub front : (ℕ → Bool) → List ℕ → List ℕ
front is [] = []
front is (c ∷ cs) = elim (is c) [ true ↦ c ∷ front is cs | false ↦ [] ]
