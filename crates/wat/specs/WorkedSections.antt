-- Modules without their name sections, as the prover computes them.
use Rattle.std.specs.Prelude.{◌≡◌, ℕ, List, [], ◌∷◌, ◌++◌}
use Rattle.wat.specs.Sections.{without_names}

-- the header of a module
abbrev pub header : List ℕ
header = 0 ∷ 97 ∷ 115 ∷ 109 ∷ 1 ∷ 0 ∷ 0 ∷ 0 ∷ []

-- a type section with one type, a name section without subsections, and a custom section called `nama`
abbrev pub types : List ℕ
types = 1 ∷ 4 ∷ 1 ∷ 96 ∷ 0 ∷ 0 ∷ []

abbrev pub names : List ℕ
names = 0 ∷ 5 ∷ 4 ∷ 110 ∷ 97 ∷ 109 ∷ 101 ∷ []

abbrev pub other : List ℕ
other = 0 ∷ 5 ∷ 4 ∷ 110 ∷ 97 ∷ 109 ∷ 97 ∷ []

-- The name section is left out between others. A section that is cut off, and bytes that are too few for a header, are kept.
abbrev pub Worked : Type 0
Worked = (without_names (header ++ (types ++ (names ++ other))) ≡ header ++ (types ++ other))
    × (without_names (header ++ 0 ∷ 5 ∷ 4 ∷ []) ≡ header ++ 0 ∷ 5 ∷ 4 ∷ [])
    × (without_names (0 ∷ 97 ∷ []) ≡ 0 ∷ 97 ∷ [])
