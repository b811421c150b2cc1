-- The numbers of the example modules.
--
--   is_row 19    true          is_row 20    false: there is no example module 20
use Rattle.std.specs.Prelude.{ℕ, ◌==◌, ◌||◌, Bool, List, [], ◌∷◌}
use Rattle.std.specs.List.{list_any}

-- The numbers of the modules that are texts, in order.
abbrev pub text_rows : List ℕ
text_rows = 1 ∷ 2 ∷ 3 ∷ 4 ∷ 5 ∷ 6 ∷ 7 ∷ 8 ∷ 9 ∷ 10 ∷ 11 ∷ 12 ∷ 13 ∷ 14 ∷ 15 ∷ 16 ∷ 17 ∷ 18 ∷ 19 ∷ 21 ∷ 22 ∷ 23 ∷ 24 ∷ 26 ∷ 27 ∷ 28 ∷ 29 ∷ 30 ∷ 31 ∷ 32 ∷ 33 ∷ 34 ∷ 35 ∷ 36 ∷ 37 ∷ 38 ∷ 39 ∷ 40 ∷ 41 ∷ 42 ∷ 43 ∷ 44 ∷ 45 ∷ 46 ∷ 47 ∷ 48 ∷ 49 ∷ 50 ∷ 51 ∷ 52 ∷ 53 ∷ 54 ∷ 55 ∷ 57 ∷ 65 ∷ []

-- The numbers of the modules that no text gives, so that they are built by hand. 25 and 56 are well formed, and the
-- others are not.
abbrev pub built_rows : List ℕ
built_rows = 25 ∷ 56 ∷ 58 ∷ 59 ∷ 60 ∷ 61 ∷ 62 ∷ 63 ∷ 64 ∷ []

-- Whether n is one of these numbers.
abbrev pub is_among : List ℕ → ℕ → Bool
is_among rows n = list_any (λ r. r == n) rows

-- Whether n is the number of an example module.
abbrev pub is_row : ℕ → Bool
is_row n = is_among text_rows n || is_among built_rows n
