-- Examples that compute: lines and columns of positions in a text, and the order of names.
use Rattle.std.specs.Prelude.{◌≡◌, ℕ, true, false, List, ◌∷◌, ◌++◌, codes}
use Rattle.wast_base.specs.declared.ids.Span.{Span}
use Rattle.wast_base.specs.Ids.{Written, Generated}
use Rattle.wast_base.specs.Lines.{line_of, column_of}
use Rattle.wast_base.specs.Order.{name_lt}

-- two lines, `(module` and ` $m)`
abbrev pub two_lines : List ℕ
two_lines = codes "(module" ++ 10 ∷ codes " $m)"

-- a position in it
abbrev pub at : ℕ → Span
at n = record { offset = n }

-- The first byte, the line feed, the last byte, and a position after the end, which counts as the end.
abbrev pub PlacesInTwoLines : Type 0
PlacesInTwoLines =
    (line_of two_lines (at 0) ≡ 1) × (column_of two_lines (at 0) ≡ 1) × (line_of two_lines (at 7) ≡ 1)
    × (column_of two_lines (at 7) ≡ 8) × (line_of two_lines (at 11) ≡ 2) × (column_of two_lines (at 11) ≡ 4)
    × (line_of two_lines (at 100) ≡ 2) × (column_of two_lines (at 100) ≡ 5)

-- Texts are sorted by bytes. The text of a generated name is `gensym`, and the source id `$gensym` comes before them.
abbrev pub NamesInOrder : Type 0
NamesInOrder =
    (name_lt (Written (codes "a")) (Written (codes "aa")) ≡ true) × (name_lt (Written (codes "aa")) (Written (codes "b")) ≡ true)
    × (name_lt (Written (codes "b")) (Written (codes "b")) ≡ false) × (name_lt (Generated 2) (Written (codes "h")) ≡ true)
    × (name_lt (Written (codes "gensym")) (Generated 1) ≡ true) × (name_lt (Generated 1) (Written (codes "gensym")) ≡ false)
    × (name_lt (Generated 2) (Generated 10) ≡ true)
