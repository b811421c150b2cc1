-- The lines of a text: the bytes before each line feed, and those after the last one if there are any.
--
--   "1", 10, "2"            the lines "1" and "2"
--   "1", 10, "2", 10        the same
use Rattle.std.specs.Prelude.{ℕ, ◌==◌, Bool, true, false, List, [], ◌∷◌, ◌++◌}
use Rattle.std.specs.List.{flat_map}

-- The byte of a line feed.
abbrev pub line_feed : ℕ
line_feed = 10

-- Adds a byte before the first line.
abbrev pub onto_first : ℕ → List (List ℕ) → List (List ℕ)
onto_first byte [] = (byte ∷ []) ∷ []
onto_first byte (line ∷ lines) = (byte ∷ line) ∷ lines

-- A line feed ends a line. Any other byte is added to the line after it.
abbrev pub before_if : Bool → ℕ → List (List ℕ) → List (List ℕ)
before_if true byte lines = [] ∷ lines
before_if false byte lines = onto_first byte lines

-- Adds a byte before lines.
abbrev pub before_lines : ℕ → List (List ℕ) → List (List ℕ)
before_lines byte lines = before_if (byte == line_feed) byte lines

-- The lines of a text.
abbrev pub lines_of : List ℕ → List (List ℕ)
lines_of [] = []
lines_of (byte ∷ text) = before_lines byte (lines_of text)

-- A line and its line feed.
abbrev pub ended_line : List ℕ → List ℕ
ended_line line = line ++ (line_feed ∷ [])

-- Lines, each with its line feed.
abbrev pub ended_lines : List (List ℕ) → List ℕ
ended_lines lines = flat_map ended_line lines
