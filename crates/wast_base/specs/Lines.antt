-- Lines and columns of positions in a text, both counted from 1: lines by line feeds, columns by bytes.
--
-- Columns count bytes, because an offset is in bytes and a terminal may show a character in one column or two.
--
--   the lines `(module` and ` $m)`, offset 7     line 1, column 8: the line feed
--   the same, offset 11                          line 2, column 4
--   the same, offset 100                         line 2, column 5: the end of the text
--
-- Worked computes these.
use Rattle.std.specs.Prelude.{ℕ, ◌+◌, ◌==◌, Bool, not, List, take, count_by}
use Rattle.std.specs.List.{suffix_len}
use Rattle.wast_base.specs.declared.ids.Span.{Span}

-- whether a byte ends a line
abbrev pub is_line_feed : ℕ → Bool
is_line_feed byte = byte == 10

-- the bytes before a position; all of them if it is after the end
abbrev pub text_before : List ℕ → Span → List ℕ
text_before text place = take place.offset text

-- the number of bytes after the last line feed, or of all bytes if there is none
abbrev pub behind_last : List ℕ → ℕ
behind_last bytes = suffix_len (λ byte. not (is_line_feed byte)) bytes

-- one more than the number of line feeds before the position
abbrev pub line_of : List ℕ → Span → ℕ
line_of text place = count_by is_line_feed (text_before text place) + 1

-- one more than the number of bytes between the last of them and the position
abbrev pub column_of : List ℕ → Span → ℕ
column_of text place = behind_last (text_before text place) + 1
