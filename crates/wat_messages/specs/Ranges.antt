-- The range of a text that an error is about: from the first byte of its token on, to the byte after its last one.
--
--   (start $f)      the range of the error at `$f` is 7 to 9
use Rattle.std.specs.Prelude.{◌≡◌, ◌≤◌, ℕ, List, length, Option, Some, None, IsCharBoundary, ⊤}
use Rattle.wast_base.specs.declared.ids.Span.{Span}
use Rattle.wat_messages.specs.declared.ranges.Range.{Range}
use Rattle.wat_messages.specs.declared.diagnostics.Diagnostic.{Diagnostic}
use Rattle.wat_messages.specs.declared.diagnostics.Note.{Note}

-- A range is in a text: it does not end before it begins, ends in the text, and begins and ends between characters.
abbrev pub IsRange : List ℕ → Range → Type 0
IsRange text r = (r.start ≤ r.end) × (r.end ≤ length text) × IsCharBoundary text r.start × IsCharBoundary text r.end

-- A range begins at an offset, if a character of the text begins there or the text ends there.
abbrev pub BeginsAt : List ℕ → ℕ → Range → Type 0
BeginsAt text offset r = IsCharBoundary text offset → r.start ≡ offset

-- What is marked in a text for an error: nothing without a position, and otherwise a range that begins there.
abbrev pub Marks : List ℕ → Option Span → Option Range → Type 0
Marks text None None = ⊤
Marks text None (Some r) = ⊥
Marks text (Some place) None = ⊥
Marks text (Some place) (Some r) = IsRange text r × BeginsAt text place.offset r

-- A position.
abbrev pub place_at : ℕ → Span
place_at n = record { offset = n }

-- The range of a diagnostic, if it has one.
abbrev pub range_of : Diagnostic → Option Range
range_of d = d.range

-- The text of a diagnostic.
abbrev pub text_of : Diagnostic → List ℕ
text_of d = d.text.now

-- The range of a note.
abbrev pub noted : Note → Range
noted n = n.range
