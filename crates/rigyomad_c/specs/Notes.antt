-- Notes of an error: a second place of the text that it is about, or a suggestion. And the columns that a terminal shows.
--
--   (module (func $f) (func $f))      the error is at the second $f, and has one note, which is at the first
use Rattle.std.specs.Prelude.{Result, Ok, Err, ◌≡◌, ℕ, ◌≤◌, List, length, false, IsCharBoundary}
use Rattle.std.specs.Option.{unwrap_or}
use Rattle.std.specs.Global.{Vec}
use Rattle.unicode_width.specs.Width.{char_width}
use Rattle.wast_base.specs.Lines.{line_of, column_of}
use Rattle.wat_messages.specs.Ranges.{place_at}
use Rattle.wat_bytes.specs.Texts.{EncodesText, OfText, number_of}
use Rattle.wat_bytes.specs.declared.refusals.Refused.{Refused}
use Rattle.rigyomad_c.specs.declared.statuses.Status.{Status}
use Rattle.rigyomad_c.specs.declared.statuses.Status.TheVariants as status
use Rattle.rigyomad_c.specs.declared.diagnosis.Diagnosis.{Diagnosis}
use Rattle.rigyomad_c.specs.Answers.{IsNoText, nothing_wrong, status_of}

-- A note is about a range of a text, which begins and ends between characters, and has the line and the column of its start.
pub record IsNote (text : List ℕ) (d : Diagnosis) : Type 0 where
  pub ordered : d.offset ≤ d.end_offset
  pub within : d.end_offset ≤ length text
  pub start : IsCharBoundary text d.offset
  pub end : IsCharBoundary text d.end_offset
  pub line : d.line ≡ line_of text (place_at d.offset)
  pub column : d.column ≡ column_of text (place_at d.offset)

-- Writing a note of an error, with the number of the error. If there is no such note, nothing is written.
abbrev pub TellsNote : List ℕ → Refused → Diagnosis → Status → Type 0
TellsNote text r d status.Done = (d.number ≡ unwrap_or (number_of r) 0) × IsNote text d
TellsNote text r d status.Unknown = d ≡ nothing_wrong
TellsNote text r d status.Memory = (status_of (number_of r) ≡ status.Memory) × (d ≡ nothing_wrong)
TellsNote text r d status.Short = ⊥
TellsNote text r d status.Fault = ⊥
TellsNote text r d status.Utf8 = ⊥

-- Writing a note of a result of encoding: a text without an error has none.
abbrev pub TellsNoteOf : List ℕ → Result (Vec ℕ) Refused → Diagnosis → Status → Type 0
TellsNoteOf text (Ok bytes) d s = (d ≡ nothing_wrong) × (s ≡ status.Unknown)
TellsNoteOf text (Err r) d s = TellsNote text r d s

-- A note of the error of a text: one of a result that `encode_text` may return for this text.
pub record NoteRead (text : List ℕ) (d : Diagnosis) (s : Status) : Type 0 where
  pub answer : Result (Vec ℕ) Refused
  pub encoded : OfText EncodesText text answer
  pub told : TellsNoteOf text answer d s

-- The same of bytes, which are no text if they are not UTF-8.
abbrev pub NoteReturns : List ℕ → Diagnosis → Status → Type 0
NoteReturns text d status.Utf8 = IsNoText text × (d ≡ nothing_wrong)
NoteReturns text d s = NoteRead text d s

-- The columns of a character by its code: those of unicode_width, and 1 for a control character, which has none there.
abbrev pub width_of : ℕ → ℕ
width_of code = unwrap_or (char_width false code) 1
