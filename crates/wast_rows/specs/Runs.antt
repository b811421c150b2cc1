-- What a run has read and written when it ends. P relates a line of the input to the lines that are right for it.
--
--   input "1" 10 "2" 10, success            two lines, one right for "1" and one for "2"
--   the same, the writer fails              a prefix of such an output
use Rattle.std.specs.Prelude.{◌≡◌, ◌≢◌, ℕ, List, [], ◌∷◌, ◌++◌, Option}
use Rattle.std.specs.List.{AllZip, AllByRecursion}
use Rattle.std.specs.Io.KnownBytes.{Appends, Consumes, IsAtEnd, Keeps}
use Rattle.wast_rows.specs.declared.errors.RunError.{RunError}
use Rattle.wast_rows.specs.declared.errors.RunError.TheVariants as error
use Rattle.wast_rows.specs.Lines.{line_feed, lines_of, ended_line, ended_lines}

-- A line without a line feed.
abbrev pub IsOpen : List ℕ → Type 0
IsOpen line = AllByRecursion (λ byte. byte ≢ line_feed) line

-- The output has one line for each line of the text, in order, and each is right.
pub record AnswersText (P : List ℕ → List ℕ → Type 0) (text output : List ℕ) : Type 0 where
  pub told : List (List ℕ)
  pub answered : AllZip P (lines_of text) told
  pub shown : output ≡ ended_lines told

-- A prefix of the line for the first of some lines.
pub data BeginsAnswer (P : List ℕ → List ℕ → Type 0) (lines : List (List ℕ)) (part : List ℕ) : Type 0 where
  nothing : part ≡ [] → BeginsAnswer P lines part
  partly : (line : List ℕ) (later : List (List ℕ)) (told rest : List ℕ) → lines ≡ line ∷ later → P line told → ended_line told ≡ part ++ rest → BeginsAnswer P lines part

-- The output has the lines for the first lines of the text, in order, and a prefix of the next one.
pub record BeginsText (P : List ℕ → List ℕ → Type 0) (text output : List ℕ) : Type 0 where
  pub asked : List (List ℕ)
  pub told : List (List ℕ)
  pub later : List (List ℕ)
  pub part : List ℕ
  pub split : lines_of text ≡ asked ++ later
  pub answered : AllZip P asked told
  pub begun : BeginsAnswer P later part
  pub shown : output ≡ ended_lines told ++ part

-- The output has the lines for the first lines of the text, in order, and nothing else.
pub record BeginsLines (P : List ℕ → List ℕ → Type 0) (text output : List ℕ) : Type 0 where
  pub asked : List (List ℕ)
  pub told : List (List ℕ)
  pub later : List (List ℕ)
  pub split : lines_of text ≡ asked ++ later
  pub answered : AllZip P asked told
  pub shown : output ≡ ended_lines told

-- The output has a line for each line of the text that has a line feed, in order. The rest of the text is not a whole
-- line.
pub record AnswersEnded (P : List ℕ → List ℕ → Type 0) (text left output : List ℕ) : Type 0 where
  pub asked : List (List ℕ)
  pub told : List (List ℕ)
  pub each_open : AllByRecursion IsOpen asked
  pub left_open : IsOpen left
  pub split : text ≡ ended_lines asked ++ left
  pub answered : AllZip P asked told
  pub shown : output ≡ ended_lines told

-- The reader returned a text up to its end, and the writer took an output with its lines.
pub record Ran (P : List ℕ → List ℕ → Type 0) (reader reader_after writer writer_after : Option (List ℕ)) : Type 0 where
  pub text : List ℕ
  pub output : List ℕ
  pub consumed : Consumes reader reader_after text
  pub at_end : IsAtEnd reader_after
  pub answered : AnswersText P text output
  pub appended : Appends writer writer_after output

-- The reader returned a text, and the writer took a line for each line with a line feed, and nothing for the rest.
pub record StopsReading (P : List ℕ → List ℕ → Type 0) (left : List ℕ) (reader reader_after writer writer_after : Option (List ℕ)) : Type 0 where
  pub text : List ℕ
  pub output : List ℕ
  pub consumed : Consumes reader reader_after text
  pub answered : AnswersEnded P text left output
  pub appended : Appends writer writer_after output

-- The reader returned a text, and the writer took a prefix of an output for it.
pub record Broke (P : List ℕ → List ℕ → Type 0) (reader reader_after writer writer_after : Option (List ℕ)) : Type 0 where
  pub text : List ℕ
  pub output : List ℕ
  pub consumed : Consumes reader reader_after text
  pub begun : BeginsText P text output
  pub appended : Appends writer writer_after output

-- The reader returned a text, and the writer took the lines for its first lines.
pub record StopsShort (P : List ℕ → List ℕ → Type 0) (reader reader_after writer writer_after : Option (List ℕ)) : Type 0 where
  pub text : List ℕ
  pub output : List ℕ
  pub consumed : Consumes reader reader_after text
  pub begun : BeginsLines P text output
  pub appended : Appends writer writer_after output

-- What a run that ends with an error has read and written.
abbrev pub Stopped : (List ℕ → List ℕ → Type 0) → RunError → (reader reader_after writer writer_after : Option (List ℕ)) → Type 0
Stopped P error.Read reader reader_after writer writer_after = (left : List ℕ) × StopsReading P left reader reader_after writer writer_after
Stopped P error.Write reader reader_after writer writer_after = Broke P reader reader_after writer writer_after
Stopped P error.Memory reader reader_after writer writer_after = StopsShort P reader reader_after writer writer_after

-- The steps of a run.

-- The writer took the lines for the lines of the text that have a line feed.
pub record EndedWriter (P : List ℕ → List ℕ → Type 0) (text left : List ℕ) (writer writer_after : Option (List ℕ)) : Type 0 where
  pub output : List ℕ
  pub answered : AnswersEnded P text left output
  pub appended : Appends writer writer_after output

-- The writer took the lines for the text.
pub record AnswersWriter (P : List ℕ → List ℕ → Type 0) (text : List ℕ) (writer writer_after : Option (List ℕ)) : Type 0 where
  pub output : List ℕ
  pub answered : AnswersText P text output
  pub appended : Appends writer writer_after output

-- The writer took a prefix of an output for the text.
pub record BeginsWriter (P : List ℕ → List ℕ → Type 0) (text : List ℕ) (writer writer_after : Option (List ℕ)) : Type 0 where
  pub output : List ℕ
  pub begun : BeginsText P text output
  pub appended : Appends writer writer_after output

-- The writer took the lines for the first lines of the text.
pub record ShortWriter (P : List ℕ → List ℕ → Type 0) (text : List ℕ) (writer writer_after : Option (List ℕ)) : Type 0 where
  pub output : List ℕ
  pub begun : BeginsLines P text output
  pub appended : Appends writer writer_after output

-- What the writer took for the text, if that ends with an error.
abbrev pub StopsWriter : (List ℕ → List ℕ → Type 0) → List ℕ → RunError → (writer writer_after : Option (List ℕ)) → Type 0
StopsWriter P text error.Read writer writer_after = ⊥
StopsWriter P text error.Write writer writer_after = BeginsWriter P text writer writer_after
StopsWriter P text error.Memory writer writer_after = ShortWriter P text writer writer_after

-- The writer took the line for one line.
pub record AnswersLine (P : List ℕ → List ℕ → Type 0) (line : List ℕ) (writer writer_after : Option (List ℕ)) : Type 0 where
  pub told : List ℕ
  pub answers : P line told
  pub appended : Appends writer writer_after (ended_line told)

-- The writer took a prefix of the line for one line.
pub record BeginsLine (P : List ℕ → List ℕ → Type 0) (line : List ℕ) (writer writer_after : Option (List ℕ)) : Type 0 where
  pub part : List ℕ
  pub begun : BeginsAnswer P (line ∷ []) part
  pub appended : Appends writer writer_after part

-- What the writer took for one line, if that ends with an error.
abbrev pub StopsLine : (List ℕ → List ℕ → Type 0) → List ℕ → RunError → (writer writer_after : Option (List ℕ)) → Type 0
StopsLine P line error.Read writer writer_after = ⊥
StopsLine P line error.Write writer writer_after = BeginsLine P line writer writer_after
StopsLine P line error.Memory writer writer_after = Keeps writer writer_after

-- The writer took the bytes before this rest.
pub record WritesOn (bytes rest : List ℕ) (writer writer_after : Option (List ℕ)) : Type 0 where
  pub part : List ℕ
  pub split : bytes ≡ part ++ rest
  pub appended : Appends writer writer_after part

-- The writer took a prefix of some bytes.
pub record BeginsBytes (bytes : List ℕ) (writer writer_after : Option (List ℕ)) : Type 0 where
  pub rest : List ℕ
  pub writes_on : WritesOn bytes rest writer writer_after
