-- What the calls for C return: the statuses, and what they write.
--
--   rigyomad_c_encode of "(module (func))" into 23 bytes      status 1 (too short), size 24, and no byte is written
use Rattle.std.specs.Prelude.{◌≡◌, ℕ, ◌==◌, ◌<◌, ◌≤◌, if◌then◌else◌, List, length, drop, ◌++◌, Option, Some, None, Result, Ok, Err, ◌⊎◌, IsCharBoundary}
use Rattle.std.specs.Option.{unwrap_or}
use Rattle.std.specs.Global.{Vec}
use Rattle.std.specs.Str.{IsUtf8}
use Rattle.wast_base.specs.declared.ids.Span.{Span}
use Rattle.wast_base.specs.declared.spaces.Space.{Space}
use Rattle.wast_base.specs.Spaces.{rank_of}
use Rattle.wast_base.specs.Lines.{line_of, column_of}
use Rattle.wat_bytes.specs.Names.{NumbersText}
use Rattle.wat_bytes.specs.Texts.{EncodesText, OfText, number_of, place_of}
use Rattle.wat_bytes.specs.declared.refusals.Refused.{Refused}
use Rattle.rigyomad_c.specs.declared.statuses.Status.{Status}
use Rattle.rigyomad_c.specs.declared.statuses.Status.TheVariants as status
use Rattle.rigyomad_c.specs.declared.diagnosis.Diagnosis.{Diagnosis}

-- The number of a status.
abbrev pub code_of : Status → ℕ
code_of status.Done = 0
code_of status.Short = 1
code_of status.Fault = 2
code_of status.Utf8 = 3
code_of status.Memory = 4
code_of status.Unknown = 5

-- The number is that of a status that satisfies the definition.
pub record Returns (is_answered : Status → Type 0) (number : ℕ) : Type 0 where
  pub status : Status
  pub numbered : number ≡ code_of status
  pub answered : is_answered status

-- The status of an error, by its number: E12 has its own status.
abbrev pub status_of : Option ℕ → Status
status_of None = status.Fault
status_of (Some n) = if n == 12 then status.Memory else status.Fault

-- Writing bytes to a slice. They are at its front, and what comes after them is not changed. Or the slice is too short,
-- and is not changed.
abbrev pub PutsBytes : List ℕ → List ℕ → List ℕ → Status → Type 0
PutsBytes bytes old new status.Done = (length bytes ≤ length old) × (new ≡ bytes ++ drop (length bytes) old)
PutsBytes bytes old new status.Short = (length old < length bytes) × (new ≡ old)
PutsBytes bytes old new status.Fault = ⊥
PutsBytes bytes old new status.Utf8 = ⊥
PutsBytes bytes old new status.Memory = ⊥
PutsBytes bytes old new status.Unknown = ⊥

-- Writing the result of encoding to a slice. The size is that of the bytes, also if the slice is too short.
abbrev pub PutsAnswer : Result (Vec ℕ) Refused → ℕ → List ℕ → List ℕ → Status → Type 0
PutsAnswer (Ok bytes) size old new s = (size ≡ length bytes.items) × PutsBytes bytes.items old new s
PutsAnswer (Err r) size old new s = (size ≡ 0) × (new ≡ old) × (s ≡ status_of (number_of r))

-- Encoding a text into a slice: a result that `encode_text` may return for this text is written.
pub record EncodesRead (text : List ℕ) (size : ℕ) (old new : List ℕ) (s : Status) : Type 0 where
  pub answer : Result (Vec ℕ) Refused
  pub encoded : OfText EncodesText text answer
  pub put : PutsAnswer answer size old new s

-- Bytes that are not UTF-8 are no text.
abbrev pub IsNoText : List ℕ → Type 0
IsNoText text = IsUtf8 text → ⊥

-- Encoding into a slice.
abbrev pub EncodeReturns : List ℕ → ℕ → List ℕ → List ℕ → Status → Type 0
EncodeReturns text size old new status.Utf8 = IsNoText text × (size ≡ 0) × (new ≡ old)
EncodeReturns text size old new s = EncodesRead text size old new s

-- Writing the result of looking a name up: its index. Otherwise the number is not changed.
abbrev pub TellsNumber : Result (Option ℕ) Refused → ℕ → ℕ → Status → Type 0
TellsNumber (Ok None) old new s = (new ≡ old) × (s ≡ status.Unknown)
TellsNumber (Ok (Some n)) old new s = (new ≡ n) × (s ≡ status.Done)
TellsNumber (Err r) old new s = (new ≡ old) × (s ≡ status_of (number_of r))

-- Looking a name up in an index space of a text: a result that `number_in_text` may return for this text, name and
-- index space is written.
pub record DenotesRead (text : List ℕ) (space : Space) (name : List ℕ) (old new : ℕ) (s : Status) : Type 0 where
  pub answer : Result (Option ℕ) Refused
  pub denoted : OfText (NumbersText space name) text answer
  pub told : TellsNumber answer old new s

-- The same in the index space with a number.
pub record DenotesAt (text : List ℕ) (rank : ℕ) (name : List ℕ) (old new : ℕ) (s : Status) : Type 0 where
  pub space : Space
  pub ranked : rank_of space ≡ rank
  pub denotes : DenotesRead text space name old new s

-- No index space has this number.
abbrev pub IsNoSpace : ℕ → Type 0
IsNoSpace rank = 8 ≤ rank

-- Looking a name up.
abbrev pub ResolveReturns : List ℕ → ℕ → List ℕ → ℕ → ℕ → Status → Type 0
ResolveReturns text rank name old new status.Utf8 = (IsNoText text ⊎ IsNoText name) × (new ≡ old)
ResolveReturns text rank name old new status.Unknown = (IsNoSpace rank × (new ≡ old)) ⊎ DenotesAt text rank name old new status.Unknown
ResolveReturns text rank name old new s = DenotesAt text rank name old new s

-- A position of a text, with its line and column. Without a position all are 0.
abbrev pub IsPlaced : List ℕ → Option Span → Diagnosis → Type 0
IsPlaced text None d = (d.offset ≡ 0) × (d.line ≡ 0) × (d.column ≡ 0)
IsPlaced text (Some place) d = (d.offset ≡ place.offset) × (d.line ≡ line_of text place) × (d.column ≡ column_of text place)

-- The token of an error ends in the text between characters, and not before the position. Without a position the end is 0.
abbrev pub IsRanged : List ℕ → Option Span → Diagnosis → Type 0
IsRanged text None d = d.end_offset ≡ 0
IsRanged text (Some place) d =
    (d.end_offset ≤ length text) × IsCharBoundary text d.end_offset × (IsCharBoundary text place.offset → place.offset ≤ d.end_offset)

-- The diagnosis of an error: with its status, its number, 0 if it has none, and its position.
pub record IsTold (text : List ℕ) (refused : Refused) (d : Diagnosis) (s : Status) : Type 0 where
  pub answered : s ≡ status_of (number_of refused)
  pub numbered : d.number ≡ unwrap_or (number_of refused) 0
  pub placed : IsPlaced text (place_of refused) d
  pub ranged : IsRanged text (place_of refused) d

-- The diagnosis of a text without an error.
abbrev pub nothing_wrong : Diagnosis
nothing_wrong = record { number = 0; offset = 0; line = 0; column = 0; size = 0; end_offset = 0 }

-- The diagnosis of a result of encoding.
abbrev pub TellsAnswer : List ℕ → Result (Vec ℕ) Refused → Diagnosis → Status → Type 0
TellsAnswer text (Ok bytes) d s = (d ≡ nothing_wrong) × (s ≡ status.Done)
TellsAnswer text (Err r) d s = IsTold text r d s

-- The error of a text: a result that `encode_text` may return for this text is written.
pub record DiagnosesRead (text : List ℕ) (d : Diagnosis) (s : Status) : Type 0 where
  pub answer : Result (Vec ℕ) Refused
  pub encoded : OfText EncodesText text answer
  pub told : TellsAnswer text answer d s

-- The error of bytes. If they are not UTF-8, the position has no line.
abbrev pub Diagnoses : List ℕ → Diagnosis → Status → Type 0
Diagnoses text d status.Utf8 = IsNoText text × (d.number ≡ 0) × (d.line ≡ 0) × (d.column ≡ 0)
Diagnoses text d s = DiagnosesRead text d s
