-- The line that a run writes for a line of its input.
--
--   27     the bytes of module 27, in hexadecimal          0027     no row: leading zeros
--   58     ill formed: 1                                   12       fault at 9: .., the error of encoding
use Rattle.std.specs.Prelude.{◌≡◌, ◌≢◌, ℕ, ◌==◌, Bool, true, false, List, ◌++◌, codes, Option, Some, None, Result, Ok, Err}
use Rattle.std.specs.Fmt.{decimal}
use Rattle.std.specs.Global.{Vec}
use Rattle.hex.specs.Hex.{encode_lower}
use Rattle.wast_base.specs.declared.ids.Span.{Span}
use Rattle.wast_base.specs.declared.faults.Error.{Error}
use Rattle.wast_base.specs.declared.faults.Fault.TheVariants as fault
use Rattle.wast_base.specs.Faults.{fault_of, span_of, fault_text}
use Rattle.wast_core.specs.declared.module.Module.{Module}
use Rattle.wast_core.specs.Headline.{Encodes}
use Rattle.wast_core.specs.Modules.{ill_formed, generation_bound}
use Rattle.wast_rows.specs.Numerals.{IsDecimalOf, IsNoNumber}

-- The line for a number without a module.
abbrev pub no_row_text : List ℕ
no_row_text = codes "no row"

-- The line of a module that is not well formed, with the number of a broken rule.
abbrev pub ill_formed_text : ℕ → List ℕ
ill_formed_text clause = codes "ill formed: " ++ decimal clause

-- The line of a well-formed module with a generated id.
abbrev pub generated_text : List ℕ
generated_text = codes "ill formed"

-- The line of an error, with its position if it has one.
abbrev pub refusal_text_at : Option Span → List ℕ → List ℕ
refusal_text_at (Some span) text = codes "fault at " ++ (decimal span.offset ++ (codes ": " ++ text))
refusal_text_at None text = codes "refused: " ++ text

-- The line of an error.
abbrev pub refusal_text : Error → List ℕ
refusal_text e = refusal_text_at (span_of e) (fault_text (fault_of e))

-- The line of a result of encoding, which is not E12.
abbrev pub TellsAnswer : Result (Vec ℕ) Error → List ℕ → Type 0
TellsAnswer (Ok bytes) line = line ≡ encode_lower bytes.items
TellsAnswer (Err e) line = (fault_of e ≢ fault.Memory) × (line ≡ refusal_text e)

-- The line is that of some result that encoding may return for the module, with the counter at 1.
pub record TellsModule (m : Module) (line : List ℕ) : Type 0 where
  pub answer : Result (Vec ℕ) Error
  pub after : Module
  pub counter : ℕ
  pub encodes : Encodes m 1 answer after counter
  pub tells : TellsAnswer answer line

-- The line of a well-formed module. Without generated ids it is encoded.
abbrev pub TellsWritten : Bool → Module → List ℕ → Type 0
TellsWritten true m line = TellsModule m line
TellsWritten false m line = line ≡ generated_text

-- The line of a module whose first broken rule is this one, and of a well-formed module.
abbrev pub TellsFormed : Option ℕ → Module → List ℕ → Type 0
TellsFormed (Some clause) m line = line ≡ ill_formed_text clause
TellsFormed None m line = TellsWritten (generation_bound m == 0) m line

-- The line of a row. Without a module it is `no row`.
abbrev pub TellsRow : Option (Result Module Error) → List ℕ → Type 0
TellsRow None line = line ≡ no_row_text
TellsRow (Some (Err e)) line = ⊥
TellsRow (Some (Ok m)) line = TellsFormed (ill_formed m) m line

-- The line is right for a line of the input, if `gives` relates a number to its module.
pub data TellsLine (gives : ℕ → Option (Result Module Error) → Type 0) (asked line : List ℕ) : Type 0 where
  row : (n : ℕ) (sample : Option (Result Module Error)) → IsDecimalOf asked n → gives n sample → TellsRow sample line → TellsLine gives asked line
  no_number : IsNoNumber asked → line ≡ no_row_text → TellsLine gives asked line
