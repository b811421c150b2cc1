-- What encoding resolved fields returns, and what it appends to a sink.
--
--   fields with an unsupported construct     E11 that names the first one
--   other fields                             their bytes; or the error of the sink, or E10
use Rattle.std.specs.Prelude.{◌≡◌, ◌⊎◌, ℕ, List, [], length, Option, Some, None, Result, Ok, Err}
use Rattle.std.specs.Global.{Vec}
use Rattle.wast_base.specs.declared.faults.Error.{Error}
use Rattle.wast_base.specs.declared.faults.Fault.TheVariants as fault
use Rattle.wast_base.specs.declared.faults.Form.{Form}
use Rattle.wast_base.specs.Faults.{error_without_place, too_large, out_of_memory}
use Rattle.wasm_ops.specs.Sinks.{SinkRules, refused_as}
use Rattle.wasm_out.specs.Reads.{Reads}
use Rattle.wast_core_sections.specs.Tree.{ModuleField}
use Rattle.wast_core_sections.specs.Writable.{bytes_of, InRangeModule, IsWritable}
use Rattle.wast_core_sections.specs.Sections.{parts}
use Rattle.wast_core_sections.specs.Uncovered.{head_of, uncovered_forms, IsCovered}

-- Why resolved fields are not encoded: an unsupported construct; or else allocation failed, or they are too large.
abbrev pub IsUnwritten : Option Form → Type 0 → Error → Type 0
IsUnwritten (Some form) is_bounded e = e ≡ error_without_place (fault.Uncovered form)
IsUnwritten None is_bounded e = (e ≡ out_of_memory) ⊎ ((e ≡ too_large) × (is_bounded → ⊥))

-- Encoding the resolved fields of a module with this name: their bytes, if each construct is supported.
abbrev pub EncodesFields : Option (List ℕ) → List ModuleField → Result (Vec ℕ) Error → Type 0
EncodesFields name fields (Ok bytes) = IsCovered fields × Reads bytes.items (parts name fields)
EncodesFields name fields (Err e) = IsUnwritten (head_of (uncovered_forms fields)) (IsWritable name fields) e

-- Why nothing was appended: an unsupported construct; or else the bytes do not fit in the sink, or a number, count or
-- length is out of range.
abbrev pub IsNotPut : {S : Type 0} → Option Form → SinkRules S → S → Option (List ℕ) → List ModuleField → Error → Type 0
IsNotPut (Some form) rules old name fields e = e ≡ error_without_place (fault.Uncovered form)
IsNotPut None rules old name fields e =
    ((e ≡ refused_as rules.refusal) × (rules.fits old (length (bytes_of name fields)) → ⊥)) ⊎ ((e ≡ too_large) × (InRangeModule name fields → ⊥))

-- The bytes of these fields were appended, if each construct is supported; or nothing was.
abbrev pub PutsFields : {S : Type 0} → SinkRules S → Option (List ℕ) → List ModuleField → S → S → Result (Unit {0}) Error → Type 0
PutsFields rules name fields old new (Ok x) = IsCovered fields × rules.appended old new (bytes_of name fields) × InRangeModule name fields
PutsFields rules name fields old new (Err e) = rules.appended old new [] × IsNotPut (head_of (uncovered_forms fields)) rules old name fields e
