-- The errors E1 to E13: their numbers, which of them have a position, and their messages.
--
-- A `&str` in a contract has an address, so two faults with the same text at different addresses are not equal. A `Cause` is
-- a fault with the bytes of its texts instead, so that definitions can compare errors.
--
--   E4 of "func" and "g" at offset 244     message "unknown func: failed to find name `$g`", number 4
use Rattle.std.specs.Prelude.{ℕ, Bool, true, false, List, ◌==◌, ◌++◌, codes, if◌then◌else◌, Option, Some, None}
use Rattle.std.specs.Fmt.{decimal}
use Rattle.wast_base.specs.declared.ids.Span.{Span}
use Rattle.wast_base.specs.declared.faults.Form.{Form}
use Rattle.wast_base.specs.declared.faults.Form.TheVariants as form
use Rattle.wast_base.specs.declared.faults.Fault.{Fault}
use Rattle.wast_base.specs.declared.faults.Fault.TheVariants as fault
use Rattle.wast_base.specs.declared.faults.Error.{Error}

-- a fault whose texts are bytes, without addresses
pub data Cause : Type 0 where
  ImportAfter : List ℕ → Cause
  Duplicate : List ℕ → Cause
  DuplicateField : List ℕ → List ℕ → Cause
  Unknown : List ℕ → List ℕ → Cause
  NotFunc : Cause
  OutOfBounds : Cause
  NoMatch : Cause
  Labels : Cause
  NoNamedFields : List ℕ → ℕ → Cause
  TooLarge : Cause
  Uncovered : Form → Cause
  Memory : Cause
  Component : Cause

-- the cause of a fault
abbrev pub cause_of : Fault → Cause
cause_of (fault.ImportAfter kind) = ImportAfter kind.now
cause_of (fault.Duplicate kind) = Duplicate kind.now
cause_of (fault.DuplicateField kind name) = DuplicateField kind.now name.now
cause_of (fault.Unknown kind name) = Unknown kind.now name.now
cause_of fault.NotFunc = NotFunc
cause_of fault.OutOfBounds = OutOfBounds
cause_of fault.NoMatch = NoMatch
cause_of fault.Labels = Labels
cause_of (fault.NoNamedFields name n) = NoNamedFields name.now n
cause_of fault.TooLarge = TooLarge
cause_of (fault.Uncovered f) = Uncovered f
cause_of fault.Memory = Memory
cause_of fault.Component = Component

-- the fault of an error
abbrev pub fault_of : Error → Fault
fault_of e = e.fault

-- the position of an error, if it has one
abbrev pub span_of : Error → Option Span
span_of e = e.span

-- the number of a fault: 1 for E1, up to 13 for E13
abbrev pub fault_number : Fault → ℕ
fault_number (fault.ImportAfter kind) = 1
fault_number (fault.Duplicate kind) = 2
fault_number (fault.DuplicateField kind name) = 3
fault_number (fault.Unknown kind name) = 4
fault_number fault.NotFunc = 5
fault_number fault.OutOfBounds = 6
fault_number fault.NoMatch = 7
fault_number fault.Labels = 8
fault_number (fault.NoNamedFields name n) = 9
fault_number fault.TooLarge = 10
fault_number (fault.Uncovered f) = 11
fault_number fault.Memory = 12
fault_number fault.Component = 13

-- whether a fault has a position: E1 to E9 do, since they are mistakes in the source
abbrev pub is_placed : Fault → Bool
is_placed fault.TooLarge = false
is_placed (fault.Uncovered f) = false
is_placed fault.Memory = false
is_placed fault.Component = false
is_placed f = true

-- an error with a position
abbrev pub error_at : Span → Fault → Error
error_at span fault = record { span = Some span; fault = fault }

-- an error without a position
abbrev pub error_without_place : Fault → Error
error_without_place fault = record { span = None; fault = fault }

-- E10
abbrev pub too_large : Error
too_large = error_without_place fault.TooLarge

-- E12
abbrev pub out_of_memory : Error
out_of_memory = error_without_place fault.Memory

-- the content of an error: a cause with a position, or without one
pub data Diagnostic : Type 0 where
  At : Cause → Span → Diagnostic
  Nowhere : Cause → Diagnostic

-- the diagnostic of a cause and an optional position
abbrev pub told_at : Cause → Option Span → Diagnostic
told_at fault (Some span) = At fault span
told_at fault None = Nowhere fault

-- the diagnostic of an error
abbrev pub diagnostic_of : Error → Diagnostic
diagnostic_of e = told_at (cause_of e.fault) e.span

-- the name of a form in the message of E11
abbrev pub form_text : Form → List ℕ
form_text form.StackSwitching = codes "stack switching"
form_text form.Shared = codes "shared type"
form_text form.Ordering = codes "memory ordering"
form_text form.Atomic = codes "atomic of a global, table, struct or array"
form_text form.Descriptor = codes "descriptor or exact type"
form_text form.CompactImports = codes "compact import group"
form_text form.ArrayMemArg = codes "array memory argument"
form_text form.TargetArch = codes "target architecture"
form_text form.Beyond = codes "instruction beyond the table"

-- the end of the message of E4
unfoldable pub unknown_text : List ℕ → List ℕ
unknown_text name = codes ": failed to find name `$" ++ (name ++ codes "`")

-- the end of the message of E9
unfoldable pub unnamed_text : ℕ → List ℕ
unnamed_text n = codes "` in a struct without named fields, type index " ++ decimal n

-- the message of a fault
abbrev pub fault_text : Fault → List ℕ
fault_text (fault.ImportAfter kind) = codes "import after " ++ kind.now
fault_text (fault.Duplicate kind) = codes "duplicate " ++ (kind.now ++ codes " identifier")
fault_text (fault.DuplicateField kind name) = codes "duplicate identifier: duplicate " ++ (kind.now ++ (codes " named `" ++ (name.now ++ codes "`")))
fault_text (fault.Unknown kind name) = codes "unknown " ++ (kind.now ++ unknown_text name.now)
fault_text fault.NotFunc = codes "invalid type: not a function type"
fault_text fault.OutOfBounds = codes "unknown type: type index out of bounds"
fault_text fault.NoMatch = codes "inline function type doesn't match type reference"
fault_text fault.Labels = codes "mismatching labels between end and block"
fault_text (fault.NoNamedFields name n) = codes "accessing a named field `" ++ (name.now ++ unnamed_text n)
fault_text fault.TooLarge = codes "too large"
fault_text (fault.Uncovered f) = codes "uncovered form: " ++ form_text f
fault_text fault.Memory = codes "out of memory"
fault_text fault.Component = codes "components are not encoded"

-- the message for the rule of well-formedness with this number; it is here because the AST and the text reader print it
abbrev pub clause_text : ℕ → List ℕ
clause_text n =
    if n == 1 then codes "alignment must be a power of two"
    else if n == 2 then codes "branch hints must be on instructions, in increasing order, with value 0 or 1"
    else if n == 3 then codes "page size must be less than 2^64"
    else if n == 4 then codes "element segment without a table must have type funcref"
    else if n == 5 then codes "unbalanced blocks in constant expression"
    else if n == 6 then codes "generated id does not name an item of its index space"
    else codes "module is not well formed"
