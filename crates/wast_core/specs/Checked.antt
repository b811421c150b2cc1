-- What the checked calls return: the result of the unchecked call if the module is ready, and otherwise the reason why it
-- is not. Then nothing has changed.
--
--   a load with the alignment 3                      not ready: IllFormed, with rule 1
--   a counter at 7, and a generated id 7             not ready: CounterTooLow 7
use Rattle.std.specs.Prelude.{◌≡◌, ℕ, ◌≤◌, List, codes, Option, Some, None, Result, Ok, Err, IsTrue}
use Rattle.wast_base.specs.declared.ids.Span.{Span}
use Rattle.wast_base.specs.declared.faults.Error.{Error}
use Rattle.wast_base.specs.Faults.{clause_text, fault_of, fault_text, span_of}
use Rattle.wast_tree_visit.specs.declared.first_failing.IllFormed.{IllFormed}
use Rattle.wast_tree_visit.specs.IllFormed.{first_ill_formed}
use Rattle.wast_core.specs.declared.checked.NotReady.{NotReady}
use Rattle.wast_core.specs.declared.checked.NotReady.TheVariants as reason
use Rattle.wast_core.specs.declared.checked.CheckError.{CheckError}
use Rattle.wast_core.specs.declared.checked.CheckError.TheVariants as check
use Rattle.wast_core.specs.declared.module.Module.{Module}
use Rattle.wast_core.specs.declared.module.ModuleKind.{ModuleKind}
use Rattle.wast_core.specs.declared.module.ModuleKind.TheVariants as kind
use Rattle.wast_core.specs.Modules.{is_well_formed, generation_bound, IsReady}

-- The first rule of well-formedness that the content breaks, with the closest position known.
abbrev pub first_ill_formed_kind : ModuleKind → Option IllFormed
first_ill_formed_kind (kind.Text fs) = first_ill_formed fs
first_ill_formed_kind (kind.Binary pieces) = None
first_ill_formed_kind (kind.Refused e) = None

-- Why a module is not ready for this counter: it is not well formed, or the counter is not past its generated ids.
abbrev pub IsUnready : Module → ℕ → NotReady → Type 0
IsUnready m counter (reason.IllFormed found) = first_ill_formed_kind m.kind ≡ Some found
IsUnready m counter (reason.CounterTooLow bound) = IsTrue (is_well_formed m) × (bound ≡ generation_bound m) × (counter ≤ bound)

-- The error of a checked call. `Call` is what the unchecked call returns and leaves.
abbrev pub FailsChecked : (Error → Module → ℕ → Type 0) → Module → ℕ → CheckError → Module → ℕ → Type 0
FailsChecked Call old before (check.NotReady r) new after = IsUnready old before r × (new ≡ old) × (after ≡ before)
FailsChecked Call old before (check.Failed e) new after = IsReady old before × Call e new after

-- The result of a checked call. `Call` is what the unchecked call returns and leaves.
abbrev pub Checks : {A : Type 0} → (Result A Error → Module → ℕ → Type 0) → Module → ℕ → Result A CheckError → Module → ℕ → Type 0
Checks Call old before (Ok x) new after = IsReady old before × Call (Ok x) new after
Checks Call old before (Err c) new after = FailsChecked (λ e. Call (Err e)) old before c new after

-- The message for a module that is not ready.
abbrev pub reason_text : NotReady → List ℕ
reason_text (reason.IllFormed found) = clause_text found.clause
reason_text (reason.CounterTooLow bound) = codes "id counter must be past the generated ids of the module"

-- The message of an error.
abbrev pub check_text : CheckError → List ℕ
check_text (check.NotReady r) = reason_text r
check_text (check.Failed e) = fault_text (fault_of e)

-- The position of what is not well formed.
abbrev pub reason_span : NotReady → Option Span
reason_span (reason.IllFormed found) = Some found.span
reason_span (reason.CounterTooLow bound) = None

-- The position of an error, if it has one.
abbrev pub check_span : CheckError → Option Span
check_span (check.NotReady r) = reason_span r
check_span (check.Failed e) = span_of e
