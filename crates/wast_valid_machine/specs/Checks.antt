-- Checks in sequence: the first check that fails determines the error.
use Rattle.std.specs.Prelude.{Bool, true, false, Option, Some, None, Result, Ok, Err}
use Rattle.wast_valid_machine.specs.declared.state.Cause.{Cause}

-- the checks that follow, applied to the result of the first ones
unfoldable pub bind : {A B : Type 0} → Result A Cause → (A → Result B Cause) → Result B Cause
bind (Ok x) next = next x
bind (Err e) next = Err e

-- one check: it fails with this cause unless the test holds
unfoldable pub check : {A : Type 0} → Bool → Cause → A → Result A Cause
check true e x = Ok x
check false e x = Err e

-- an item of an index space, or this cause if there is none
unfoldable pub known : {A : Type 0} → Cause → Option A → Result A Cause
known e (Some x) = Ok x
known e None = Err e
