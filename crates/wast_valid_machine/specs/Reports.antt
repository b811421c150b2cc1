-- The error of a function whose definition is a `Result`: the same cause, or that allocation failed.
use Rattle.std.specs.Prelude.{◌≡◌, Result, Err}
use Rattle.wast_valid_machine.specs.declared.state.Cause.{Cause}
use Rattle.wast_valid_machine.specs.declared.state.Stop.{Stop}
use Rattle.wast_valid_machine.specs.declared.state.Stop.TheVariants.{Memory, Invalid}

-- the error is that of the definition
unfoldable pub Reports : {A : Type 0} → Result A Cause → Stop → Type 0
Reports expected Memory = Unit {0}
Reports expected (Invalid e) = expected ≡ Err e
