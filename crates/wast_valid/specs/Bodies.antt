-- The first violation of a body: the number of the instruction, from 0, and why it is invalid. The end of the body counts as one more
-- instruction.
use Rattle.std.specs.Prelude.{◌≡◌, ℕ, suc, ◌==◌, List, [], ◌∷◌, length, Option, Some, None, Result, Ok, Err}
use Rattle.wast_valid_machine.specs.declared.state.Sig.{Sig}
use Rattle.wast_valid_machine.specs.declared.state.Kind.TheVariants as kind
use Rattle.wast_valid_machine.specs.declared.state.State.{State}
use Rattle.wast_valid_machine.specs.declared.state.Context.{Context}
use Rattle.wast_valid_machine.specs.declared.state.Cause.{Cause}
use Rattle.wast_valid_machine.specs.declared.state.Cause.TheVariants as cause
use Rattle.wast_valid_machine.specs.declared.state.Stop.{Stop}
use Rattle.wast_valid_machine.specs.declared.state.Stop.TheVariants.{Memory, Invalid}
use Rattle.wast_valid_machine.specs.Checks.{bind, check}
use Rattle.wast_valid_machine.specs.Machine.{leave, open_frame}
use Rattle.wast_valid.specs.declared.instrs.Instr.{Instr}
use Rattle.wast_valid.specs.declared.body.Violation.{Violation}
use Rattle.wast_valid.specs.Steps.{step}

-- the violation at this instruction, or at those that follow
unfoldable pub violation_at : {A : Type 0} → ℕ → Result A Cause → (A → Option Violation) → Option Violation
violation_at n (Ok x) next = next x
violation_at n (Err e) next = Some (record { instr = n; cause = e })

-- the end of the body
unfoldable pub end_of : Context → State → Result State Cause
end_of c s = bind (leave c.types s) (λ x. check (length x.rest.frames == 0) cause.NoBlock x.rest)

-- the first violation of instructions in a state
unfoldable pub violation_in : Context → ℕ → List Instr → State → Option Violation
violation_in c n [] s = violation_at n (end_of c s) (λ s. None)
violation_in c n (i ∷ is) s = violation_at n (step c i s) (λ s. violation_in c (suc n) is s)

-- the state at the start of a body
abbrev pub start : Sig → State
start b = open_frame kind.Body b (record { values = []; frames = []; inits = [] })

-- the first violation of a body whose function has this type
abbrev pub first_invalid_body : Context → Sig → List Instr → Option Violation
first_invalid_body c b is = violation_in c 0 is (start b)

-- what code returns for an error at an instruction: nothing if allocation failed
abbrev pub IsFound : ℕ → Stop → Option Violation → Type 0
IsFound n Memory v = ⊥
IsFound n (Invalid e) v = v ≡ Some (record { instr = n; cause = e })
