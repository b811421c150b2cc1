-- Blocks, labels and branches (validation: control instructions; appendix: validation algorithm).
--
--   begins ts Block b s     the state after `block` with the type b
--   branch ts 0 s           the state after `br 0`: the rest of the frame is unreachable
use Rattle.std.specs.Prelude.{ℕ, ◌-◌, Bool, true, false, ◌&&◌, ◌==◌, List, [], ◌∷◌, length, Option, Some, None, Result, Ok, Err, slice_get}
use Rattle.wast_valid_machine.specs.declared.types.Ty.{Ty}
use Rattle.wast_valid_machine.specs.declared.types.Ty.TheVariants as t
use Rattle.wast_valid_machine.specs.declared.types.Shape.{Shape}
use Rattle.wast_valid_machine.specs.declared.types.Shape.TheVariants as shape
use Rattle.wast_valid_machine.specs.declared.types.Def.{Def}
use Rattle.wast_valid_machine.specs.declared.state.Sig.{Sig}
use Rattle.wast_valid_machine.specs.declared.state.Sig.TheVariants as sig
use Rattle.wast_valid_machine.specs.declared.state.Tys.{Tys}
use Rattle.wast_valid_machine.specs.declared.state.Tys.TheVariants as tys
use Rattle.wast_valid_machine.specs.declared.state.Kind.{Kind}
use Rattle.wast_valid_machine.specs.declared.state.Kind.TheVariants as kind
use Rattle.wast_valid_machine.specs.declared.state.State.{State}
use Rattle.wast_valid_machine.specs.declared.state.Cause.{Cause}
use Rattle.wast_valid_machine.specs.declared.state.Cause.TheVariants as cause
use Rattle.wast_valid_machine.specs.Checks.{bind, check, known}
use Rattle.wast_valid_machine.specs.Types.{Types, matches}
use Rattle.wast_valid_machine.specs.Machine.{tys_of, starts, ends, label_tys, expect, expect_tys, push_tys, enter, leave, cut_off, exchange}

-- operands of these types are replaced by operands of those
unfoldable pub converts : Types → (takes gives : Tys) → State → Result State Cause
converts ts takes gives s = bind (expect_tys ts takes s) (λ s. Ok (push_tys ts gives s))

-- whether a type is a function type
abbrev pub is_func_shape : Shape → Bool
is_func_shape (shape.Func f) = true
is_func_shape s = false

unfoldable pub is_func : Option Def → Bool
is_func None = false
is_func (Some d) = is_func_shape d.shape

-- the index of a function type
unfoldable pub func_type : Types → ℕ → Result ℕ Cause
func_type ts n = bind (known (cause.Type n) (slice_get ts n)) (λ d. check (is_func (Some d)) (cause.NotFunc n) n)

-- the type of a block
unfoldable pub block_type : Types → Sig → Result Sig Cause
block_type ts (sig.Func n) = bind (func_type ts n) (λ n. Ok (sig.Func n))
block_type ts b = Ok b

-- the start of a block
unfoldable pub begins : Types → Kind → Sig → State → Result State Cause
begins ts k b s = bind (block_type ts b) (λ b. bind (expect_tys ts (starts b) s) (λ s. Ok (enter ts k b s)))

-- the types of a label, by its depth
unfoldable pub label : State → ℕ → Result Tys Cause
label s n = bind (known (cause.Label n) (slice_get s.frames n)) (λ f. Ok (label_tys f.kind f.«sig»))

-- a branch that is always taken
unfoldable pub branch : Types → ℕ → State → Result State Cause
branch ts n s = bind (label s n) (λ l. bind (expect_tys ts l s) (λ s. Ok (cut_off s)))

-- a branch that may be taken
unfoldable pub may_branch : Types → ℕ → State → Result State Cause
may_branch ts n s = bind (label s n) (λ l. converts ts l l s)

-- A label of `br_table` has as many types as the default label, and the operands match its types. The operands stay. Those of an
-- unreachable frame are on the stack from then on, and their type is unknown.
unfoldable pub target : Types → ℕ → ℕ → State → Result State Cause
target ts arity n s = bind (label s n) (λ l. bind (check (length (tys_of ts l) == arity) (cause.Arity arity (length (tys_of ts l))) s) (λ s. exchange ts l s))

unfoldable pub targets : Types → ℕ → List ℕ → State → Result State Cause
targets ts arity [] s = Ok s
targets ts arity (n ∷ ns) s = bind (target ts arity n s) (λ s. targets ts arity ns s)

unfoldable pub branch_table : Types → List ℕ → ℕ → State → Result State Cause
branch_table ts ns n s = bind (expect ts t.I32 s)
    (λ s. bind (label s n) (λ l. bind (targets ts (length (tys_of ts l)) ns s) (λ s. branch ts n s)))

-- a return; the outermost frame is that of the body
unfoldable pub returns : Types → State → Result State Cause
returns ts s = branch ts (length s.frames - 1) s

-- a call of a function of a type
abbrev pub calls : Types → ℕ → State → Result State Cause
calls ts n s = converts ts (tys.Params n) (tys.Results n) s

-- whether each type matches the one at the same position, and there are as many
unfoldable pub all_match : Types → (found expected : List Ty) → Bool
all_match ts [] [] = true
all_match ts [] (b ∷ bs) = false
all_match ts (a ∷ rest) [] = false
all_match ts (a ∷ rest) (b ∷ bs) = matches ts a b && all_match ts rest bs

-- the results of a type match those of the function
unfoldable pub same_results : Types → ℕ → State → Result State Cause
same_results ts n s = bind (label s (length s.frames - 1)) (λ l. check (all_match ts (tys_of ts (tys.Results n)) (tys_of ts l)) (cause.Results n) s)

-- a call of a function of a type that ends the function
unfoldable pub tail_calls : Types → ℕ → State → Result State Cause
tail_calls ts n s = bind (same_results ts n s) (λ s. bind (expect_tys ts (tys.Params n) s) (λ s. Ok (cut_off s)))

-- the end of a block; an `if` without `else` is one with an empty `else`
unfoldable pub ends_kind : Types → Kind → Sig → State → Result State Cause
ends_kind ts kind.If b s = bind (leave ts (enter ts kind.Else b s)) (λ x. Ok (push_tys ts (ends b) x.rest))
ends_kind ts k b s = Ok (push_tys ts (ends b) s)

unfoldable pub ends_block : Types → State → Result State Cause
ends_block ts s = bind (leave ts s) (λ x. ends_kind ts x.frame.kind x.frame.«sig» x.rest)

-- `else`: the end of the first part of an `if`, and the start of the second part
unfoldable pub turns_kind : Types → Kind → Sig → State → Result State Cause
turns_kind ts kind.If b s = Ok (enter ts kind.Else b s)
turns_kind ts k b s = Err cause.NoIf

unfoldable pub turns_block : Types → State → Result State Cause
turns_block ts s = bind (leave ts s) (λ x. turns_kind ts x.frame.kind x.frame.«sig» x.rest)
