-- The operand stack and the control frames (appendix, validation algorithm), each as a list from the top.
--
-- An operand is taken from the part of the stack above the height of the innermost frame. Below, there is none; but if the rest of the
-- frame is unreachable, any number of operands of unknown type is there.
use Rattle.std.specs.Prelude.{◌-◌, Bool, true, false, ◌==◌, nat_le, List, [], ◌∷◌, length, drop, reverse, Option, Some, None, Result, Ok, Err, slice_get}
use Rattle.wast_valid_machine.specs.declared.types.Ty.{Ty}
use Rattle.wast_valid_machine.specs.declared.types.Ty.TheVariants.{Unknown}
use Rattle.wast_valid_machine.specs.declared.types.RefTy.{RefTy}
use Rattle.wast_valid_machine.specs.declared.types.Shape.{Shape}
use Rattle.wast_valid_machine.specs.declared.types.Shape.TheVariants as shape
use Rattle.wast_valid_machine.specs.declared.types.Def.{Def}
use Rattle.wast_valid_machine.specs.declared.state.Sig.{Sig}
use Rattle.wast_valid_machine.specs.declared.state.Sig.TheVariants as sig
use Rattle.wast_valid_machine.specs.declared.state.Tys.{Tys}
use Rattle.wast_valid_machine.specs.declared.state.Tys.TheVariants as tys
use Rattle.wast_valid_machine.specs.declared.state.Kind.{Kind}
use Rattle.wast_valid_machine.specs.declared.state.Kind.TheVariants as kind
use Rattle.wast_valid_machine.specs.declared.state.Frame.{Frame}
use Rattle.wast_valid_machine.specs.declared.state.State.{State}
use Rattle.wast_valid_machine.specs.declared.state.Cause.{Cause}
use Rattle.wast_valid_machine.specs.declared.state.Cause.TheVariants as cause
use Rattle.wast_valid_machine.specs.Checks.{bind, check, known}
use Rattle.wast_valid_machine.specs.Types.{Types, matches, reference_of}

-- the parameters of a function type
abbrev pub shape_params : Shape → List Ty
shape_params (shape.Func f) = f.params
shape_params s = []

abbrev pub params_at : Option Def → List Ty
params_at None = []
params_at (Some d) = shape_params d.shape

-- the results of a function type
abbrev pub shape_results : Shape → List Ty
shape_results (shape.Func f) = f.results
shape_results s = []

abbrev pub results_at : Option Def → List Ty
results_at None = []
results_at (Some d) = shape_results d.shape

-- the types that are meant
unfoldable pub tys_of : Types → Tys → List Ty
tys_of ts tys.None_ = []
tys_of ts (tys.One t) = t ∷ []
tys_of ts (tys.Params n) = params_at (slice_get ts n)
tys_of ts (tys.Results n) = results_at (slice_get ts n)

-- the types at the start of a block
unfoldable pub starts : Sig → Tys
starts sig.Empty = tys.None_
starts (sig.One t) = tys.None_
starts (sig.Func n) = tys.Params n

-- the types at its end
unfoldable pub ends : Sig → Tys
ends sig.Empty = tys.None_
ends (sig.One t) = tys.One t
ends (sig.Func n) = tys.Results n

-- the types of the label of a frame: those at the start of a loop, and at the end of other blocks
unfoldable pub label_tys : Kind → Sig → Tys
label_tys kind.Loop s = starts s
label_tys k s = ends s

-- an operand, and the state without it
pub record Popped : Type 0 where
  pub ty : Ty
  pub rest : State

-- below the height of a frame there is no operand, or one of unknown type
unfoldable pub pop_below : Cause → Bool → State → Result Popped Cause
pop_below e true s = Ok (record { ty = Unknown; rest = s })
pop_below e false s = Err e

-- the uppermost operand
unfoldable pub pop_top : Cause → List Ty → State → Result Popped Cause
pop_top e [] s = Err e
pop_top e (t ∷ ts) s = Ok (record { ty = t; rest = record s { values = ts } })

-- one of both
unfoldable pub pop_by : Cause → Bool → Frame → State → Result Popped Cause
pop_by e true f s = pop_below e f.unreachable s
pop_by e false f s = pop_top e s.values s

-- an operand of the innermost frame
unfoldable pub pop_in : Cause → Option Frame → State → Result Popped Cause
pop_in e None s = Err cause.NoBlock
pop_in e (Some f) s = pop_by e (nat_le (length s.values) f.height) f s

-- an operand, or this error if there is none
unfoldable pub pop_or : Cause → State → Result Popped Cause
pop_or e s = pop_in e (slice_get s.frames 0) s

-- an operand of a type
unfoldable pub expect : Types → Ty → State → Result State Cause
expect ts want s = bind (pop_or (cause.Missing want) s) (λ p. check (matches ts p.ty want) (cause.Mismatch want p.ty) p.rest)

-- operands of these types, the uppermost first
unfoldable pub expect_all : Types → List Ty → State → Result State Cause
expect_all ts [] s = Ok s
expect_all ts (t ∷ rest) s = bind (expect ts t s) (λ s. expect_all ts rest s)

-- operands of these types, the uppermost last, as in a list of parameters
unfoldable pub expect_tys : Types → Tys → State → Result State Cause
expect_tys ts want s = expect_all ts (reverse (tys_of ts want)) s

-- one more operand
abbrev pub push : Ty → State → State
push t s = record s { values = t ∷ s.values }

-- more operands, the uppermost last
unfoldable pub push_all : List Ty → State → State
push_all [] s = s
push_all (t ∷ rest) s = push_all rest (push t s)

-- the same for types that are meant
unfoldable pub push_tys : Types → Tys → State → State
push_tys ts given s = push_all (tys_of ts given) s

-- an operand of a type, with the type that it has
unfoldable pub pop_as : Types → Ty → State → Result Popped Cause
pop_as ts want s = bind (pop_or (cause.Missing want) s) (λ p. check (matches ts p.ty want) (cause.Mismatch want p.ty) p)

-- operands of these types, the uppermost first; those found are kept, in the order of the stack
unfoldable pub keep_all : Types → List Ty → List Ty → State → Result State Cause
keep_all ts [] kept s = Ok (push_all kept s)
keep_all ts (t ∷ rest) kept s = bind (pop_as ts t s) (λ p. keep_all ts rest (p.ty ∷ kept) p.rest)

-- operands of these types, which stay
unfoldable pub exchange : Types → Tys → State → Result State Cause
exchange ts want s = keep_all ts (reverse (tys_of ts want)) [] s

-- a new innermost frame, without its operands
abbrev pub open_frame : Kind → Sig → State → State
open_frame k b s = record s { frames = record { kind = k; «sig» = b; height = length s.values; inits = length s.inits; unreachable = false } ∷ s.frames }

-- a new innermost frame with its operands
abbrev pub enter : Types → Kind → Sig → State → State
enter ts k b s = push_tys ts (starts b) (open_frame k b s)

-- a frame that was left, and the state without it
pub record Exit : Type 0 where
  pub frame : Frame
  pub rest : State

-- the state without its innermost frame: the locals that were set in it are not set any more
abbrev pub without_frame : Frame → State → State
without_frame f s = record s { frames = drop 1 s.frames; inits = drop (length s.inits - f.inits) s.inits }

-- the end of the innermost frame, whose results are the only operands that are left
unfoldable pub leave_in : Types → Option Frame → State → Result Exit Cause
leave_in ts None s = Err cause.NoBlock
leave_in ts (Some f) s = bind (expect_tys ts (ends f.«sig») s)
    (λ t. check (length t.values == f.height) (cause.Surplus (length t.values - f.height)) (record { frame = f; rest = without_frame f t }))

unfoldable pub leave : Types → State → Result Exit Cause
leave ts s = leave_in ts (slice_get s.frames 0) s

-- the rest of the innermost frame is unreachable
abbrev pub cut_in : List Frame → State → State
cut_in [] s = s
cut_in (f ∷ fs) s = record s { values = drop (length s.values - f.height) s.values; frames = record f { unreachable = true } ∷ fs }

abbrev pub cut_off : State → State
cut_off s = cut_in s.frames s

-- an operand that is a reference; one of unknown type is the least reference
unfoldable pub reference_in : Popped → Result (RefTy × State) Cause
reference_in p = bind (known (cause.NotReference p.ty) (reference_of p.ty)) (λ r. Ok (r, p.rest))
