-- Items of a context that instructions refer to (validation: contexts), and references to types.
use Rattle.std.specs.Prelude.{ℕ, Bool, true, false, ◌||◌, ◌==◌, nat_lt, List, ◌∷◌, Option, Some, None, Result, Ok, Err, slice_get, unwrap_or}
use Rattle.std.specs.List.{list_any}
use Rattle.wast_valid_machine.specs.declared.types.Ty.{Ty}
use Rattle.wast_valid_machine.specs.declared.types.Ty.TheVariants as t
use Rattle.wast_valid_machine.specs.declared.types.Heap.{Heap}
use Rattle.wast_valid_machine.specs.declared.types.Heap.TheVariants as heap
use Rattle.wast_valid_machine.specs.declared.types.Field.{Field}
use Rattle.wast_valid_machine.specs.declared.types.Shape.{Shape}
use Rattle.wast_valid_machine.specs.declared.types.Shape.TheVariants as shape
use Rattle.wast_valid_machine.specs.declared.state.State.{State}
use Rattle.wast_valid_machine.specs.declared.state.Context.{Context}
use Rattle.wast_valid_machine.specs.declared.state.Cause.{Cause}
use Rattle.wast_valid_machine.specs.declared.state.Cause.TheVariants as cause
use Rattle.wast_valid_machine.specs.Checks.{bind, known}
use Rattle.wast_valid_machine.specs.Types.{Types, has_default, bottom_of, abstract_of}

-- whether a local has a value: its type has a default, it is a parameter, or it has been set
unfoldable pub is_set : Context → State → ℕ → Ty → Bool
is_set c s x ty = has_default ty || nat_lt x c.params || list_any (λ y. y == x) s.inits

-- a local that has been set
abbrev pub mark_if : Bool → ℕ → State → State
mark_if true x s = s
mark_if false x s = record s { inits = x ∷ s.inits }

abbrev pub mark : Context → ℕ → Ty → State → State
mark c x ty s = mark_if (is_set c s x ty) x s

-- whether a function occurs outside of bodies, so that `ref.func` may refer to it
unfoldable pub is_declared : Context → ℕ → Bool
is_declared c x = unwrap_or (slice_get c.declared x) false

-- the greatest type of the hierarchy of a heap type
abbrev pub top_of_abstract : Heap → Heap
top_of_abstract heap.NoFunc = heap.Funcs
top_of_abstract heap.NoExtern = heap.Externs
top_of_abstract heap.NoExn = heap.Exns
top_of_abstract b = heap.Any

abbrev pub top_of : Types → Heap → Heap
top_of ts (heap.Defined n) = top_of_abstract (bottom_of (abstract_of (slice_get ts n)))
top_of ts h = top_of_abstract (bottom_of h)

-- the type of an instruction refers to a type of the module
unfoldable pub heap_known : Types → Heap → State → Result State Cause
heap_known ts (heap.Defined n) s = bind (known (cause.Type n) (slice_get ts n)) (λ d. Ok s)
heap_known ts h s = Ok s

unfoldable pub ty_known : Types → Ty → State → Result State Cause
ty_known ts (t.Ref r) s = heap_known ts r.heap s
ty_known ts ty s = Ok s

-- `(ref null ..)` and `(ref ..)`
abbrev pub maybe : Heap → Ty
maybe h = t.Ref (record { nullable = true; heap = h })

abbrev pub sure : Heap → Ty
sure h = t.Ref (record { nullable = false; heap = h })

-- the fields of a struct type
abbrev pub fields_of_shape : Shape → Option (List Field)
fields_of_shape (shape.Record fields) = Some fields
fields_of_shape s = None

unfoldable pub struct_type : Types → ℕ → Result (List Field) Cause
struct_type ts n = bind (known (cause.Type n) (slice_get ts n)) (λ d. known (cause.NotStruct n) (fields_of_shape d.shape))
