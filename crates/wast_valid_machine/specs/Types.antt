-- Subtyping of value types (validation, matching), over defined types by their canonical index.
--
-- A canonical index stands for all equal types, so equality of defined types is equality of numbers.
--
--   matches ts (Ref (false, NoAny)) (Ref (true, Any))     true
--   matches ts Unknown I32                                 true: the stack is polymorphic
use Rattle.std.specs.Prelude.{ℕ, zero, suc, Bool, true, false, not, ◌&&◌, ◌||◌, ◌==◌, List, length, Option, Some, None, slice_get}
use Rattle.wast_valid_machine.specs.declared.types.Ty.{Ty}
use Rattle.wast_valid_machine.specs.declared.types.Ty.TheVariants.{I32, I64, F32, F64, V128, Ref, Unknown}
use Rattle.wast_valid_machine.specs.declared.types.Heap.{Heap}
use Rattle.wast_valid_machine.specs.declared.types.Heap.TheVariants.{Any, Eqs, I31, Structs, Arrays, NoAny, Funcs, NoFunc, Externs, NoExtern, Exns, NoExn, Bottom, Defined}
use Rattle.wast_valid_machine.specs.declared.types.RefTy.{RefTy}
use Rattle.wast_valid_machine.specs.declared.types.Shape.{Shape}
use Rattle.wast_valid_machine.specs.declared.types.Shape.TheVariants.{Func, Record, Array}
use Rattle.wast_valid_machine.specs.declared.types.Def.{Def}

-- the defined types by their canonical index
abbrev pub Types : Type 0
Types = List Def

-- the least type of the hierarchy of an abstract heap type
abbrev pub bottom_of : Heap → Heap
bottom_of Any = NoAny
bottom_of Eqs = NoAny
bottom_of I31 = NoAny
bottom_of Structs = NoAny
bottom_of Arrays = NoAny
bottom_of NoAny = NoAny
bottom_of Funcs = NoFunc
bottom_of NoFunc = NoFunc
bottom_of Externs = NoExtern
bottom_of NoExtern = NoExtern
bottom_of Exns = NoExn
bottom_of NoExn = NoExn
bottom_of Bottom = Bottom
bottom_of (Defined i) = Bottom

-- the rank of an abstract heap type: a prime to each, so that "the same" is a test on numbers
abbrev pub number_of : Heap → ℕ
number_of Any = 0
number_of Eqs = 1
number_of I31 = 2
number_of Structs = 3
number_of Arrays = 4
number_of NoAny = 5
number_of Funcs = 6
number_of NoFunc = 7
number_of Externs = 8
number_of NoExtern = 9
number_of Exns = 10
number_of NoExn = 11
number_of Bottom = 12
number_of (Defined i) = 13

-- the abstract heap type directly above another one, if there is one, apart from the least ones
abbrev pub above : Heap → Option Heap
above Eqs = Some Any
above I31 = Some Eqs
above Structs = Some Eqs
above Arrays = Some Eqs
above h = None

-- whether two abstract heap types are the same
abbrev pub same_abstract : Heap → Heap → Bool
same_abstract a b = number_of a == number_of b

-- whether one is above the other, two steps up at most
abbrev pub climbs : Option Heap → Heap → Bool
climbs None b = false
climbs (Some a) b = same_abstract a b

abbrev pub climbs_twice : Option Heap → Heap → Bool
climbs_twice None b = false
climbs_twice (Some a) b = same_abstract a b || climbs (above a) b

-- whether an abstract heap type matches another: it is the same, below it, or the least of its hierarchy
abbrev pub abstract_matches : Heap → Heap → Bool
abstract_matches a b = same_abstract a b || climbs_twice (above a) b || same_abstract a (bottom_of b) || same_abstract a Bottom

-- the abstract heap type that a defined type is directly below
abbrev pub abstract_of_shape : Shape → Heap
abstract_of_shape (Func f) = Funcs
abstract_of_shape (Record fields) = Structs
abstract_of_shape (Array f) = Arrays

abbrev pub abstract_of : Option Def → Heap
abstract_of None = Bottom
abstract_of (Some d) = abstract_of_shape d.shape

-- the declared supertype of a type
abbrev pub parent_of : Option Def → Option ℕ
parent_of None = None
parent_of (Some d) = d.parent

-- Whether a defined type extends another: it is the same, or one of its declared supertypes is, at most `n` steps up.
-- A supertype has a lower index, so the number of types is enough.
unfoldable pub extends : Types → ℕ → Option ℕ → ℕ → Bool
extends ts n None j = false
extends ts zero (Some i) j = i == j
extends ts (suc n) (Some i) j = (i == j) || extends ts n (parent_of (slice_get ts i)) j

-- whether a heap type matches another
abbrev pub heap_matches : Types → Heap → Heap → Bool
heap_matches ts (Defined i) (Defined j) = extends ts (length ts) (Some i) j
heap_matches ts (Defined i) b = abstract_matches (abstract_of (slice_get ts i)) b
heap_matches ts a (Defined j) = same_abstract a (bottom_of (abstract_of (slice_get ts j))) || same_abstract a Bottom
heap_matches ts a b = abstract_matches a b

-- whether a reference type matches another
abbrev pub ref_matches : Types → RefTy → RefTy → Bool
ref_matches ts a b = (not a.nullable || b.nullable) && heap_matches ts a.heap b.heap

-- whether a value type matches another
unfoldable pub matches : Types → Ty → Ty → Bool
matches ts Unknown b = true
matches ts I32 I32 = true
matches ts I64 I64 = true
matches ts F32 F32 = true
matches ts F64 F64 = true
matches ts V128 V128 = true
matches ts (Ref a) (Ref b) = ref_matches ts a b
matches ts a b = false

-- whether it is a number or a vector, or unknown
unfoldable pub is_numeric : Ty → Bool
is_numeric (Ref r) = false
is_numeric t = true

-- the reference that a value type is; an unknown one is the least
unfoldable pub reference_of : Ty → Option RefTy
reference_of (Ref r) = Some r
reference_of Unknown = Some (record { nullable = false; heap = Bottom })
reference_of t = None

-- whether values of the type have a default
unfoldable pub has_default : Ty → Bool
has_default (Ref r) = r.nullable
has_default t = true
