-- Signatures of function types, and when two are equal (text format: function types, type uses).
--
-- A signature has the types of parameters and results, without ids of parameters. This equality compares indices as
-- they are, so a number and an id differ. Numbers replaces ids of types before type uses are compared.
--
--   (func (param $p i32) (result i64))      signature: parameters i32, results i64
--   (ref $t) and (ref 0)                    not equal here
use Rattle.std.specs.Prelude.{ℕ, ◌==◌, Bool, true, false, ◌&&◌, List, [], map, Option, Some, None}
use Rattle.std.specs.Bool.{beq}
use lib.Pointwise.{pointwise}
use Rattle.wast_base.specs.Ids.{same_index}
use Rattle.wast_expand_keys.specs.Tree.{Id, Index, NameAnnotation, AbstractHeapType, HeapType, RefType, ValType, FunctionType}
use Rattle.wast_expand_keys.specs.Tree.abstract
use Rattle.wast_expand_keys.specs.Tree.heap
use Rattle.wast_expand_keys.specs.Tree.value

-- the types of the parameters, and of the results
abbrev pub Signature : Type 0
Signature = List ValType × List ValType

-- the type of a parameter
abbrev pub type_of_param : Option Id × Option NameAnnotation × ValType → ValType
type_of_param p = p.2

-- the signature of a function type
abbrev pub signature_of : FunctionType → Signature
signature_of t = (map type_of_param t.params, t.results)

-- `(func)`
abbrev pub empty_signature : Signature
empty_signature = ([], [])

-- a number for each abstract heap type
abbrev pub heap_rank : AbstractHeapType → ℕ
heap_rank abstract.Func = 0
heap_rank abstract.Extern = 1
heap_rank abstract.Exn = 2
heap_rank abstract.NoExn = 3
heap_rank abstract.Any = 4
heap_rank abstract.Eq = 5
heap_rank abstract.Struct = 6
heap_rank abstract.Array = 7
heap_rank abstract.NoFunc = 8
heap_rank abstract.NoExtern = 9
heap_rank abstract.None = 10
heap_rank abstract.I31 = 11
heap_rank abstract.Cont = 12
heap_rank abstract.NoCont = 13

-- Equality of heap types, from an equality of indices.
abbrev pub same_heap_by : (Index → Index → Bool) → HeapType → HeapType → Bool
same_heap_by same (heap.Abstract s a) (heap.Abstract t b) = beq s t && heap_rank a == heap_rank b
same_heap_by same (heap.Concrete i) (heap.Concrete j) = same i j
same_heap_by same (heap.Exact i) (heap.Exact j) = same i j
same_heap_by same (heap.Abstract s a) (heap.Concrete j) = false
same_heap_by same (heap.Abstract s a) (heap.Exact j) = false
same_heap_by same (heap.Concrete i) (heap.Abstract t b) = false
same_heap_by same (heap.Concrete i) (heap.Exact j) = false
same_heap_by same (heap.Exact i) (heap.Abstract t b) = false
same_heap_by same (heap.Exact i) (heap.Concrete j) = false

-- equality of reference types, likewise
abbrev pub same_ref_by : (Index → Index → Bool) → RefType → RefType → Bool
same_ref_by same r q = beq r.nullable q.nullable && same_heap_by same r.heap q.heap

-- a number for each value type
abbrev pub value_rank : ValType → ℕ
value_rank value.I32 = 0
value_rank value.I64 = 1
value_rank value.F32 = 2
value_rank value.F64 = 3
value_rank value.V128 = 4
value_rank (value.Ref r) = 5

-- the reference type, if it is one
abbrev pub reference_in : ValType → Option RefType
reference_in value.I32 = None
reference_in value.I64 = None
reference_in value.F32 = None
reference_in value.F64 = None
reference_in value.V128 = None
reference_in (value.Ref r) = Some r

-- equality of optional reference types
abbrev pub same_reference_by : (Index → Index → Bool) → Option RefType → Option RefType → Bool
same_reference_by same None None = true
same_reference_by same (Some r) (Some q) = same_ref_by same r q
same_reference_by same None (Some q) = false
same_reference_by same (Some r) None = false

-- equality of value types
abbrev pub same_value_by : (Index → Index → Bool) → ValType → ValType → Bool
same_value_by same a b = value_rank a == value_rank b && same_reference_by same (reference_in a) (reference_in b)

-- equality of lists of value types
abbrev pub same_values_by : (Index → Index → Bool) → List ValType → List ValType → Bool
same_values_by same vs ws = pointwise (same_value_by same) vs ws

-- equality of signatures
abbrev pub same_signature_by : (Index → Index → Bool) → Signature → Signature → Bool
same_signature_by same s t = same_values_by same s.0 t.0 && same_values_by same s.1 t.1

-- Equality with indices compared as they are: a number and an id are never equal.
abbrev pub same_heap : HeapType → HeapType → Bool
same_heap a b = same_heap_by same_index a b

-- of reference types
abbrev pub same_ref : RefType → RefType → Bool
same_ref r q = same_ref_by same_index r q

-- of value types
abbrev pub same_value : ValType → ValType → Bool
same_value a b = same_value_by same_index a b

-- of lists of value types
abbrev pub same_values : List ValType → List ValType → Bool
same_values vs ws = same_values_by same_index vs ws

-- of signatures
abbrev pub same_signature : Signature → Signature → Bool
same_signature s t = same_signature_by same_index s t
