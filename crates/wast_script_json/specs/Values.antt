-- Values in JSON: the arguments of actions, and what results have to be.
--
--   (i32.const -1)                   {"type": "i32", "value": "4294967295"}
--   (f32.const nan:canonical)        {"type": "f32", "value": "nan:canonical"}
--   (v128.const i64x2 1 2)           {"type": "v128", "lane_type": "i64", "value": ["1", "2"]}
--   (ref.null func)                  {"type": "funcref", "value": "null"}
--   (ref.func $f)                    {"type": "funcref", "value": {"id": "$f"}}
--
-- WorkedValues computes these.
use Rattle.std.specs.Prelude.{ℕ, ◌-◌, ◌==◌, nat_lt, ◌&&◌, Bool, true, false, List, [], ◌∷◌, ◌++◌, length, codes, decimal, Option, None, Some, if◌then◌else◌}
use Rattle.std.specs.Int.{w32, w64, cast_unsigned}
use Rattle.std.specs.List.{join_by}
use Rattle.wast_base.specs.Ids.{name_of, text_of}
use Rattle.wast_base.specs.declared.ids.Index.{Index}
use Rattle.wast_base.specs.declared.ids.Index.TheVariants as index
use Rattle.wast_tree_nodes.specs.declared.types.AbstractHeapType.{AbstractHeapType}
use Rattle.wast_tree_nodes.specs.declared.types.AbstractHeapType.TheVariants as abstract
use Rattle.wast_tree_nodes.specs.declared.types.HeapType.{HeapType}
use Rattle.wast_tree_nodes.specs.declared.types.HeapType.TheVariants as heap
use Rattle.wast_script.specs.Scripts.{part}
use Rattle.wast_script.specs.declared.values.Number.{Number}
use Rattle.wast_script.specs.declared.values.Number.TheVariants as num
use Rattle.wast_script.specs.declared.values.Shape.{Shape}
use Rattle.wast_script.specs.declared.values.Shape.TheVariants as shape
use Rattle.wast_script.specs.declared.values.Value.{Value}
use Rattle.wast_script.specs.declared.values.Value.TheVariants as val
use Rattle.wast_script_json.specs.Json.{string, id_string, digit_string, key, member}

-- the type of references to an abstract heap type
abbrev pub reference_type : AbstractHeapType → List ℕ
reference_type abstract.Func = codes "funcref"
reference_type abstract.Extern = codes "externref"
reference_type abstract.Exn = codes "exnref"
reference_type abstract.NoExn = codes "nullexnref"
reference_type abstract.Any = codes "anyref"
reference_type abstract.Eq = codes "eqref"
reference_type abstract.Struct = codes "structref"
reference_type abstract.Array = codes "arrayref"
reference_type abstract.NoFunc = codes "nullfuncref"
reference_type abstract.NoExtern = codes "nullexternref"
reference_type abstract.None = codes "nullref"
reference_type abstract.I31 = codes "i31ref"
reference_type abstract.Cont = codes "contref"
reference_type abstract.NoCont = codes "nullcontref"

-- the type of references to a heap type; to one that the module defines it is `ref`
abbrev pub heap_type : HeapType → List ℕ
heap_type (heap.Abstract shared ty) = reference_type ty
heap_type (heap.Concrete i) = codes "ref"
heap_type (heap.Exact i) = codes "ref"

-- the type of the lanes of a shape
abbrev pub lane_type : Shape → List ℕ
lane_type shape.I8x16 = codes "i8"
lane_type shape.I16x8 = codes "i16"
lane_type shape.I32x4 = codes "i32"
lane_type shape.I64x2 = codes "i64"
lane_type shape.F32x4 = codes "f32"
lane_type shape.F64x2 = codes "f64"

-- a number: its bits in decimal digits, or the word for a NaN
abbrev pub number_text : Number → List ℕ
number_text (num.Bits bits) = digit_string bits
number_text num.Canonical = string (codes "nan:canonical")
number_text num.Arithmetic = string (codes "nan:arithmetic")

-- the beginning of an object: its type
unfoldable pub opened : List ℕ → List ℕ
opened ty = codes "{\"type\": " ++ string ty

-- an object with a type alone
unfoldable pub typed : List ℕ → List ℕ
typed ty = opened ty ++ codes "}"

-- an object with a type, and with these contents under the key `value`
unfoldable pub valued : List ℕ → List ℕ → List ℕ
valued ty contents = opened ty ++ (key (codes "value") ++ (contents ++ codes "}"))

-- a vector with these lanes
abbrev pub lane_list : List Number → List ℕ
lane_list lanes = codes "[" ++ (join_by number_text (codes ", ") lanes ++ codes "]}")

unfoldable pub vector_text : Shape → List Number → List ℕ
vector_text s lanes = opened (codes "v128") ++ (member (codes "lane_type") (lane_type s) ++ (key (codes "value") ++ lane_list lanes))

-- a function by its id, and by its number
abbrev pub by_id : List ℕ → List ℕ
by_id name = codes "{\"id\": " ++ (id_string name ++ codes "}")

abbrev pub by_number : ℕ → List ℕ
by_number n = codes "{\"index\": " ++ (decimal n ++ codes "}")

-- what a reference to a function refers to: any function is `0`
abbrev pub target_text : Option Index → List ℕ
target_text None = string (codes "0")
target_text (Some (index.Id id)) = by_id (text_of (name_of id))
target_text (Some (index.Num n span)) = by_number n

-- a null reference of a type, or of any
abbrev pub null_text : Option HeapType → List ℕ
null_text None = typed (codes "refnull")
null_text (Some t) = valued (heap_type t) (string (codes "null"))

-- a reference of the host with a number, or any of its type
abbrev pub host_text : List ℕ → Option ℕ → List ℕ
host_text ty None = typed ty
host_text ty (Some n) = valued ty (digit_string n)

-- a value, by the lanes of all vectors; of an `either` what is before its alternatives
abbrev pub value_text : List Number → Value → List ℕ
value_text lanes (val.I32 n) = valued (codes "i32") (digit_string (cast_unsigned w32 n))
value_text lanes (val.I64 n) = valued (codes "i64") (digit_string (cast_unsigned w64 n))
value_text lanes (val.F32 n) = valued (codes "f32") (number_text n)
value_text lanes (val.F64 n) = valued (codes "f64") (number_text n)
value_text lanes (val.V128 s p) = vector_text s (part p lanes)
value_text lanes (val.RefNull t) = null_text t
value_text lanes (val.RefExtern n) = host_text (codes "externref") n
value_text lanes (val.RefHost n) = host_text (codes "anyref") (Some n)
value_text lanes (val.RefFunc i) = valued (codes "funcref") (target_text i)
value_text lanes (val.Ref t) = typed (heap_type t)
value_text lanes (val.Either n) = codes "{\"type\": \"either\", \"values\": ["

-- whether a comma is after a value and before the next one: not after an `either`, of which the next one is the first alternative
abbrev pub is_joined_after : Value → Bool
is_joined_after (val.Either n) = false
is_joined_after v = true

-- what is before an element of a list
abbrev pub comma : Bool → List ℕ
comma is_joined = if is_joined then codes ", " else []

-- how many alternatives are left after a value, of so many before it
abbrev pub left_after : Value → ℕ → ℕ
left_after (val.Either n) left = n
left_after v left = left - 1

-- whether a value is the last alternative of an `either`, by how many are left before and after it
abbrev pub is_last : ℕ → ℕ → Bool
is_last left after = nat_lt 0 left && after == 0

-- what is after a value: the last alternative ends its `either`
abbrev pub ending : ℕ → ℕ → List ℕ
ending left after = if is_last left after then codes "]}" else []

-- values from one on: whether a comma is before it, and how many alternatives of an `either` are left
unfoldable pub values_from : List Number → Bool → ℕ → List Value → List ℕ
values_from lanes is_joined left [] = []
values_from lanes is_joined left (v ∷ vs) =
    comma is_joined ++ (value_text lanes v ++ (ending left (left_after v left) ++ values_from lanes (is_joined_after v) (left_after v left) vs))

-- a list of values
unfoldable pub list_text : List Number → List Value → List ℕ
list_text lanes values = codes "[" ++ (values_from lanes false 0 values ++ codes "]")

-- whether a value is an `either` of so many alternatives
abbrev pub is_either_of : ℕ → Value → Bool
is_either_of count (val.Either n) = n == count
is_either_of count v = false

-- the alternatives, if results are one `either`
abbrev pub one_either : List Value → Option (List Value)
one_either [] = None
one_either (v ∷ rest) = if is_either_of (length rest) v then Some rest else None

-- the results of an assertion, with their key: the alternatives of one `either`, or all
abbrev pub results_by : List Number → List Value → Option (List Value) → List ℕ
results_by lanes values None = key (codes "expected") ++ list_text lanes values
results_by lanes values (Some alternatives) = key (codes "either") ++ list_text lanes alternatives

abbrev pub results_text : List Number → List Value → List ℕ
results_text lanes values = results_by lanes values (one_either values)
