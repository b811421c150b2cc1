-- Example modules with their results, which the definitions compute (text format, type uses: abbreviations). Names may
-- be at any address, because the result does not depend on it.
use Rattle.std.specs.Prelude.{◌≡◌, ℕ, ◌+◌, true, false, List, [], ◌∷◌, ◌++◌, map, Bool, Option, Some, None, codes}
use Rattle.std.specs.declared.cmp.Ordering.TheVariants.{Less, Equal, Greater}
use Rattle.wast_expand_keys.specs.Tree.{Id, Index, AbstractHeapType, ValType, FunctionType, TypeDef, Expression, ModuleField}
use Rattle.wast_expand_keys.specs.Tree.index
use Rattle.wast_expand_keys.specs.Tree.abstract
use Rattle.wast_expand_keys.specs.Tree.heap
use Rattle.wast_expand_keys.specs.Tree.value
use Rattle.wast_expand_keys.specs.Tree.inner
use Rattle.wast_expand_keys.specs.Tree.instr
use Rattle.wast_expand_keys.specs.Tree.func
use Rattle.wast_expand_keys.specs.Tree.global
use Rattle.wast_expand_keys.specs.Tree.tag
use Rattle.wast_expand_keys.specs.Tree.tag_kind
use Rattle.wast_expand_keys.specs.Tree.kind
use Rattle.wast_expand_keys.specs.Tree.import_items
use Rattle.wast_expand_keys.specs.Tree.field
use Rattle.wast_base.specs.Ids.{gensym_id}
use Rattle.wast_tree_nodes.specs.WorkedModules.{Address, text, place, id_at, by_id, by_number, plain_def, plain_type}
use Rattle.wast_expand_keys.specs.Signatures.{Signature, empty_signature, same_value, same_signature}
use Rattle.wast_expand_keys.specs.SignatureOrder.{signature_cmp}
use Rattle.wast_expand_keys.specs.NeedingUses.{needed_signatures}
use Rattle.wast_expand_keys.specs.ImpliedTypes.{needed_numbers, implied_signatures, are_distinct}
use Rattle.wast_expand_keys.specs.TypeSpace.{index_for}
use Rattle.wast_expand_keys.specs.Expanded.{unnamed_type, implied_type, implied_types, expanded_fields, type_id_count}
use Rattle.wast_expand_keys.specs.Completed.{fields_with_implied_types}
use Rattle.wast_expand_keys.specs.Positioned.{fields_with_type_positions}

-- a generated id of an appended type, and the same as an index
abbrev pub made : ℕ → Id
made n = gensym_id n (place 0)

abbrev pub by_made : ℕ → Index
by_made n = index.Id (made n)

-- `(func ..)` at position n, without an id and with an empty body
abbrev pub func_at : ℕ → Option Index → Option FunctionType → ModuleField
func_at n type inline = field.Func (record {
  span = place (n + 1);
  id = None;
  name = None;
  exports = record { names = [] };
  kind = func.Inline [] (record { instrs = []; branch_hints = [] });
  ty = record { index = type; inline = inline };
})

-- a function type with unnamed parameters
abbrev pub function_type : List ValType → List ValType → FunctionType
function_type params results = record { params = map (λ v. (None, None, v)) params; results = results }

-- `(type .. (func ..))` at position n
abbrev pub type_at : Option Id → ℕ → FunctionType → ModuleField
type_at id n t = field.Ty (record (plain_type id n) { def = record plain_def { kind = inner.Func t } })

-- `(type .. (struct))` at position n
abbrev pub struct_at : Option Id → ℕ → ModuleField
struct_at id n = field.Ty (record (plain_type id n) { def = record plain_def { kind = inner.Struct (record { fields = [] }) } })

-- `(ref ..)`, `(ref null func)` and similar types
abbrev pub ref_to : Index → ValType
ref_to i = value.Ref (record { nullable = false; heap = heap.Concrete i })

abbrev pub abstract_ref : Bool → Bool → AbstractHeapType → ValType
abstract_ref is_nullable is_shared a = value.Ref (record { nullable = is_nullable; heap = heap.Abstract is_shared a })

-- Parameters and results both count, in order. A parameter is not a result.
abbrev pub SameSignatures : Type 0
SameSignatures =
    (same_signature (value.I32 ∷ [], value.F64 ∷ value.V128 ∷ []) (value.I32 ∷ [], value.F64 ∷ value.V128 ∷ []) ≡ true)
    × (same_signature (value.I32 ∷ [], []) ([], value.I32 ∷ []) ≡ false)
    × (same_signature (value.I32 ∷ [], []) (value.I64 ∷ [], []) ≡ false)
    × (same_signature (value.F32 ∷ value.F64 ∷ [], []) (value.F64 ∷ value.F32 ∷ [], []) ≡ false)
    × (same_signature ([], value.I32 ∷ []) ([], []) ≡ false)

-- Fewer parameters come first, then fewer results. With equal numbers, the types of parameters decide, then those of
-- results.
abbrev pub OrderedSignatures : Type 0
OrderedSignatures =
    (signature_cmp (value.I32 ∷ [], value.F64 ∷ []) (value.I32 ∷ [], value.F64 ∷ []) ≡ Equal)
    × (signature_cmp ([], value.F64 ∷ value.F64 ∷ []) (value.I32 ∷ [], []) ≡ Less)
    × (signature_cmp (value.F64 ∷ [], []) (value.I32 ∷ [], value.I32 ∷ []) ≡ Less)
    × (signature_cmp (value.F64 ∷ [], value.I32 ∷ []) (value.I32 ∷ [], value.F64 ∷ []) ≡ Greater)
    × (signature_cmp (value.I32 ∷ [], value.I32 ∷ []) (value.I32 ∷ [], value.F64 ∷ []) ≡ Less)

-- Signatures are distinct if none occurs twice.
abbrev pub DistinctSignatures : Type 0
DistinctSignatures =
    (are_distinct (empty_signature ∷ (value.I32 ∷ [], []) ∷ ([], value.I32 ∷ []) ∷ []) ≡ true)
    × (are_distinct (empty_signature ∷ (value.I32 ∷ [], []) ∷ empty_signature ∷ []) ≡ false)

-- Ids are equal if their names are, at any position. An id and a number differ. Nullable, shared and the heap type
-- count.
abbrev pub SameReferences : Type 0
SameReferences = (a b : Address) →
    (same_value (ref_to (by_id a (codes "t") 5)) (ref_to (by_id b (codes "t") 9)) ≡ true)
    × (same_value (ref_to (by_id a (codes "t") 5)) (ref_to (by_id b (codes "u") 5)) ≡ false)
    × (same_value (ref_to (by_number 0 5)) (ref_to (by_number 0 9)) ≡ true)
    × (same_value (ref_to (by_number 0 5)) (ref_to (by_number 1 5)) ≡ false)
    × (same_value (ref_to (by_id a (codes "t") 5)) (ref_to (by_number 0 5)) ≡ false)
    × (same_value (abstract_ref true false abstract.Func) (abstract_ref true false abstract.Func) ≡ true)
    × (same_value (abstract_ref true false abstract.Func) (abstract_ref false false abstract.Func) ≡ false)
    × (same_value (abstract_ref true false abstract.Func) (abstract_ref true true abstract.Func) ≡ false)
    × (same_value (abstract_ref true false abstract.Func) (abstract_ref true false abstract.Extern) ≡ false)
    × (same_value (abstract_ref false false abstract.Func) (ref_to (by_number 0 5)) ≡ false)
    × (same_value (ref_to (by_number 0 5)) value.I32 ≡ false)

-- `(module (func))`: the type `(func)` is appended, as type 0.
abbrev pub row2 : List ModuleField
row2 = func_at 8 None None ∷ []

abbrev pub Row2 : Type 0
Row2 =
    (needed_signatures row2 ≡ empty_signature ∷ [])
    × (implied_signatures row2 ≡ empty_signature ∷ [])
    × (index_for row2 empty_signature ≡ Some 0)
    × (type_id_count row2 ≡ 1)
    × (fields_with_implied_types row2 ≡ row2 ++ unnamed_type empty_signature ∷ [])
    × (fields_with_type_positions row2 ≡ func_at 8 (Some (by_number 0 0)) None ∷ unnamed_type empty_signature ∷ [])
    × (expanded_fields 5 row2 ≡ func_at 8 (Some (by_made 5)) None ∷ implied_type 5 empty_signature ∷ [])

-- `(module (func (result i32 i64)) (type $t (func (result i32 i64))))`: a type use matches a later type.
abbrev pub results7 : List ValType
results7 = value.I32 ∷ value.I64 ∷ []

abbrev pub row7_with : Address → Option Index → List ModuleField
row7_with a type = func_at 8 type (Some (function_type [] results7)) ∷ type_at (Some (id_at a (codes "t") 38)) 32 (function_type [] results7) ∷ []

abbrev pub row7 : Address → List ModuleField
row7 a = row7_with a None

abbrev pub Row7 : Type 0
Row7 = (a : Address) →
    (needed_signatures (row7 a) ≡ ([], results7) ∷ [])
    × (implied_signatures (row7 a) ≡ [])
    × (index_for (row7 a) ([], results7) ≡ Some 0)
    × (type_id_count (row7 a) ≡ 0)
    × (fields_with_implied_types (row7 a) ≡ row7 a)
    × (fields_with_type_positions (row7 a) ≡ row7_with a (Some (by_number 0 0)))
    × (expanded_fields 5 (row7 a) ≡ row7_with a (Some (index.Id (id_at a (codes "t") 38))))

-- `(module (rec (type (func))) (func))`: a member of a group is not matched and gets no id, but it has index 0.
abbrev pub row8_with : Option Index → List ModuleField
row8_with type = field.Rec (record { span = place 9; types = plain_type None 13 ∷ [] }) ∷ func_at 28 type None ∷ []

abbrev pub Row8 : Type 0
Row8 =
    (needed_signatures (row8_with None) ≡ empty_signature ∷ [])
    × (implied_signatures (row8_with None) ≡ empty_signature ∷ [])
    × (index_for (row8_with None) empty_signature ≡ Some 1)
    × (type_id_count (row8_with None) ≡ 1)
    × (fields_with_type_positions (row8_with None) ≡ row8_with (Some (by_number 1 0)) ++ unnamed_type empty_signature ∷ [])
    × (expanded_fields 5 (row8_with None) ≡ row8_with (Some (by_made 5)) ++ implied_type 5 empty_signature ∷ [])

-- `(module (type (struct)) (func (type 0) (param i32)))`: a type use with an index needs no type. The struct gets an
-- id.
abbrev pub row23_with : Option Id → List ModuleField
row23_with id = struct_at id 8 ∷ func_at 24 (Some (by_number 0 36)) (Some (function_type (value.I32 ∷ []) [])) ∷ []

abbrev pub Row23 : Type 0
Row23 =
    (needed_signatures (row23_with None) ≡ [])
    × (implied_signatures (row23_with None) ≡ [])
    × (index_for (row23_with None) empty_signature ≡ None)
    × (index_for (row23_with None) (value.I32 ∷ [], []) ≡ None)
    × (type_id_count (row23_with None) ≡ 1)
    × (expanded_fields 5 (row23_with None) ≡ row23_with (Some (gensym_id 5 (place 9))))

-- `(module (type (sub (func))) (func))`: an open type is not matched.
abbrev pub lone_with : TypeDef → Option Id → Option Index → List ModuleField
lone_with def id type = field.Ty (record (plain_type id 8) { def = def }) ∷ func_at 28 type None ∷ []

abbrev pub row37_with : Option Id → Option Index → List ModuleField
row37_with id type = lone_with (record plain_def { final_type = Some false }) id type

abbrev pub Row37 : Type 0
Row37 =
    (implied_signatures (row37_with None None) ≡ empty_signature ∷ [])
    × (index_for (row37_with None None) empty_signature ≡ Some 1)
    × (expanded_fields 5 (row37_with None None) ≡ row37_with (Some (gensym_id 5 (place 9))) (Some (by_made 6)) ++ implied_type 6 empty_signature ∷ [])

-- A type that is marked as final is eligible. A type with supertypes, a shared one, or one with descriptor or describes
-- is not.
abbrev pub IsTaken : TypeDef → Type 0
IsTaken def = (implied_signatures (lone_with def None None) ≡ []) × (index_for (lone_with def None None) empty_signature ≡ Some 0)

abbrev pub IsLeft : TypeDef → Type 0
IsLeft def = (implied_signatures (lone_with def None None) ≡ empty_signature ∷ []) × (index_for (lone_with def None None) empty_signature ≡ Some 1)

abbrev pub EligibleTypes : Type 0
EligibleTypes =
    IsTaken plain_def
    × IsTaken (record plain_def { final_type = Some true })
    × IsLeft (record plain_def { final_type = Some true; parents = by_number 1 20 ∷ [] })
    × IsLeft (record plain_def { shared = true })
    × IsLeft (record plain_def { descriptor = Some (by_number 1 20) })
    × IsLeft (record plain_def { describes = Some (by_number 1 20) })

-- `(module (func (param $p i32)) (func (result i32)) (type (func)) (func (param i32)))`: one type for each signature,
-- in the order of first use and after the source's types. Ids of parameters do not count.
abbrev pub named_param : Address → FunctionType
named_param a = record { params = (Some (id_at a (codes "p") 21), None, value.I32) ∷ []; results = [] }

abbrev pub several_with : Address → Option Id → Option Index → Option Index → List ModuleField
several_with a id param result =
    func_at 8 param (Some (named_param a)) ∷ func_at 30 result (Some (function_type [] (value.I32 ∷ [])))
    ∷ type_at id 50 (function_type [] []) ∷ func_at 64 param (Some (function_type (value.I32 ∷ []) [])) ∷ []

abbrev pub several : Address → List ModuleField
several a = several_with a None None None

abbrev pub Several : Type 0
Several = (a : Address) →
    (needed_signatures (several a) ≡ (value.I32 ∷ [], []) ∷ ([], value.I32 ∷ []) ∷ (value.I32 ∷ [], []) ∷ [])
    × (implied_signatures (several a) ≡ (value.I32 ∷ [], []) ∷ ([], value.I32 ∷ []) ∷ [])
    × (index_for (several a) empty_signature ≡ Some 0)
    × (index_for (several a) (value.I32 ∷ [], []) ≡ Some 1)
    × (index_for (several a) ([], value.I32 ∷ []) ≡ Some 2)
    × (type_id_count (several a) ≡ 3)
    × (fields_with_implied_types (several a) ≡ several a ++ (unnamed_type (value.I32 ∷ [], []) ∷ unnamed_type ([], value.I32 ∷ []) ∷ []))
    × (expanded_fields 5 (several a)
    ≡ several_with a (Some (gensym_id 5 (place 51))) (Some (by_made 6)) (Some (by_made 7))
    ++ (implied_type 6 (value.I32 ∷ [], []) ∷ implied_type 7 ([], value.I32 ∷ []) ∷ []))

-- `(module (type (struct)) (type (func)) (func))`: a struct is not matched, and the type after it is type 1.
abbrev pub after_struct_with : Option Id → Option Id → Option Index → List ModuleField
after_struct_with first second type = struct_at first 8 ∷ type_at second 24 (function_type [] []) ∷ func_at 38 type None ∷ []

abbrev pub AfterStruct : Type 0
AfterStruct =
    (implied_signatures (after_struct_with None None None) ≡ [])
    × (index_for (after_struct_with None None None) empty_signature ≡ Some 1)
    × (type_id_count (after_struct_with None None None) ≡ 2)
    × (expanded_fields 5 (after_struct_with None None None)
    ≡ after_struct_with (Some (gensym_id 5 (place 9))) (Some (gensym_id 6 (place 25))) (Some (index.Id (gensym_id 6 (place 25)))))

-- `(module (type $t (func)) (func (param (ref $t))) (func (param (ref 0))))`: the id and the number are the same type.
-- One type is appended for both functions, with the number.
abbrev pub takes_ref : Index → FunctionType
takes_ref i = function_type (ref_to i ∷ []) []

abbrev pub by_id_and_number_with : (a b : Address) → Option Index → List ModuleField
by_id_and_number_with a b type =
    type_at (Some (id_at a (codes "t") 14)) 8 (function_type [] [])
    ∷ func_at 25 type (Some (takes_ref (by_id b (codes "t") 43))) ∷ func_at 49 type (Some (takes_ref (by_number 0 67))) ∷ []

abbrev pub by_ref : Index → Signature
by_ref i = (ref_to i ∷ [], [])

abbrev pub ByIdAndNumber : Type 0
ByIdAndNumber = (a b c : Address) →
    (needed_numbers (by_id_and_number_with a b None) ≡ by_ref (by_number 0 43) ∷ by_ref (by_number 0 67) ∷ [])
    × (implied_signatures (by_id_and_number_with a b None) ≡ by_ref (by_number 0 43) ∷ [])
    × (index_for (by_id_and_number_with a b None) (by_ref (by_id c (codes "t") 90)) ≡ Some 1)
    × (index_for (by_id_and_number_with a b None) (by_ref (by_number 0 90)) ≡ Some 1)
    × (type_id_count (by_id_and_number_with a b None) ≡ 1)
    × (expanded_fields 5 (by_id_and_number_with a b None) ≡ by_id_and_number_with a b (Some (by_made 5)) ++ implied_type 5 (by_ref (by_number 0 43)) ∷ [])

-- `(module (type $a (func)) (type (func (param (ref $a)))) (func (param (ref 0))))`: the number matches the type with
-- the id.
abbrev pub row65_with : (a b : Address) → Option Id → Option Index → List ModuleField
row65_with a b id type =
    type_at (Some (id_at a (codes "a") 14)) 8 (function_type [] [])
    ∷ type_at id 25 (takes_ref (by_id b (codes "a") 49)) ∷ func_at 56 type (Some (takes_ref (by_number 0 74))) ∷ []

abbrev pub Row65 : Type 0
Row65 = (a b : Address) →
    (implied_signatures (row65_with a b None None) ≡ [])
    × (index_for (row65_with a b None None) (by_ref (by_number 0 74)) ≡ Some 1)
    × (expanded_fields 5 (row65_with a b None None) ≡ row65_with a b (Some (gensym_id 5 (place 26))) (Some (index.Id (gensym_id 5 (place 26)))))

-- `(module (func (param (ref $u))) (func (param (ref $u))) (func (param (ref $v))))`: undefined ids are unchanged, and
-- each equals only itself.
abbrev pub unknown_with : (a b c : Address) → Option Index → Option Index → List ModuleField
unknown_with a b c first second =
    func_at 8 first (Some (takes_ref (by_id a (codes "u") 26)))
    ∷ func_at 32 first (Some (takes_ref (by_id b (codes "u") 50))) ∷ func_at 56 second (Some (takes_ref (by_id c (codes "v") 74))) ∷ []

abbrev pub UnknownIds : Type 0
UnknownIds = (a b c : Address) →
    (implied_signatures (unknown_with a b c None None) ≡ by_ref (by_id a (codes "u") 26) ∷ by_ref (by_id c (codes "v") 74) ∷ [])
    × (index_for (unknown_with a b c None None) (by_ref (by_id b (codes "u") 50)) ≡ Some 0)
    × (index_for (unknown_with a b c None None) (by_ref (by_number 0 50)) ≡ None)
    × (expanded_fields 5 (unknown_with a b c None None)
    ≡ unknown_with a b c (Some (by_made 5)) (Some (by_made 6)) ++ (implied_type 5 (by_ref (by_id a (codes "u") 26)) ∷ implied_type 6 (by_ref (by_id c (codes "v") 74)) ∷ []))

-- `(module (type $a (func)) (type $b (func)) (func))`: the first type with the signature is matched.
abbrev pub twice_with : Address → Address → Option Index → List ModuleField
twice_with a b type = type_at (Some (id_at a (codes "a") 14)) 8 (function_type [] []) ∷ type_at (Some (id_at b (codes "b") 31)) 25 (function_type [] []) ∷ func_at 42 type None ∷ []

abbrev pub FirstOfTwo : Type 0
FirstOfTwo = (a b : Address) →
    (index_for (twice_with a b None) empty_signature ≡ Some 0)
    × (expanded_fields 5 (twice_with a b None) ≡ twice_with a b (Some (index.Id (id_at a (codes "a") 14))))

-- `(module (import "e" "f" (func (param i32))) (tag (param i32)) (func))`: imported functions and tags need types as
-- functions do, in the order of the fields.
abbrev pub takes_i32 : FunctionType
takes_i32 = function_type (value.I32 ∷ []) []

abbrev pub uses_with : Address → (a b c : Option Index) → List ModuleField
uses_with e a b c =
    field.Import (record {
      span = place 9;
      items = import_items.Single (text e (codes "e")) (text e (codes "f")) (record { span = place 25; id = None; name = None; kind = kind.Func (record { index = a; inline = Some takes_i32 }) });
    })
    ∷ field.Tag (record { span = place 45; id = None; name = None; exports = record { names = [] }; ty = tag.Exception (record { index = b; inline = Some takes_i32 }); kind = tag_kind.Inline })
    ∷ func_at 62 c None ∷ []

abbrev pub UsesInOrder : Type 0
UsesInOrder = (a : Address) →
    (needed_signatures (uses_with a None None None) ≡ (value.I32 ∷ [], []) ∷ (value.I32 ∷ [], []) ∷ empty_signature ∷ [])
    × (implied_signatures (uses_with a None None None) ≡ (value.I32 ∷ [], []) ∷ empty_signature ∷ [])
    × (fields_with_type_positions (uses_with a None None None)
    ≡ uses_with a (Some (by_number 0 0)) (Some (by_number 0 0)) (Some (by_number 1 0)) ++ (unnamed_type (value.I32 ∷ [], []) ∷ unnamed_type empty_signature ∷ []))
    × (expanded_fields 5 (uses_with a None None None)
    ≡ uses_with a (Some (by_made 5)) (Some (by_made 5)) (Some (by_made 6)) ++ (implied_type 5 (value.I32 ∷ [], []) ∷ implied_type 6 empty_signature ∷ []))

-- `(module (func call_indirect (param i32)) (global i32 call_indirect (result i32)))`: an indirect call in a body needs
-- a type after the function's, and one in a constant expression needs a type too.
abbrev pub indirect_at : ℕ → Option Index → Option FunctionType → Expression
indirect_at n type inline = record {
  instrs = instr.call_indirect (record { table = by_number 0 n; ty = record { index = type; inline = inline } }) ∷ [];
  branch_hints = [];
}

abbrev pub indirect_with : (function body constant : Option Index) (of_body of_constant : Option FunctionType) → List ModuleField
indirect_with function body constant of_body of_constant =
    field.Func (record {
      span = place 9;
      id = None;
      name = None;
      exports = record { names = [] };
      kind = func.Inline [] (indirect_at 14 body of_body);
      ty = record { index = function; inline = None };
    })
    ∷ field.Global (record {
      span = place 42;
      id = None;
      name = None;
      exports = record { names = [] };
      ty = record { ty = value.I32; mutable = false; shared = false };
      kind = global.Inline (indirect_at 53 constant of_constant);
    })
    ∷ []

abbrev pub gives_i32 : FunctionType
gives_i32 = function_type [] (value.I32 ∷ [])

abbrev pub indirect_calls : List ModuleField
indirect_calls = indirect_with None None None (Some takes_i32) (Some gives_i32)

abbrev pub types_of_calls : List Signature
types_of_calls = empty_signature ∷ (value.I32 ∷ [], []) ∷ ([], value.I32 ∷ []) ∷ []

abbrev pub IndirectCalls : Type 0
IndirectCalls =
    (needed_signatures indirect_calls ≡ types_of_calls)
    × (fields_with_type_positions indirect_calls
    ≡ indirect_with (Some (by_number 0 0)) (Some (by_number 1 0)) (Some (by_number 2 0)) (Some takes_i32) (Some gives_i32) ++ map unnamed_type types_of_calls)
    × (expanded_fields 5 indirect_calls
    ≡ indirect_with (Some (by_made 5)) (Some (by_made 6)) (Some (by_made 7)) (Some takes_i32) (Some gives_i32) ++ implied_types 5 types_of_calls)
