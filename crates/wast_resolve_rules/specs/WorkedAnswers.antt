-- Example modules with the error or the result that the definitions compute. Names may be at any address.
use Rattle.std.specs.Prelude.{◌≡◌, ℕ, false, List, [], ◌∷◌, ◌++◌, map, Option, Some, None, codes}
use Rattle.wast_base.specs.Faults.{Duplicate, DuplicateField, Unknown, OutOfBounds, NotFunc, NoMatch}
use Rattle.wast_tree_nodes.specs.Items.{items}
use Rattle.wast_tree_nodes.specs.WorkedModules.{Address, place, id_at, by_id, by_number, plain_def, plain_type, plain_func, type_field, export_field, row27_with, row27, row31, row32}
use Rattle.wast_expand_keys.specs.Signatures.{empty_signature}
use Rattle.wast_expand_keys.specs.Expanded.{unnamed_type, implied_type, implied_types, expanded_fields}
use Rattle.wast_expand_keys.specs.Completed.{fields_with_implied_types}
use Rattle.wast_expand_keys.specs.Positioned.{fields_with_type_positions}
use Rattle.wast_expand_keys.specs.WorkedExpansions.{func_at, function_type, type_at, ref_to, row2, row7, row7_with, row8_with, row23_with, indirect_with, indirect_calls, types_of_calls}
use Rattle.wast_resolve_rules.specs.Tree.{Id, Index, ValType, FunctionType, StructField, ModuleField}
use Rattle.wast_resolve_rules.specs.Tree.value
use Rattle.wast_resolve_rules.specs.Tree.storage
use Rattle.wast_resolve_rules.specs.Tree.inner
use Rattle.wast_resolve_rules.specs.Tree.instr
use Rattle.wast_resolve_rules.specs.Tree.func
use Rattle.wast_resolve_rules.specs.Tree.field
use Rattle.wast_resolve_rules.specs.Demands.{first_unmet, demands, item_counts}
use Rattle.wast_resolve_rules.specs.Resolved.{resolved_fields}
use Rattle.wast_resolve_rules.specs.Finished.{resolved_fields_from}

-- `(module (type $t (func)) (func $f (type $t) call $f) (export "a" (func $f)))`: no error, and each index is 0.
abbrev pub Row27 : Type 0
Row27 = (a b c d e f : Address) →
    (first_unmet (demands (row27 a b c d e f)) ≡ None)
    × (resolved_fields (row27 a b c d e f) ≡ row27_with a b c (by_number 0 40) (by_number 0 49) (by_number 0 71))
    × (resolved_fields_from 5 (row27 a b c d e f) ≡ resolved_fields (row27 a b c d e f))

-- `(module (type $t (func)) (export "a" (func $g)) (func $f (type $t)))`: E4 at `$g`.
abbrev pub Row31 : Type 0
Row31 = (a b c d e : Address) → first_unmet (demands (row31 a b c d e)) ≡ Some (Unknown (codes "func") (codes "g"), place 43)

-- `(module (type $t (func)) (type $t (func)))`: E2 at the second.
abbrev pub Row32 : Type 0
Row32 = (a b : Address) → first_unmet (demands (row32 a b)) ≡ Some (Duplicate (codes "type"), place 31)

-- `(module (func))`: its type is appended with the next id, and is type 0.
abbrev pub Row2 : Type 0
Row2 =
    (first_unmet (demands (fields_with_implied_types row2)) ≡ None)
    × (resolved_fields_from 5 row2 ≡ func_at 8 (Some (by_number 0 0)) None ∷ implied_type 5 empty_signature ∷ [])
    × (resolved_fields (fields_with_type_positions row2) ≡ func_at 8 (Some (by_number 0 0)) None ∷ unnamed_type empty_signature ∷ [])

-- `(module (func (result i32 i64)) (type $t (func (result i32 i64))))`: the type comes later.
abbrev pub Row7 : Type 0
Row7 = (a : Address) →
    (first_unmet (demands (fields_with_implied_types (row7 a))) ≡ None)
    × (first_unmet (demands (expanded_fields 5 (row7 a))) ≡ None)
    × (resolved_fields_from 5 (row7 a) ≡ row7_with a (Some (by_number 0 38)))
    × (resolved_fields (fields_with_type_positions (row7 a)) ≡ row7_with a (Some (by_number 0 0)))

-- `(module (rec (type (func))) (func))`: a member of a group is not matched, and the appended type is type 1.
abbrev pub Row8 : Type 0
Row8 =
    (first_unmet (demands (fields_with_implied_types (row8_with None))) ≡ None)
    × (resolved_fields_from 5 (row8_with None) ≡ row8_with (Some (by_number 1 0)) ++ implied_type 5 empty_signature ∷ [])
    × (resolved_fields (fields_with_type_positions (row8_with None)) ≡ row8_with (Some (by_number 1 0)) ++ unnamed_type empty_signature ∷ [])

-- `(module (func (type 5)))`: a number is not checked.
abbrev pub row24 : List ModuleField
row24 = func_at 8 (Some (by_number 5 20)) None ∷ []

abbrev pub Row24 : Type 0
Row24 = (first_unmet (demands (fields_with_implied_types row24)) ≡ None) × (resolved_fields_from 5 row24 ≡ row24)

-- `(module (func) (func $f))`: both have the same type.
abbrev pub two_with : Address → Index → List ModuleField
two_with a type = func_at 8 (Some type) None ∷ field.Func (plain_func (Some (id_at a (codes "f") 21)) 15 type []) ∷ []

abbrev pub two : Address → List ModuleField
two a = func_at 8 None None ∷ field.Func (record (plain_func (Some (id_at a (codes "f") 21)) 15 (by_number 0 0) []) { ty = record { index = None; inline = None } }) ∷ []

abbrev pub TwoFunctions : Type 0
TwoFunctions = (a : Address) →
    (first_unmet (demands (fields_with_implied_types (two a))) ≡ None)
    × (resolved_fields_from 5 (two a) ≡ two_with a (by_number 0 0) ++ implied_type 5 empty_signature ∷ [])

-- `(module (type (func)) (type $t (func)) (type $t (func)) (func))`: the generated id does not hide the duplicate.
abbrev pub clashing : Address → Address → List ModuleField
clashing a b = type_at None 8 (function_type [] []) ∷ type_field a 22 ∷ type_field b 39 ∷ func_at 56 None None ∷ []

abbrev pub ClashOfTypes : Type 0
ClashOfTypes = (a b : Address) →
    (first_unmet (demands (fields_with_implied_types (clashing a b))) ≡ Some (Duplicate (codes "type"), place 45))
    × (first_unmet (demands (expanded_fields 5 (clashing a b))) ≡ Some (Duplicate (codes "type"), place 45))

-- `(field $.. i32)`, with its id at position n
abbrev pub named_field : Address → List ℕ → ℕ → StructField
named_field a name n = record { id = Some (id_at a name n); name = None; mutable = false; ty = storage.Val value.I32 }

-- `(type .. (struct ..))` at position n
abbrev pub struct_of : Option Id → ℕ → List StructField → ModuleField
struct_of id n fields = field.Ty (record (plain_type id n) { def = record plain_def { kind = inner.Struct (record { fields = fields }) } })

-- `(module (type (struct (field $a i32) (field $a i32))))`: E3 at the second `$a`, also if the type gets a generated
-- id.
abbrev pub twice_named : Address → Address → List ModuleField
twice_named a b = struct_of None 8 (named_field a (codes "a") 29 ∷ named_field b (codes "a") 44 ∷ []) ∷ []

abbrev pub FieldsOfOneStruct : Type 0
FieldsOfOneStruct = (a b : Address) →
    (first_unmet (demands (twice_named a b)) ≡ Some (DuplicateField (codes "field") (codes "a"), place 44))
    × (first_unmet (demands (expanded_fields 5 (twice_named a b))) ≡ Some (DuplicateField (codes "field") (codes "a"), place 44))
    × (item_counts (items (twice_named a b)) ≡ 0 ∷ 0 ∷ 0 ∷ 0 ∷ 0 ∷ 0 ∷ 0 ∷ 1 ∷ 2 ∷ [])

-- `(module (type (struct (field $a i32))) (type (struct (field $a i32))))`: each struct has separate fields.
abbrev pub FieldsOfTwoStructs : Type 0
FieldsOfTwoStructs = (a b : Address) →
    first_unmet (demands (struct_of None 8 (named_field a (codes "a") 29 ∷ []) ∷ struct_of None 39 (named_field b (codes "a") 60 ∷ []) ∷ [])) ≡ None

-- Duplicates are reported in the order of the fields, and the id of a type before those of its fields:
--   (module (type $t (struct (field $a i32) (field $a i32))) (type $t (func)))
--   (module (type $t (func)) (type $t (func)) (type (struct (field $a i32) (field $a i32))))
--   (module (type $t (func)) (type $t (struct (field $a i32) (field $a i32))))
-- All come before any use:
--   (module (export "a" (func $g)) (type (struct (field $a i32) (field $a i32))))
abbrev pub ClashesInOrder : Type 0
ClashesInOrder = (a b c d : Address) →
    (first_unmet (demands (struct_of (Some (id_at a (codes "t") 14)) 8 (named_field b (codes "a") 32 ∷ named_field c (codes "a") 47 ∷ []) ∷ type_field d 57 ∷ []))
    ≡ Some (DuplicateField (codes "field") (codes "a"), place 47))
    × (first_unmet (demands (row32 a b ++ struct_of None 42 (named_field c (codes "a") 63 ∷ named_field d (codes "a") 78 ∷ []) ∷ [])) ≡ Some (Duplicate (codes "type"), place 31))
    × (first_unmet (demands (type_field a 8 ∷ struct_of (Some (id_at b (codes "t") 31)) 25 (named_field c (codes "a") 49 ∷ named_field d (codes "a") 64 ∷ []) ∷ [])) ≡ Some (Duplicate (codes "type"), place 31))
    × (first_unmet (demands (export_field a 8 (by_id b (codes "g") 26) ∷ struct_of None 31 (named_field c (codes "a") 52 ∷ named_field d (codes "a") 67 ∷ []) ∷ []))
    ≡ Some (DuplicateField (codes "field") (codes "a"), place 67))

-- `(module (type $t (func (param i32))) (func (type $t) (result i32)))`: E7, the types differ.
abbrev pub row14 : Address → Address → List ModuleField
row14 a b = type_at (Some (id_at a (codes "t") 14)) 8 (function_type (value.I32 ∷ []) []) ∷ func_at 37 (Some (by_id b (codes "t") 49)) (Some (function_type [] (value.I32 ∷ []))) ∷ []

abbrev pub Row14 : Type 0
Row14 = (a b : Address) → first_unmet (demands (fields_with_implied_types (row14 a b))) ≡ Some (NoMatch, place 49)

-- `(module (func (type 5) (param i32)))`: E6, there is no type 5.
abbrev pub row22 : List ModuleField
row22 = func_at 8 (Some (by_number 5 20)) (Some (function_type (value.I32 ∷ []) [])) ∷ []

abbrev pub Row22 : Type 0
Row22 = first_unmet (demands (fields_with_implied_types row22)) ≡ Some (OutOfBounds, place 20)

-- `(module (type (struct)) (func (type 0) (param i32)))`: E5, type 0 is not a function type.
abbrev pub Row23 : Type 0
Row23 = first_unmet (demands (fields_with_implied_types (row23_with None))) ≡ Some (NotFunc, place 36)

-- `(module (func (type $t) (param i32)) (type $t (func (param (ref $x)))))`: the types differ, before `$x` is looked
-- up.
abbrev pub unknown_later : (a b c : Address) → List ModuleField
unknown_later a b c =
    func_at 8 (Some (by_id a (codes "t") 20)) (Some (function_type (value.I32 ∷ []) []))
    ∷ type_at (Some (id_at b (codes "t") 43)) 37 (function_type (ref_to (by_id c (codes "x") 64) ∷ []) [])
    ∷ []

-- `(module (type $t (func)) (func (type $t) (param (ref $x))))`: `$x` is unknown, before the types are compared.
abbrev pub unknown_here : (a b c : Address) → List ModuleField
unknown_here a b c =
    type_at (Some (id_at a (codes "t") 14)) 8 (function_type [] []) ∷ func_at 25 (Some (by_id b (codes "t") 37)) (Some (function_type (ref_to (by_id c (codes "x") 53) ∷ []) [])) ∷ []

abbrev pub UnknownNames : Type 0
UnknownNames = (a b c : Address) →
    (first_unmet (demands (fields_with_implied_types (unknown_later a b c))) ≡ Some (NoMatch, place 20))
    × (first_unmet (demands (fields_with_implied_types (unknown_here a b c))) ≡ Some (Unknown (codes "type") (codes "x"), place 53))

-- `(module (type $t (func)) (type $a (func (param (ref $t)))) (func (type $a) (param (ref 0))))`: the id and the number
-- of a type match, and no other number does.
abbrev pub by_number_with : (a b c d : Address) → Index → List ModuleField
by_number_with a b c d i =
    type_at (Some (id_at a (codes "t") 14)) 8 (function_type [] [])
    ∷ type_at (Some (id_at b (codes "a") 31)) 25 (function_type (ref_to (by_id c (codes "t") 52) ∷ []) [])
    ∷ func_at 59 (Some (by_id d (codes "a") 71)) (Some (function_type (ref_to i ∷ []) []))
    ∷ []

abbrev pub MatchedByNumber : Type 0
MatchedByNumber = (a b c d e : Address) →
    (first_unmet (demands (fields_with_implied_types (by_number_with a b c d (by_number 0 87)))) ≡ None)
    × (first_unmet (demands (fields_with_implied_types (by_number_with a b c d (by_id e (codes "t") 87)))) ≡ None)
    × (first_unmet (demands (fields_with_implied_types (by_number_with a b c d (by_number 1 87)))) ≡ Some (NoMatch, place 71))

-- `(module (func (param $a i32) (local $a i32)))`: the local has the id of the parameter.
abbrev pub row17_with : Address → Address → ValType → List ModuleField
row17_with a b t =
    field.Func (record {
      span = place 9;
      id = None;
      name = None;
      exports = record { names = [] };
      kind = func.Inline (record { id = Some (id_at b (codes "a") 36); name = None; ty = t } ∷ []) (record { instrs = []; branch_hints = [] });
      ty = record { index = None; inline = Some (record { params = (Some (id_at a (codes "a") 21), None, value.I32) ∷ []; results = [] }) };
    })
    ∷ []

-- and `(module (func (param $a i32) (local $a (ref $x))))`: `$x` is unknown, which comes first.
abbrev pub Row17 : Type 0
Row17 = (a b c : Address) →
    (first_unmet (demands (fields_with_implied_types (row17_with a b value.I32))) ≡ Some (Duplicate (codes "local"), place 36))
    × (first_unmet (demands (fields_with_implied_types (row17_with a b (ref_to (by_id c (codes "x") 44))))) ≡ Some (Unknown (codes "type") (codes "x"), place 44))

-- `(module (func call_indirect (param i32)) (global i32 call_indirect (result i32)))`: an indirect call with the number
-- of its type has no inline type.
abbrev pub numbered_calls : List ModuleField
numbered_calls = indirect_with (Some (by_number 0 0)) (Some (by_number 1 0)) (Some (by_number 2 0)) None None

-- In `(module (func call_indirect $t (type $f) (param (ref $x))))` the table is looked up first, then the index of the
-- type, then the inline type.
abbrev pub asking_call : Index → Index → FunctionType → List ModuleField
asking_call table type inline =
    field.Func (record {
      span = place 9;
      id = None;
      name = None;
      exports = record { names = [] };
      kind = func.Inline [] (record { instrs = instr.call_indirect (record { table = table; ty = record { index = Some type; inline = Some inline } }) ∷ []; branch_hints = [] });
      ty = record { index = Some (by_number 0 0); inline = None };
    })
    ∷ []

abbrev pub IndirectCalls : Type 0
IndirectCalls = (a b c : Address) →
    (first_unmet (demands (fields_with_implied_types indirect_calls)) ≡ None)
    × (resolved_fields_from 5 indirect_calls ≡ numbered_calls ++ implied_types 5 types_of_calls)
    × (resolved_fields (fields_with_type_positions indirect_calls) ≡ numbered_calls ++ map unnamed_type types_of_calls)
    × (first_unmet (demands (asking_call (by_id a (codes "t") 28) (by_id b (codes "f") 37) (function_type (ref_to (by_id c (codes "x") 53) ∷ []) [])))
    ≡ Some (Unknown (codes "table") (codes "t"), place 28))
    × (first_unmet (demands (asking_call (by_number 0 28) (by_id b (codes "f") 37) (function_type (ref_to (by_id c (codes "x") 53) ∷ []) [])))
    ≡ Some (Unknown (codes "type") (codes "f"), place 37))
    × (first_unmet (demands (asking_call (by_number 0 28) (by_number 5 37) (function_type (ref_to (by_id c (codes "x") 53) ∷ []) [])))
    ≡ Some (Unknown (codes "type") (codes "x"), place 53))
    × (first_unmet (demands (asking_call (by_number 0 28) (by_number 5 37) (function_type [] []))) ≡ Some (OutOfBounds, place 37))
