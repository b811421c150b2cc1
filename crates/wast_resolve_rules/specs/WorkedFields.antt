-- Example modules whose instructions use ids of struct fields, with the error or the result. Names may be at any
-- address.
use Rattle.std.specs.Prelude.{◌≡◌, ◌++◌, List, [], ◌∷◌, Some, None, codes}
use Rattle.wast_base.specs.Faults.{Unknown, NoNamedFields}
use Rattle.wast_tree_nodes.specs.WorkedModules.{Address, place, id_at, by_id, by_number}
use Rattle.wast_expand_keys.specs.Signatures.{empty_signature}
use Rattle.wast_expand_keys.specs.Expanded.{implied_types}
use Rattle.wast_expand_keys.specs.Completed.{fields_with_implied_types}
use Rattle.wast_expand_keys.specs.WorkedExpansions.{function_type, type_at}
use Rattle.wast_resolve_rules.specs.Tree.{Index, FunctionType, TypeUse, ModuleField}
use Rattle.wast_resolve_rules.specs.Tree.heap
use Rattle.wast_resolve_rules.specs.Tree.bare
use Rattle.wast_resolve_rules.specs.Tree.plain
use Rattle.wast_resolve_rules.specs.Tree.instr
use Rattle.wast_resolve_rules.specs.Demands.{first_unmet, demands}
use Rattle.wast_resolve_rules.specs.Finished.{resolved_fields_from}
use Rattle.wast_resolve_rules.specs.WorkedAnswers.{named_field, struct_of}
use Rattle.wast_resolve_rules.specs.WorkedBodies.{not_said, of_type, func_of}

-- `(module (type $s (struct (field $y i32))) (func ref.null $s struct.get $s $y drop))`: a field is numbered in its
-- struct.
abbrev pub reading_with : (a b : Address) → TypeUse FunctionType → (null owner field : Index) → List ModuleField
reading_with a b u null owner field =
    struct_of (Some (id_at a (codes "s") 14)) 8 (named_field b (codes "y") 32 ∷ [])
    ∷ func_of 42 u [] (instr.ref_null (heap.Concrete null) ∷ instr.struct_get (record { owner = owner; field = field }) ∷ instr.Plain (plain.Bare bare.drop) ∷ [])
    ∷ []

abbrev pub reading : (a b c d : Address) → Index → List ModuleField
reading a b c d field = reading_with a b not_said (by_id c (codes "s") 57) (by_id d (codes "s") 71) field

abbrev pub Row48 : Type 0
Row48 = (a b c d e : Address) →
    (first_unmet (demands (fields_with_implied_types (reading a b c d (by_id e (codes "y") 74)))) ≡ None)
    × (resolved_fields_from 5 (reading a b c d (by_id e (codes "y") 74)) ≡ reading_with a b (of_type 1) (by_number 0 57) (by_number 0 71) (by_number 0 74) ++ implied_types 5 (empty_signature ∷ []))
    × (first_unmet (demands (fields_with_implied_types (reading a b c d (by_id e (codes "z") 74)))) ≡ Some (Unknown (codes "field") (codes "z"), place 74))
    × (first_unmet (demands (fields_with_implied_types (reading a b c d (by_number 4294967295 74)))) ≡ None)

-- `(module .. (func struct.get .. $x))`, after this type
abbrev pub asking_in : Address → ModuleField → Index → List ModuleField
asking_in a x owner = x ∷ func_of 24 not_said [] (instr.struct_get (record { owner = owner; field = by_id a (codes "x") 43 }) ∷ []) ∷ []

-- `(module (type (struct)) (func struct.get 0 $x))`: E9 for a struct without fields, a function type, and no type at
-- all. An unknown type is reported first.
abbrev pub Row16 : Type 0
Row16 = (a b : Address) →
    (first_unmet (demands (fields_with_implied_types (asking_in a (struct_of None 8 []) (by_number 0 41)))) ≡ Some (NoNamedFields (codes "x") 0, place 43))
    × (first_unmet (demands (fields_with_implied_types (asking_in a (type_at None 8 (function_type [] [])) (by_number 0 41)))) ≡ Some (NoNamedFields (codes "x") 0, place 43))
    × (first_unmet (demands (fields_with_implied_types (asking_in a (struct_of None 8 []) (by_number 9 41)))) ≡ Some (NoNamedFields (codes "x") 9, place 43))
    × (first_unmet (demands (fields_with_implied_types (asking_in a (struct_of None 8 []) (by_id b (codes "t") 41)))) ≡ Some (Unknown (codes "type") (codes "t"), place 41))
