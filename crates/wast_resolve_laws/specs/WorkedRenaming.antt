-- Example modules with other ids, computed. Names may be at any address.
use Rattle.std.specs.Prelude.{◌≡◌, List, [], ◌∷◌, ◌++◌, Some, None, codes}
use Rattle.wast_base.specs.declared.ids.Name as code
use Rattle.wast_base.specs.declared.ids.Name.TheVariants as name
use Rattle.wast_base.specs.Faults.{Unknown}
use Rattle.wast_base.specs.Ids.{Name, Written, Generated}
use Rattle.wast_tree_nodes.specs.WorkedModules.{Address, place, id_at, by_id, plain_type, plain_func, export_field, row27, row31}
use Rattle.wast_resolve_rules.specs.Demands.{first_unmet, demands}
use Rattle.wast_resolve_rules.specs.Explicit.{explicit_fields, by_positions, generated_id_count}
use Rattle.wast_resolve_rules.specs.Resolved.{resolved_fields}
use Rattle.wast_resolve_rules.specs.WorkedBodies.{catching}
use Rattle.wast_resolve_rules.specs.WorkedFields.{reading}
use Rattle.wast_resolve_laws.specs.Extended.{extended}
use Rattle.wast_resolve_laws.specs.Renaming.{Renaming, IsRenaming, renamed_fields, told_marks}
use Rattle.wast_resolve_laws.specs.Tree.{Id, ModuleField}
use Rattle.wast_resolve_laws.specs.Tree.instr
use Rattle.wast_resolve_laws.specs.Tree.field

-- `r` before each source name
abbrev pub prefixed : Name → Name
prefixed (Written text) = Written (codes "r" ++ text)
prefixed (Generated n) = Generated n

-- the same for the names of the AST
abbrev pub prefixed_code : code.Name → code.Name
prefixed_code (name.Written text) = name.Written (record text { now = codes "r" ++ text.now })
prefixed_code (name.Generated n) = name.Generated n

abbrev pub prefixed_id : Id → Id
prefixed_id id = record id { name = prefixed_code id.name }

abbrev pub prefixing : Renaming
prefixing = record { name = prefixed; id = prefixed_id }

abbrev pub PrefixesNames : Type 0
PrefixesNames = IsRenaming prefixing

-- `(module (type $rt (func)) (func $rf (type $rt) call $rf) (export "a" (func $rf)))`, at the positions of row 27
abbrev pub row27_twin : (a b c d e f : Address) → List ModuleField
row27_twin a b c d e f =
    field.Ty (plain_type (Some (id_at a (codes "rt") 14)) 8)
    ∷ field.Func (plain_func (Some (id_at b (codes "rf") 31)) 25 (by_id d (codes "rt") 40) (instr.call (by_id e (codes "rf") 49) ∷ []))
    ∷ export_field c 53 (by_id f (codes "rf") 71)
    ∷ []

-- The indices are those of row 27, and an error can have the ids of three indices.
abbrev pub Row27 : Type 0
Row27 = (a b c d e f : Address) →
    (renamed_fields prefixing (row27 a b c d e f) ≡ row27_twin a b c d e f)
    × (first_unmet (demands (explicit_fields (row27_twin a b c d e f))) ≡ None)
    × (resolved_fields (by_positions (row27_twin a b c d e f)) ≡ renamed_fields prefixing (resolved_fields (by_positions (row27 a b c d e f))))
    × (told_marks (row27 a b c d e f) ≡ (Written (codes "t"), place 40) ∷ (Written (codes "f"), place 49) ∷ (Written (codes "f"), place 71) ∷ [])

-- `(module (tag $e) (func block $h try_table (catch $e $h) end end))`: labels too. Its type is appended, with one id.
abbrev pub Row9 : Type 0
Row9 = (a b c d : Address) →
    let fields = catching a b c d in
    (first_unmet (demands (explicit_fields (renamed_fields prefixing fields))) ≡ None)
    × (resolved_fields (by_positions (renamed_fields prefixing fields)) ≡ renamed_fields prefixing (resolved_fields (by_positions fields)))
    × (generated_id_count (renamed_fields prefixing fields) ≡ 1)

-- An unknown id is reported with its new name.
abbrev pub Row31 : Type 0
Row31 = (a b c d e : Address) →
    (first_unmet (demands (explicit_fields (row31 a b c d e))) ≡ Some (Unknown (codes "func") (codes "g"), place 43))
    × (first_unmet (demands (explicit_fields (renamed_fields prefixing (row31 a b c d e)))) ≡ Some (Unknown (codes "func") (codes "rg"), place 43))
    × (told_marks (row31 a b c d e) ≡ (Written (codes "g"), place 43) ∷ (Written (codes "t"), place 63) ∷ [])

-- So is an unknown struct field. An error can have the ids of the fields and of the indices.
abbrev pub Row48 : Type 0
Row48 = (a b c d e : Address) →
    (first_unmet (demands (explicit_fields (renamed_fields prefixing (reading a b c d (by_id e (codes "y") 74))))) ≡ None)
    × (first_unmet (demands (explicit_fields (renamed_fields prefixing (reading a b c d (by_id e (codes "z") 74))))) ≡ Some (Unknown (codes "field") (codes "rz"), place 74))
    × (told_marks (reading a b c d (by_id e (codes "z") 74)) ≡ (Written (codes "y"), place 32) ∷ (Written (codes "s"), place 57) ∷ (Written (codes "s"), place 71) ∷ (Written (codes "z"), place 74) ∷ [])

-- One name is in the map. Another name gets three zeros, because the new name has two letters. Generated ids are raised
-- by one.
abbrev pub OneGiven : Type 0
OneGiven =
    let m = (Written (codes "f"), Written (codes "rf")) ∷ [] in
    (extended m (Written (codes "f")) ≡ Written (codes "rf"))
    × (extended m (Written (codes "g")) ≡ Written (0 ∷ 0 ∷ 0 ∷ codes "g"))
    × (extended m (Generated 1) ≡ Generated 2)
