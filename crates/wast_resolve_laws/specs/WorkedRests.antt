-- Resolved example modules, also with start fields after them, computed. Names may be at any address.
use Rattle.std.specs.Prelude.{◌≡◌, ℕ, List, [], ◌∷◌, ◌++◌, None, codes}
use Rattle.wast_tree_nodes.specs.WorkedModules.{Address, place, id_at, by_id, by_number, row27}
use Rattle.wast_expand_keys.specs.Signatures.{empty_signature}
use Rattle.wast_expand_keys.specs.Expanded.{empty_type, implied_types}
use Rattle.wast_resolve_laws.specs.Tree.{Span, ModuleField}
use Rattle.wast_resolve_rules.specs.Demands.{first_unmet, demands}
use Rattle.wast_resolve_rules.specs.Explicit.{explicit_fields, generated_id_count}
use Rattle.wast_resolve_rules.specs.Finished.{resolved_fields_from}
use Rattle.wast_resolve_rules.specs.WorkedBodies.{of_type, in_place, catching_with, catching}
use Rattle.wast_resolve_rules.specs.WorkedFields.{reading_with, reading}
use Rattle.wast_resolve_laws.specs.Rests.{start_fields_of, numbers, with_start_fields}

-- `(start 0) (start 7)`
abbrev pub two_numbers : List (ℕ × Span)
two_numbers = (0, place 80) ∷ (7, place 90) ∷ []

-- With these start fields all checks pass, resolving from another counter changes nothing, and no id is generated.
abbrev pub IsAtRestWithTwo : List ModuleField → Type 0
IsAtRestWithTwo fields =
    (first_unmet (demands (explicit_fields (with_start_fields 5 fields two_numbers))) ≡ None)
    × (resolved_fields_from 9 (with_start_fields 5 fields two_numbers) ≡ with_start_fields 5 fields two_numbers)
    × (generated_id_count (with_start_fields 5 fields two_numbers) ≡ 0)

-- `(module (type $t (func)) (func $f (type $t) call $f) (export "a" (func $f)))`: numbers are not checked. And
-- `(start $f)` becomes `(start 0)`.
abbrev pub Row27 : Type 0
Row27 = (a b c d e f g : Address) →
    let fields = row27 a b c d e f in
    IsAtRestWithTwo fields
    × (resolved_fields_from 5 (fields ++ start_fields_of (by_id g (codes "f") 80 ∷ [])) ≡ resolved_fields_from 5 fields ++ start_fields_of (by_number 0 80 ∷ []))
    × (first_unmet (demands (explicit_fields (fields ++ start_fields_of (by_id g (codes "f") 80 ∷ [])))) ≡ None)

-- `(module (tag $e) (func block $h try_table (catch $e $h) end end))`: the type is appended once, and start fields at
-- the end come before it.
abbrev pub Row9 : Type 0
Row9 = (a b c d : Address) →
    let fields = catching a b c d in
    let own = catching_with a b (of_type 0) (in_place empty_type) (by_number 0 49) (by_number 0 52) in
    IsAtRestWithTwo fields
    × (with_start_fields 5 fields two_numbers ≡ (own ++ implied_types 5 (empty_signature ∷ [])) ++ start_fields_of (numbers two_numbers))
    × (resolved_fields_from 5 (fields ++ start_fields_of (numbers two_numbers)) ≡ own ++ (start_fields_of (numbers two_numbers) ++ implied_types 5 (empty_signature ∷ [])))

-- `(module (type $s (struct (field $y i32))) (func ref.null $s struct.get $s $y drop))`
abbrev pub Row48 : Type 0
Row48 = (a b c d e : Address) → IsAtRestWithTwo (reading a b c d (by_id e (codes "y") 74))
