-- Theorems about resolved fields: resolving them again changes nothing, also with start fields after them (text format:
-- abbreviations, indices, start functions).
--
--   (func (type 0)) (type [1] (func))                 resolved again: the same fields, from any counter
--   (func (type 0)) (type [1] (func)) (start 0)       the same
use Rattle.std.specs.Prelude.{◌≡◌, ℕ, ◌<◌, true, is_some, List, ◌++◌, map, None, IsTrue}
use Rattle.std.specs.List.{list_all}
use Rattle.wast_base.specs.Spaces.{is_settled_index}
use Rattle.wast_tree_nodes.specs.Generations.{greatest_generation}
use Rattle.wast_tree_nodes.specs.Items.{items}
use Rattle.wast_tree_nodes.specs.Known.{IdContext, id_context}
use Rattle.wast_tree_nodes.specs.WellFormed.{is_well_formed}
use Rattle.wast_resolve_laws.specs.Tree.{Span, Index, ModuleField}
use Rattle.wast_resolve_laws.specs.Tree.index
use Rattle.wast_resolve_laws.specs.Tree.space
use Rattle.wast_resolve_laws.specs.Tree.ty
use Rattle.wast_resolve_laws.specs.Tree.field
use Rattle.wast_resolve_rules.specs.Demands.{first_unmet, demands}
use Rattle.wast_resolve_rules.specs.Scopes.{denoted}
use Rattle.wast_resolve_rules.specs.Explicit.{explicit_fields, explicit_fields_from, by_positions, generated_id_count}
use Rattle.wast_resolve_rules.specs.Resolved.{numbered_at, resolved_fields}
use Rattle.wast_resolve_rules.specs.Finished.{resolved_fields_from}

-- start fields of these functions
abbrev pub start_fields_of : List Index → List ModuleField
start_fields_of is = map field.Start is

-- numbers, each with its position
abbrev pub numbers : List (ℕ × Span) → List Index
numbers ks = map (λ k. index.Num k.0 k.1) ks

-- the resolved fields, followed by start fields with numbers
abbrev pub with_start_fields : ℕ → List ModuleField → List (ℕ × Span) → List ModuleField
with_start_fields n fields ks = resolved_fields_from n fields ++ start_fields_of (numbers ks)

-- the identifier context of the fields with generated ids
abbrev pub final_names : ℕ → List ModuleField → IdContext
final_names n fields = id_context (items (explicit_fields_from n fields))

-- If the checks of the original fields pass, all checks pass again.
abbrev pub RestsMet : Type 0
RestsMet = (n : ℕ) (fields : List ModuleField) (ks : List (ℕ × Span)) → greatest_generation fields < n → first_unmet (demands (explicit_fields fields)) ≡ None
    → first_unmet (demands (explicit_fields (with_start_fields n fields ks))) ≡ None

-- Resolving them again, from any counter, changes nothing.
abbrev pub RestsStill : Type 0
RestsStill = (m n : ℕ) (fields : List ModuleField) (ks : List (ℕ × Span)) → resolved_fields_from m (with_start_fields n fields ks) ≡ with_start_fields n fields ks

-- The same for the result by positions.
abbrev pub RestsByPosition : Type 0
RestsByPosition = (n : ℕ) (fields : List ModuleField) (ks : List (ℕ × Span)) → resolved_fields (by_positions (with_start_fields n fields ks)) ≡ with_start_fields n fields ks

-- It generates no id.
abbrev pub FillsNoMore : Type 0
FillsNoMore = (n : ℕ) (fields : List ModuleField) (ks : List (ℕ × Span)) → generated_id_count (with_start_fields n fields ks) ≡ 0

-- Well-formed fields stay well formed.
abbrev pub StartsStayWellFormed : Type 0
StartsStayWellFormed = (n : ℕ) (fields : List ModuleField) (ks : List (ℕ × Span)) → greatest_generation fields < n → is_well_formed fields ≡ true
    → first_unmet (demands (explicit_fields fields)) ≡ None → is_well_formed (with_start_fields n fields ks) ≡ true

-- Start fields do not raise the greatest generated id, if each generated id in them is that of a function.
abbrev pub StartsStayBelow : Type 0
StartsStayBelow = (fields : List ModuleField) (is : List Index) → IsTrue (list_all (is_settled_index ((id_context (items fields)).number space.Func)) is)
    → greatest_generation (fields ++ start_fields_of is) ≡ greatest_generation fields

-- If each start field names a function, the checks pass with them if they pass without them.
abbrev pub StartsAreMet : Type 0
StartsAreMet = (n : ℕ) (fields : List ModuleField) (is : List Index) → greatest_generation (fields ++ start_fields_of is) < n → first_unmet (demands (explicit_fields fields)) ≡ None
    → IsTrue (list_all (λ i. is_some (denoted ((final_names n fields).number space.Func) i)) is) → first_unmet (demands (explicit_fields (fields ++ start_fields_of is))) ≡ None

-- After resolving, start fields come before the appended types, each with the number of its function.
abbrev pub StartsComeBefore : Type 0
StartsComeBefore = (n : ℕ) (fields : List ModuleField) (is : List Index) → (own : List ModuleField) × (implied : List ty.«Type»)
    × (resolved_fields_from n fields ≡ own ++ map field.Ty implied)
    × (resolved_fields_from n (fields ++ start_fields_of is) ≡ own ++ (start_fields_of (map (numbered_at (final_names n fields) space.Func) is) ++ map field.Ty implied))
