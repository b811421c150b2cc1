-- Theorems about every list of fields after the pass (text format, type uses: abbreviations).
--
-- For example, `(func) (func)` becomes `(func (type [1])) (func (type [1])) (type [1] (func))`. Each function has an
-- index, and a second pass returns the same fields.
use Rattle.std.specs.Prelude.{◌≡◌, ℕ, false, List, [], map, flat_map, IsTrue}
use Rattle.std.specs.List.{list_any}
use Rattle.wast_tree_nodes.specs.WrittenOut.{is_written_out}
use Rattle.wast_expand_types.specs.Tree.{ModuleField}
use Rattle.wast_expand_keys.specs.Signatures.{Signature}
use Rattle.wast_expand_keys.specs.NeedingUses.{needed_signatures}
use Rattle.wast_expand_keys.specs.Numbers.{type_names, numbered_signature}
use Rattle.wast_expand_keys.specs.ImpliedTypes.{eligible_signatures, is_among, implied_signatures, are_distinct}
use Rattle.wast_expand_keys.specs.TypeSpace.{types_in, type_space, index_for, type_ids, index_by_id_at}
use Rattle.wast_expand_keys.specs.Expanded.{fields_with_types, found_for, expanded_fields, type_id_count}

-- Each type use that needs a type has an index.
abbrev pub UsesAreBound : Type 0
UsesAreBound = (n : ℕ) (fields : List ModuleField) → needed_signatures (expanded_fields n fields) ≡ []

-- The types in the result are those of the type space, in order.
abbrev pub TypesAreTheSpace : Type 0
TypesAreTheSpace = (n : ℕ) (fields : List ModuleField) → flat_map (types_in (type_names fields)) (expanded_fields n fields) ≡ type_space fields

-- A signature is resolved to the id of the type at its index in the type space.
abbrev pub TakesTheTypeAtItsIndex : Type 0
TakesTheTypeAtItsIndex = (n : ℕ) (fields : List ModuleField) (s : Signature) → found_for fields n s ≡ index_by_id_at (index_for fields s) (type_ids (fields_with_types n fields))

-- The signatures of appended types have numbers instead of ids of source types.
abbrev pub ImpliedAreNumbered : Type 0
ImpliedAreNumbered = (fields : List ModuleField) → map (numbered_signature (type_names fields)) (implied_signatures fields) ≡ implied_signatures fields

-- No appended type has the signature of an eligible type.
abbrev pub ImpliedAreNew : Type 0
ImpliedAreNew = (fields : List ModuleField) → list_any (is_among (eligible_signatures fields)) (implied_signatures fields) ≡ false

-- No two appended types have the same signature.
abbrev pub ImpliedAreDistinct : Type 0
ImpliedAreDistinct = (fields : List ModuleField) → IsTrue (are_distinct (implied_signatures fields))

-- A second pass changes nothing, from any counter.
abbrev pub StaysExpanded : Type 0
StaysExpanded = (m n : ℕ) (fields : List ModuleField) → expanded_fields m (expanded_fields n fields) ≡ expanded_fields n fields

-- A second pass generates no id.
abbrev pub WantsNoMore : Type 0
WantsNoMore = (n : ℕ) (fields : List ModuleField) → type_id_count (expanded_fields n fields) ≡ 0

-- The result has inline parts exactly if the fields have.
abbrev pub StaysWrittenOut : Type 0
StaysWrittenOut = (n : ℕ) (fields : List ModuleField) → is_written_out (expanded_fields n fields) ≡ is_written_out fields
