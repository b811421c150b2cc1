-- The whole list of fields after the inline parts are expanded (text format: abbreviations).
--
-- There are two forms. In the first, exports and segments refer to items by id, from a counter of generated ids. This
-- is what the code returns. In the second they refer by position and no id is generated. Theorems use the second,
-- because it does not depend on the counter.
--
--   (func) (func (export "a"))    from counter 5: (func) (export "a" (func [5])) (func [5])
--                                 by position:    (func) (export "a" (func 1)) (func)
use Rattle.std.specs.Prelude.{◌≡◌, ◌⊎◌, ℕ, ◌+◌, Bool, List, [], ◌∷◌, ◌++◌, flat_map, IsTrue}
use Rattle.std.specs.List.{list_any}
use Rattle.wast_tree_nodes.specs.Items.{Item, items_in}
use Rattle.wast_base.specs.Faults.{too_large, out_of_memory}
use Rattle.wast_base.specs.declared.faults.Error.{Error}
use Rattle.wast_base.specs.Filling.{with_ids_from, missing_id_count, RunsOut}
use Rattle.wast_expand_inline.specs.Tree.{ModuleField}
use Rattle.wast_expand_inline.specs.Segments.{has_oversized_data}
use Rattle.wast_expand_inline.specs.WriteOut.{desugar_field}
use Rattle.wast_expand_inline.specs.Referring.{by_id, by_position, wants_id, with_item_id}

-- the fields, with an id on each item that is referred to
abbrev pub with_referred_ids : ℕ → List ModuleField → List ModuleField
with_referred_ids n fields = with_ids_from wants_id with_item_id n fields

-- The expansion with references by id, from a counter.
abbrev pub desugared_from : ℕ → List ModuleField → List ModuleField
desugared_from n fields = flat_map (desugar_field by_id) (with_referred_ids n fields)

-- the number of ids that the expansion generates
abbrev pub reference_id_count : List ModuleField → ℕ
reference_id_count fields = missing_id_count wants_id fields

-- The expansion with references by position, after the items of earlier fields. Exports and segments do not count,
-- because nothing refers to them.
abbrev pub written_after : List Item → List ModuleField → List ModuleField
written_after before [] = []
written_after before (f ∷ fs) = desugar_field (by_position before) f ++ written_after (before ++ items_in f) fs

-- The expansion of a whole list with references by position.
abbrev pub desugared_by_position : List ModuleField → List ModuleField
desugared_by_position fields = written_after [] fields

-- The error is E12, or E10 if the condition holds.
abbrev pub IsRefusedWhere : Bool → Error → Type 0
IsRefusedWhere too_much e = (e ≡ out_of_memory) ⊎ ((e ≡ too_large) × IsTrue too_much)

-- The errors of the expansion: E12, or E10 if the counter would overflow a `u64` or inline data has 2^32 bytes or more.
abbrev pub CannotBeWritten : ℕ → List ModuleField → Error → Type 0
CannotBeWritten n fields e = RunsOut (n + reference_id_count fields) e ⊎ IsRefusedWhere (list_any has_oversized_data fields) e
