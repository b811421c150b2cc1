-- Theorems about every list of fields after expansion (text format: abbreviations).
--
-- For example, expanding `(func (export "a"))` from the counter 5 returns `(export "a" (func [5])) (func [5])`. Neither
-- field has an inline part, so a second expansion returns the same two fields.
use Rattle.std.specs.Prelude.{◌≡◌, ℕ, ◌+◌, ◌<◌, Bool, true, List, IsTrue}
use Rattle.std.specs.List.{list_all}
use Rattle.wast_tree_nodes.specs.Generations.{greatest_generation}
use Rattle.wast_tree_nodes.specs.Sites.{Check, ItemIndex, InnerIndex, PlainId, Clause, Covered, checks_of, in_module}
use Rattle.wast_tree_nodes.specs.WellFormed.{is_well_formed}
use Rattle.wast_tree_nodes.specs.WrittenOut.{is_written_out}
use Rattle.wast_expand_inline.specs.Tree.{ModuleField}
use Rattle.wast_expand_inline.specs.Written.{desugared_from, reference_id_count, desugared_by_position}

-- No field of the result has an inline part.
abbrev pub NothingIsLeft : Type 0
NothingIsLeft = (n : ℕ) (fields : List ModuleField) → IsTrue (is_written_out (desugared_from n fields))

-- The same for references by position.
abbrev pub NothingIsLeftByPosition : Type 0
NothingIsLeftByPosition = (fields : List ModuleField) → IsTrue (is_written_out (desugared_by_position fields))

-- Fields without inline parts are unchanged.
abbrev pub StaysWritten : Type 0
StaysWritten = (n : ℕ) (fields : List ModuleField) → IsTrue (is_written_out fields) → desugared_from n fields ≡ fields

-- The same for references by position.
abbrev pub StaysByPosition : Type 0
StaysByPosition = (fields : List ModuleField) → IsTrue (is_written_out fields) → desugared_by_position fields ≡ fields

-- Fields without inline parts need no generated id.
abbrev pub WantsNoReference : Type 0
WantsNoReference = (fields : List ModuleField) → IsTrue (is_written_out fields) → reference_id_count fields ≡ 0

-- Whether a check passes if only clauses of well-formedness count.
abbrev pub is_sound : Check → Bool
is_sound (ItemIndex s i) = true
is_sound (InnerIndex i) = true
is_sound (PlainId m) = true
is_sound (Clause n holds) = holds
is_sound (Covered form holds) = true

-- If every clause of well-formedness holds in the fields, every one holds in the result by positions.
abbrev pub StaysSoundByPosition : Type 0
StaysSoundByPosition = (fields : List ModuleField) → IsTrue (list_all is_sound (checks_of (in_module fields))) → IsTrue (list_all is_sound (checks_of (in_module (desugared_by_position fields))))

-- If the counter is past the generated ids in the fields, it is past those in the result.
abbrev pub StaysBelow : Type 0
StaysBelow = (n : ℕ) (fields : List ModuleField) → greatest_generation fields < n → greatest_generation (desugared_from n fields) < n + reference_id_count fields

-- Well-formed fields stay well formed.
abbrev pub StaysWellFormed : Type 0
StaysWellFormed = (n : ℕ) (fields : List ModuleField) → is_well_formed fields ≡ true → is_well_formed (desugared_from n fields) ≡ true
