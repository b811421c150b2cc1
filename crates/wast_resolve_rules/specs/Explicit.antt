-- The fields after both steps of desugaring: inline parts are expanded, and missing types are appended (text format:
-- abbreviations, type uses).
--
-- Checks use the form without generated ids, because it does not depend on the counter. For `(func (export "a"))`:
--
--   explicit_fields           (export "a" (func 0)) (func) (type (func))
--   by_positions              (export "a" (func 0)) (func (type 0)) (type (func))
--   explicit_fields_from 1    (export "a" (func [1])) (func [1] (type [2])) (type [2] (func))
use Rattle.std.specs.Prelude.{ℕ, ◌+◌, List}
use Rattle.wast_expand_inline.specs.Written.{desugared_from, reference_id_count, desugared_by_position}
use Rattle.wast_expand_keys.specs.Expanded.{expanded_fields, type_id_count}
use Rattle.wast_expand_keys.specs.Completed.{fields_with_implied_types}
use Rattle.wast_expand_keys.specs.Positioned.{fields_with_type_positions}
use Rattle.wast_resolve_rules.specs.Tree.{ModuleField}

-- without generated ids: exports and segments refer to positions
abbrev pub explicit_fields : List ModuleField → List ModuleField
explicit_fields fields = fields_with_implied_types (desugared_by_position fields)

-- the same, with the position of its type in each type use that needs one
abbrev pub by_positions : List ModuleField → List ModuleField
by_positions fields = fields_with_type_positions (desugared_by_position fields)

-- from a counter: with generated ids on items and types, and an index in each type use that needs one
abbrev pub explicit_fields_from : ℕ → List ModuleField → List ModuleField
explicit_fields_from n fields = expanded_fields (n + reference_id_count fields) (desugared_from n fields)

-- the number of ids that this generates
abbrev pub generated_id_count : List ModuleField → ℕ
generated_id_count fields = reference_id_count fields + type_id_count (desugared_by_position fields)
