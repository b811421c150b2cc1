-- The fields after resolving, with the generated ids from a counter (text format: abbreviations, indices, type uses).
--
-- For `(func)` and the counter 1 they are `(func (type 0)) (type [1] (func))`.
use Rattle.std.specs.Prelude.{ℕ, List}
use Rattle.wast_resolve_rules.specs.Tree.{ModuleField}
use Rattle.wast_resolve_rules.specs.Explicit.{explicit_fields_from}
use Rattle.wast_resolve_rules.specs.Resolved.{resolved_fields}

-- the expanded fields, with each index replaced by its number
abbrev pub resolved_fields_from : ℕ → List ModuleField → List ModuleField
resolved_fields_from n fields = resolved_fields (explicit_fields_from n fields)
