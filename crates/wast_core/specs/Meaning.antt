-- What a text module means: the parts of a binary module, in the order of the sections, with the indices of the
-- resolved fields (binary format: modules).
--
-- The definition numbers items by their positions, and generates no ids. So the meaning does not depend on a counter.
--
--   (module (func))     a type section with `(func)`, a function section with type 0, and a code section with an empty body
--
-- Examples that compute: the files `Worked..` of this crate.
use Rattle.std.specs.Prelude.{ℕ, List, Option}
use Rattle.wasm_out.specs.Parts.{Part}
use Rattle.wast_resolve_rules.specs.Explicit.{by_positions}
use Rattle.wast_resolve_rules.specs.Resolved.{resolved_fields}
use Rattle.wast_core_sections.specs.Sections.{parts}
use Rattle.wast_core.specs.Tree.{ModuleField}

-- What a text module means: the parts of its fields after desugaring, with the implicit type definitions. Each id is
-- the position of its item, and each type use has the position of its type.
abbrev pub meaning : Option (List ℕ) → List ModuleField → List Part
meaning name fields = parts name (resolved_fields (by_positions fields))
