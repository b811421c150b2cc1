-- Unsupported constructs in a renamed module: they are the same (text format: identifiers, modules).
--
--   (func $f memory.discard 0) and (func $g memory.discard 0)      both fail with E11, for the same construct
use Rattle.std.specs.Prelude.{◌≡◌, ℕ, ◌<◌, List}
use Rattle.wast_tree_nodes.specs.Generations.{greatest_generation}
use Rattle.wast_expand_inline.specs.Written.{desugared_from}
use Rattle.wast_resolve_rules.specs.Finished.{resolved_fields_from}
use Rattle.wast_resolve_laws.specs.Renaming.{Renaming, IsRenaming, renamed_fields}
use Rattle.wast_core.specs.Tree.{ModuleField}
use Rattle.wast_core.specs.Headline.{IsMet}
use Rattle.wast_core_sections.specs.Uncovered.{uncovered_forms}

-- Two lists of fields, resolved from counters past their ids, have the same unsupported constructs in the same order.
-- So encoding fails with E11 for both or for neither, and names the same construct.
abbrev pub SameForms : List ModuleField → List ModuleField → Type 0
SameForms fields others = (m n : ℕ) → greatest_generation fields < m → greatest_generation others < n
    → uncovered_forms (resolved_fields_from n others) ≡ uncovered_forms (resolved_fields_from m fields)

-- Renamed fields have the same unsupported constructs.
abbrev pub RenamedForms : Type 0
RenamedForms = (r : Renaming) → IsRenaming r → (fields : List ModuleField) → IsMet fields → SameForms fields (renamed_fields r fields)

-- So has what desugaring returns, with generated ids or with other names for them.
abbrev pub WrittenForms : Type 0
WrittenForms = (r : Renaming) → IsRenaming r → (n : ℕ) (fields : List ModuleField) → greatest_generation fields < n → IsMet fields
    → SameForms fields (desugared_from n fields) × SameForms fields (renamed_fields r (desugared_from n fields))
