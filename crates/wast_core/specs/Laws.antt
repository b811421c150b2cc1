-- Theorems about modules: resolving keeps the meaning, and what is too large to resolve is too large to encode.
--
--   (module (func $f) (start $f))      resolved from any counter, its parts are those of `meaning`
use Rattle.std.specs.Prelude.{◌≡◌, ℕ, ◌<◌, List, Option}
use Rattle.wast_tree_nodes.specs.Generations.{greatest_generation}
use Rattle.wast_resolve_rules.specs.Finished.{resolved_fields_from}
use Rattle.wast_core.specs.Tree.{ModuleField}
use Rattle.wast_resolve_rules.specs.Demands.{IsTooLarge}
use Rattle.wast_core.specs.Bounded.{IsBounded}
use Rattle.wast_core.specs.Headline.{IsMet}
use Rattle.wast_core_sections.specs.Sections.{parts}
use Rattle.wast_core.specs.Meaning.{meaning}

-- If each demand is met, the generated ids do not matter: the parts are those of the meaning.
abbrev pub MeansWhatIsWritten : Type 0
MeansWhatIsWritten = (n : ℕ) (name : Option (List ℕ)) (fields : List ModuleField) → greatest_generation fields < n → IsMet fields → parts name (resolved_fields_from n fields) ≡ meaning name fields

-- Fields that are too large to resolve are too large to encode.
abbrev pub TooLargeIsUnbounded : Type 0
TooLargeIsUnbounded = (n : ℕ) (name : Option (List ℕ)) (fields : List ModuleField) → IsTooLarge n fields → IsBounded n name fields → ⊥
