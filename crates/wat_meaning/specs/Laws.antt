-- What a text means does not depend on the addresses of its ids, names and strings.
--
-- A tree has addresses beside bytes: those of the text that it was read from. Its bare tree (BareFields in wat_syntax) has each text at
-- address 0. Both meet the same demands, or the same first demand is unmet at the same position; they mean the same parts, and have the
-- same unsupported constructs and bounds. A source id refers to the same index in both. So two trees of one text, which have one bare
-- tree, agree in all of this.
--
--   (module (func $f) (export "a" (func $f))), at any addresses      the same bytes as at address 0
use Rattle.std.specs.Prelude.{◌≡◌, ℕ, ◌<◌, List, Option}
use Rattle.wast_base.specs.Ids.{Written}
use Rattle.wast_tree_nodes.specs.Generations.{greatest_generation}
use Rattle.wast_tree_nodes.specs.Items.{items}
use Rattle.wast_tree_nodes.specs.Known.{id_context}
use Rattle.wast_tree_nodes.specs.WellFormed.{is_well_formed}
use Rattle.wast_resolve_rules.specs.Explicit.{explicit_fields, explicit_fields_from, generated_id_count}
use Rattle.wast_resolve_rules.specs.Demands.{demands, first_unmet, IsTooLarge}
use Rattle.wast_resolve_rules.specs.Finished.{resolved_fields_from}
use Rattle.wast_core.specs.Bounded.{IsBounded}
use Rattle.wast_core.specs.Headline.{IsMet}
use Rattle.wast_core.specs.Tree.{Space, ModuleField}
use Rattle.wast_core_sections.specs.Uncovered.{uncovered_forms}
use Rattle.wast_core.specs.Meaning.{meaning}
use Rattle.wat_syntax.specs.BareFields.{bare_fields}

-- The first unmet demand is the same at the same position, or all are met.
abbrev pub SameAnswer : Type 0
SameAnswer = (xs : List ModuleField) → first_unmet (demands (explicit_fields (bare_fields xs))) ≡ first_unmet (demands (explicit_fields xs))

-- Both mean the same parts.
abbrev pub SameMeaning : Type 0
SameMeaning = (name : Option (List ℕ)) (xs : List ModuleField) → meaning name (bare_fields xs) ≡ meaning name xs

-- If each check passes, they have the same unsupported constructs in the same order, resolved from a counter past their ids.
abbrev pub SameForms : Type 0
SameForms = (n : ℕ) (xs : List ModuleField) → greatest_generation xs < n → IsMet xs
    → uncovered_forms (resolved_fields_from n (bare_fields xs)) ≡ uncovered_forms (resolved_fields_from n xs)

-- A source id refers to the same index in both, or to none, if they are resolved from a counter past their ids. For example, `$g` is 1 in
-- each tree of `(module (func $f) (func $g))`.
abbrev pub SameNumbers : Type 0
SameNumbers = (n : ℕ) (xs : List ModuleField) → greatest_generation xs < n → (s : Space) (text : List ℕ)
    → (id_context (items (explicit_fields_from n (bare_fields xs)))).number s (Written text) ≡ (id_context (items (explicit_fields_from n xs))).number s (Written text)

-- They have the same number of generated ids.
abbrev pub SameCount : Type 0
SameCount = (xs : List ModuleField) → generated_id_count (bare_fields xs) ≡ generated_id_count xs

-- Both are well formed, or neither is.
abbrev pub SameRules : Type 0
SameRules = (xs : List ModuleField) → is_well_formed (bare_fields xs) ≡ is_well_formed xs

-- They have the same greatest generation of an id.
abbrev pub SameGeneration : Type 0
SameGeneration = (xs : List ModuleField) → greatest_generation (bare_fields xs) ≡ greatest_generation xs

-- Resolving can fail with E10 for both or for neither.
abbrev pub SameTooLarge : Type 0
SameTooLarge = (n : ℕ) (xs : List ModuleField) → (IsTooLarge n xs → IsTooLarge n (bare_fields xs)) × (IsTooLarge n (bare_fields xs) → IsTooLarge n xs)

-- A tree is small enough to encode if its bare tree is.
abbrev pub SameBounds : Type 0
SameBounds = (n : ℕ) (name : Option (List ℕ)) (xs : List ModuleField) → IsBounded n name (bare_fields xs) → IsBounded n name xs
