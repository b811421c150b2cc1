-- Theorems about resolved fields, if the counter is past the generated ids in the fields; about enclosing blocks; and
-- about errors before resolving.
--
-- For example, `(func (export "a"))` resolves from counter 1 to
-- `(export "a" (func 0)) (func [1] (type 0)) (type [2] (func))`: no index is an id, and the next generated id is [3].
use Rattle.std.specs.Prelude.{◌≡◌, ℕ, ◌+◌, ◌<◌, true, [], Some, None, List, IsTrue}
use Rattle.wast_tree_nodes.specs.Items.{items}
use Rattle.wast_resolve_labels.specs.Turns.{open_blocks}
use Rattle.wast_tree_nodes.specs.Instrs.{block_effects}
use Rattle.wast_tree_nodes.specs.Sites.{BodyContext, after_all, in_instrs, in_module}
use Rattle.wast_tree_nodes.specs.WellFormed.{is_well_formed}
use Rattle.wast_tree_nodes.specs.WrittenOut.{is_written_out}
use Rattle.wast_base.specs.Faults.{Cause}
use Rattle.wast_tree_nodes.specs.Generations.{greatest_generation}
use Rattle.wast_expand_keys.specs.NeedingUses.{needed_signatures}
use Rattle.wast_resolve_laws.specs.Tree.{Span, Instruction, ModuleField}
use Rattle.wast_resolve_rules.specs.Demands.{first_unmet, demands, item_demands, site_demands, item_counts, body_counts}
use Rattle.wast_resolve_rules.specs.Early.{early_demands}
use Rattle.wast_resolve_rules.specs.Scopes.{module_scope}
use Rattle.wast_resolve_rules.specs.Explicit.{explicit_fields, explicit_fields_from, by_positions, generated_id_count}
use Rattle.wast_tree_map.specs.Laws.{all_mapped}
use Rattle.wast_tree_nodes.specs.Resolved.{has_numbers, is_resolved}
use Rattle.wast_resolve_rules.specs.Resolved.{resolved_fields}
use Rattle.wast_resolve_rules.specs.Stripped.{stripping}
use Rattle.wast_resolve_rules.specs.Finished.{resolved_fields_from}

-- Generated ids do not change which check fails first.
abbrev pub SameAnswer : Type 0
SameAnswer = (n : ℕ) (fields : List ModuleField) → greatest_generation fields < n → first_unmet (demands (explicit_fields_from n fields)) ≡ first_unmet (demands (explicit_fields fields))

-- They do not change the number of items and of struct fields.
abbrev pub SameCounts : Type 0
SameCounts = (n : ℕ) (fields : List ModuleField) → greatest_generation fields < n → item_counts (items (explicit_fields_from n fields)) ≡ item_counts (items (explicit_fields fields))

-- They do not change the number of parameters, locals and enclosing blocks, if no two items have the same id.
abbrev pub SameBodyCounts : Type 0
SameBodyCounts = (n : ℕ) (fields : List ModuleField) → greatest_generation fields < n → first_unmet (item_demands (items (explicit_fields fields))) ≡ None
    → body_counts (explicit_fields_from n fields) ≡ body_counts (explicit_fields fields)

-- Well-formed fields stay well formed with them.
abbrev pub ExplicitStaysWellFormed : Type 0
ExplicitStaysWellFormed = (n : ℕ) (fields : List ModuleField) → greatest_generation fields < n → is_well_formed fields ≡ true → is_well_formed (explicit_fields_from n fields) ≡ true

-- If all checks pass, no index of the result is an id.
abbrev pub NoIdIsLeft : Type 0
NoIdIsLeft = (n : ℕ) (fields : List ModuleField) → greatest_generation fields < n → first_unmet (demands (explicit_fields fields)) ≡ None → has_numbers (resolved_fields_from n fields) ≡ true

-- Then nothing is left to resolve, because each type use that needs a type has an index.
abbrev pub FinishedIsResolved : Type 0
FinishedIsResolved = (n : ℕ) (fields : List ModuleField) → greatest_generation fields < n → first_unmet (demands (explicit_fields fields)) ≡ None → is_resolved (resolved_fields_from n fields) ≡ true

-- Then well-formed fields stay well formed.
abbrev pub FinishedStaysWellFormed : Type 0
FinishedStaysWellFormed = (n : ℕ) (fields : List ModuleField) → greatest_generation fields < n → is_well_formed fields ≡ true → first_unmet (demands (explicit_fields fields)) ≡ None → is_well_formed (resolved_fields_from n fields) ≡ true

-- Then the result is that by positions, apart from generated ids and the positions of indices in type uses.
abbrev pub SamePositions : Type 0
SamePositions = (n : ℕ) (fields : List ModuleField) → greatest_generation fields < n → first_unmet (demands (explicit_fields fields)) ≡ None → all_mapped stripping (resolved_fields_from n fields) ≡ all_mapped stripping (resolved_fields (by_positions fields))

-- The counter is past the generated ids in the result.
abbrev pub FinishedIsBelow : Type 0
FinishedIsBelow = (n : ℕ) (fields : List ModuleField) → greatest_generation fields < n → greatest_generation (resolved_fields_from n fields) < n + generated_id_count fields

-- Each type use that needs a type has an index.
abbrev pub UsesHaveIndices : Type 0
UsesHaveIndices = (n : ℕ) (fields : List ModuleField) → needed_signatures (resolved_fields_from n fields) ≡ []

-- The result has no inline part.
abbrev pub FinishedIsWrittenOut : Type 0
FinishedIsWrittenOut = (n : ℕ) (fields : List ModuleField) → IsTrue (is_written_out (resolved_fields_from n fields))

-- The items of the result are those before numbering, so the identifier context is the same.
abbrev pub ItemsStay : Type 0
ItemsStay = (n : ℕ) (fields : List ModuleField) → items (resolved_fields_from n fields) ≡ items (explicit_fields_from n fields)

-- Counting block starts and ends finds the enclosing blocks after some instructions.
abbrev pub BlocksAreCounted : Type 0
BlocksAreCounted = (h : BodyContext) (is : List Instruction) → h.blocks ≡ [] → (after_all h (in_instrs h is)).blocks ≡ open_blocks (block_effects is)

-- Desugaring does not change the checks before resolving.
abbrev pub EarlyStays : Type 0
EarlyStays = (fields : List ModuleField) → early_demands (explicit_fields fields) ≡ early_demands fields

-- The first of these that fails is the first that fails in resolving.
abbrev pub EarlyIsFirst : Type 0
EarlyIsFirst = (fields : List ModuleField) (f : Cause × Span) → first_unmet (early_demands fields) ≡ Some f → first_unmet (demands (explicit_fields fields)) ≡ Some f

-- If they all pass, resolving reports the first check of sites that fails.
abbrev pub SitesComeAfter : Type 0
SitesComeAfter = (fields : List ModuleField) → first_unmet (early_demands fields) ≡ None
    → first_unmet (demands (explicit_fields fields)) ≡ first_unmet (site_demands (module_scope (explicit_fields fields)) (in_module (explicit_fields fields)))
