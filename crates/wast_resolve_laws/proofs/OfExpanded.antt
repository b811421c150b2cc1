-- Properties of every list of expanded fields, if the counter is past the generated ids of the fields.
use Rattle.std.specs.Prelude.{◌≡◌, ℕ, ◌+◌, ◌<◌, true, [], None, List}
use Rattle.wast_tree_nodes.specs.Items.{items}
use Rattle.wast_tree_nodes.specs.WellFormed.{is_well_formed}
use Rattle.wast_tree_nodes.specs.Resolved.{has_numbers, is_resolved}
use Rattle.wast_tree_nodes.specs.WrittenOut.{is_written_out}
use Rattle.wast_tree_nodes.specs.Generations.{greatest_generation}
use Rattle.wast_expand_keys.specs.NeedingUses.{needed_signatures}
use Rattle.wast_expand_keys.specs.Expanded.{expanded_fields, type_id_count}
use Rattle.wast_expand_keys.specs.Completed.{fields_with_implied_types}
use Rattle.wast_resolve_laws.specs.Tree.{ModuleField}
use Rattle.wast_resolve_rules.specs.Demands.{first_unmet, item_demands, demands, item_counts, body_counts}
use Rattle.wast_resolve_rules.specs.Resolved.{resolved_fields}

-- the expanded fields, once each index is a number
abbrev pub numbered : ℕ → List ModuleField → List ModuleField
numbered n fields = resolved_fields (expanded_fields n fields)

abbrev pub SameUnmet : Type 0
SameUnmet = (n : ℕ) (fields : List ModuleField) → greatest_generation fields < n
    → first_unmet (demands (expanded_fields n fields)) ≡ first_unmet (demands (fields_with_implied_types fields))

abbrev pub SameNumbers : Type 0
SameNumbers = (n : ℕ) (fields : List ModuleField) → greatest_generation fields < n
    → item_counts (items (expanded_fields n fields)) ≡ item_counts (items (fields_with_implied_types fields))

abbrev pub SameBodies : Type 0
SameBodies = (n : ℕ) (fields : List ModuleField) → greatest_generation fields < n
    → first_unmet (item_demands (items (fields_with_implied_types fields))) ≡ None
    → body_counts (expanded_fields n fields) ≡ body_counts (fields_with_implied_types fields)

abbrev pub StaysWellFormed : Type 0
StaysWellFormed = (n : ℕ) (fields : List ModuleField) → greatest_generation fields < n → is_well_formed fields ≡ true
    → is_well_formed (expanded_fields n fields) ≡ true

abbrev pub IsNumbered : Type 0
IsNumbered = (n : ℕ) (fields : List ModuleField) → greatest_generation fields < n → first_unmet (demands (fields_with_implied_types fields)) ≡ None
    → has_numbers (numbered n fields) ≡ true

abbrev pub IsWellFormedNumbered : Type 0
IsWellFormedNumbered = (n : ℕ) (fields : List ModuleField) → greatest_generation fields < n → is_well_formed fields ≡ true
    → first_unmet (demands (fields_with_implied_types fields)) ≡ None → is_well_formed (numbered n fields) ≡ true

abbrev pub IsBelowNext : Type 0
IsBelowNext = (n : ℕ) (fields : List ModuleField) → greatest_generation fields < n → greatest_generation (numbered n fields) < n + type_id_count fields

abbrev pub HasIndices : Type 0
HasIndices = (n : ℕ) (fields : List ModuleField) → needed_signatures (numbered n fields) ≡ []

abbrev pub IsResolved : Type 0
IsResolved = (n : ℕ) (fields : List ModuleField) → greatest_generation fields < n → first_unmet (demands (fields_with_implied_types fields)) ≡ None
    → is_resolved (numbered n fields) ≡ true

abbrev pub StaysWrittenOut : Type 0
StaysWrittenOut = (n : ℕ) (fields : List ModuleField) → is_written_out (numbered n fields) ≡ is_written_out fields
