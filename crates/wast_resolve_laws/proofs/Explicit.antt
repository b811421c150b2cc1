-- Proves the theorems about the fields after both steps of desugaring.
use Rattle.std.proofs.Common.{◌≡◌, ℕ, ◌+◌, ◌<◌, List, None, ap, ◌∙◌, arith}
use Rattle.wast_tree_nodes.specs.Generations.{greatest_generation}
use Rattle.wast_expand_inline.specs.Written.{desugared_from, reference_id_count}
use Rattle.wast_expand_inline.proofs.Left.{nothing_is_left}
use Rattle.wast_expand_inline.proofs.Below.{written_below}
use Rattle.wast_expand_inline.proofs.Settled.{written_well_formed}
use Rattle.wast_expand_keys.specs.Expanded.{type_id_count}
use Rattle.wast_expand_keys.specs.Completed.{fields_with_implied_types}
use Rattle.wast_resolve_laws.specs.Tree.{ModuleField}
use Rattle.wast_resolve_rules.specs.Scopes.{module_scope}
use Rattle.wast_resolve_rules.specs.Demands.{first_unmet, demands}
use Rattle.wast_resolve_rules.specs.Explicit.{explicit_fields, explicit_fields_from, generated_id_count}
use Rattle.wast_resolve_laws.specs.Laws.{SameAnswer, SameCounts, SameBodyCounts, ExplicitStaysWellFormed, NoIdIsLeft}
use Rattle.wast_resolve_laws.specs.Laws.{FinishedStaysWellFormed, SamePositions, FinishedIsResolved, FinishedIsBelow, UsesHaveIndices}
use Rattle.wast_resolve_laws.specs.Laws.{FinishedIsWrittenOut, ItemsStay}
use Rattle.wast_resolve_laws.proofs.AtRest.{items_stay}
use Rattle.wast_resolve_laws.proofs.Composed.{same_answer, same_counts, same_bodies, expanded_well_formed, all_are_numbers}
use Rattle.wast_resolve_laws.proofs.Composed.{numbered_well_formed, numbered_below}
use Rattle.wast_resolve_laws.proofs.Indexed.{numbered_indexed, numbered_resolved}
use Rattle.wast_resolve_laws.proofs.InPlace.{numbered_written_out}
use Rattle.wast_resolve_laws.proofs.ByPosition.{numbered_by_position}
use Rattle.wast_resolve_laws.proofs.WrittenAlike.{written_unmet, clashes_alike, written_counts, written_bodies, written_wants}
use Rattle.wast_resolve_laws.proofs.WrittenPositions.{written_positions}

module _ (n : ℕ) (fields : List ModuleField) where
  -- the counter after the first step
  abbrev pub next : ℕ
  next = n + reference_id_count fields

  pub wants_as_many : next + type_id_count (desugared_from n fields) ≡ n + generated_id_count fields
  wants_as_many = ap (λ m. next + m) (written_wants n fields) ∙ omega arith

  module _ (above : greatest_generation fields < n) where
    pub still_above : greatest_generation (desugared_from n fields) < next
    still_above = written_below n fields above

    pub unmet_alike : first_unmet (demands (fields_with_implied_types (desugared_from n fields))) ≡ first_unmet (demands (explicit_fields fields))
    unmet_alike = written_unmet n fields above

    met_alike : first_unmet (demands (explicit_fields fields)) ≡ None → first_unmet (demands (fields_with_implied_types (desugared_from n fields))) ≡ None
    met_alike met = unmet_alike ∙ met

pub explicit_answer : SameAnswer
explicit_answer n fields above = same_answer (next n fields) (desugared_from n fields) (still_above n fields above) ∙ unmet_alike n fields above

pub explicit_counts : SameCounts
explicit_counts n fields above = same_counts (next n fields) (desugared_from n fields) (still_above n fields above) ∙ written_counts n fields above

pub explicit_bodies : SameBodyCounts
explicit_bodies n fields above free =
    same_bodies (next n fields) (desugared_from n fields) (still_above n fields above) (clashes_alike n fields above ∙ free) ∙ written_bodies n fields above

pub explicit_well_formed : ExplicitStaysWellFormed
explicit_well_formed n fields above h = expanded_well_formed (next n fields) (desugared_from n fields) (still_above n fields above)
    (written_well_formed n fields h)

pub finished_numbered : NoIdIsLeft
finished_numbered n fields above met = all_are_numbers (next n fields) (desugared_from n fields) (still_above n fields above) (met_alike n fields above met)

pub finished_resolved : FinishedIsResolved
finished_resolved n fields above met = numbered_resolved (next n fields) (desugared_from n fields) (still_above n fields above) (met_alike n fields above met)

pub finished_well_formed : FinishedStaysWellFormed
finished_well_formed n fields above h met = numbered_well_formed (next n fields) (desugared_from n fields) (still_above n fields above)
    (written_well_formed n fields h) (met_alike n fields above met)

pub finished_by_position : SamePositions
finished_by_position n fields above met =
    numbered_by_position (next n fields) (desugared_from n fields) (still_above n fields above) (met_alike n fields above met)
    ∙ written_positions n fields above (met_alike n fields above met)

pub finished_below : FinishedIsBelow
finished_below n fields above =
    let a = numbered_below (next n fields) (desugared_from n fields) (still_above n fields above) in
    let b = wants_as_many n fields in
    omega arith

pub finished_indexed : UsesHaveIndices
finished_indexed n fields = numbered_indexed (next n fields) (desugared_from n fields)

pub finished_written_out : FinishedIsWrittenOut
finished_written_out n fields = numbered_written_out (next n fields) (desugared_from n fields) ∙ nothing_is_left n fields

pub finished_items : ItemsStay
finished_items n fields = let all = explicit_fields_from n fields in items_stay (module_scope all) all
