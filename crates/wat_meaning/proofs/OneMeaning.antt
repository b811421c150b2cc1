-- A tree has the meaning of its bare tree: that of the tree with each id at address 0, and then with each name and string too.
use Rattle.std.proofs.Common.{◌≡◌, ℕ, ◌+◌, ◌<◌, ◌^◌, List, inl, sym, ap, ◌∙◌, subst}
use Rattle.wast_tree_nodes.specs.Generations.{greatest_generation}
use Rattle.wast_tree_nodes.specs.Uncovered.{uncovered_forms}
use Rattle.wast_tree_nodes.specs.WellFormed.{is_well_formed}
use Rattle.wast_resolve_rules.specs.Demands.{first_unmet, demands, IsTooLarge}
use Rattle.wast_resolve_rules.specs.Explicit.{explicit_fields, by_positions, generated_id_count}
use Rattle.wast_resolve_rules.specs.Finished.{resolved_fields_from}
use Rattle.wast_resolve_rules.specs.Resolved.{resolved_fields}
use Rattle.wast_resolve_laws.specs.Renaming.{renamed_fields, RenamedAnswer, RenamedPositions, RenamedFilled, RenamedTooLarge}
use Rattle.wast_core_sections.specs.Sections.{parts}
use Rattle.wast_core_sections.specs.Writable.{IsWritable}
use Rattle.wast_core.specs.Laws.{TooLargeIsUnbounded}
use Rattle.wast_core.specs.OtherForms.{RenamedForms}
use Rattle.wast_core.specs.Tree.{ModuleField}
use Rattle.wat_syntax.specs.BareFields.{bare_fields}
use Rattle.wat_ready.specs.Shown.{shown_fields}
use Rattle.wat_meaning.specs.Erasing.{erasing}
use Rattle.wat_meaning.specs.Laws.{SameAnswer, SameMeaning, SameForms, SameCount, SameRules, SameGeneration, SameTooLarge, SameBounds}
use Rattle.wat_meaning.proofs.BareParts.{bare_parts, bare_writable}
use Rattle.wat_meaning.proofs.Erased.{is_renaming, bare_is_shown, of_bare}
use Rattle.wat_meaning.proofs.ErasedAnswers.{erased_answer, erased_count, erased_forms}
use Rattle.wat_meaning.proofs.ErasedRules.{generation_erased, well_formed_erased}
use Rattle.wat_meaning.proofs.ShownAnswers.{shown_answer, shown_forms}
use Rattle.wat_meaning.proofs.ShownForms.{generation_shown, well_formed_shown}
use Rattle.wat_meaning.proofs.ShownSizes.{large_then, large_before}
use Rattle.wat_meaning.proofs.ShownResolved.{shown_count, shown_resolved_positions}

pub same_answer : RenamedAnswer → SameAnswer
same_answer answer xs = of_bare (λ zs. first_unmet (demands (explicit_fields zs))) shown_answer xs (erased_answer answer xs)

-- The resolved fields of a bare tree are those of the tree, without addresses.
bare_resolved : RenamedPositions → (xs : List ModuleField)
    → resolved_fields (by_positions (bare_fields xs)) ≡ bare_fields (resolved_fields (by_positions xs))
bare_resolved positions xs =
    ap (λ zs. resolved_fields (by_positions zs)) (bare_is_shown xs)
    ∙ (shown_resolved_positions (renamed_fields erasing xs)
    ∙ (ap shown_fields (positions erasing is_renaming xs) ∙ sym (bare_is_shown (resolved_fields (by_positions xs)))))

pub same_meaning : RenamedPositions → SameMeaning
same_meaning positions name xs = ap (parts name) (bare_resolved positions xs) ∙ bare_parts name (resolved_fields (by_positions xs))

pub same_count : RenamedFilled → SameCount
same_count filled xs = of_bare generated_id_count shown_count xs (erased_count filled xs)

pub same_rules : SameRules
same_rules xs = of_bare is_well_formed well_formed_shown xs (well_formed_erased xs)

pub same_generation : SameGeneration
same_generation xs = of_bare greatest_generation generation_shown xs (generation_erased xs)

-- The unsupported constructs are the same if each check passes.
pub same_forms : RenamedForms → SameForms
same_forms forms n xs above met = of_bare (λ zs. uncovered_forms (resolved_fields_from n zs)) (shown_forms n) xs (erased_forms forms n xs above met)

-- A module is too large to resolve if its bare tree is, and the other way round.
pub same_too_large : RenamedTooLarge → SameTooLarge
same_too_large large n xs = (
  (λ h. subst (IsTooLarge n) (sym (bare_is_shown xs)) (large_then n (renamed_fields erasing xs) ((large erasing is_renaming n xs).0 h))),
  (λ h. (large erasing is_renaming n xs).1 (large_before n (renamed_fields erasing xs) (subst (IsTooLarge n) (bare_is_shown xs) h))),
)

-- A module is small enough to encode if its bare tree is.
pub same_bounds : TooLargeIsUnbounded → RenamedTooLarge → RenamedFilled → RenamedPositions → SameBounds
same_bounds unbounded large filled positions n name xs bounded = record {
  spaces = λ h. unbounded n name (bare_fields xs) ((same_too_large large n xs).0 (inl h)) bounded;
  counter = subst (λ (k : ℕ). n + k < 2 ^ 64) (same_count filled xs) bounded.counter;
  writable = bare_writable name (resolved_fields (by_positions xs)) (subst (IsWritable name) (bare_resolved positions xs) bounded.writable);
}
