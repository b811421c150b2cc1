-- What resolving answers does not depend on the addresses of ids.
--
--   (func $f) (export "a" (func $g))      E4 with the name "g" at the same position, wherever the text of `$g` is
use Rattle.std.proofs.Common.{◌≡◌, ℕ, ◌<◌, List, Option, Some, None, refl, sym, ap, ◌∙◌, subst}
use Rattle.wast_base.specs.declared.ids.Span.{Span}
use Rattle.wast_base.specs.Faults.{Cause, Unknown, DuplicateField, NoNamedFields}
use Rattle.wast_base.specs.Ids.{Mark}
use Rattle.wast_tree_nodes.specs.Generations.{greatest_generation}
use Rattle.wast_tree_nodes.specs.Uncovered.{uncovered_forms}
use Rattle.wast_tree_map.specs.Named.{identity_naming}
use Rattle.wast_resolve_rules.specs.Demands.{first_unmet, demands}
use Rattle.wast_resolve_rules.specs.Explicit.{explicit_fields, generated_id_count}
use Rattle.wast_resolve_rules.specs.Finished.{resolved_fields_from}
use Rattle.wast_resolve_laws.specs.Renaming.{renamed_fields, told_marks, RenamesCause, RenamesFault, RenamedAnswer, RenamedFilled}
use Rattle.wast_core.specs.Headline.{IsMet}
use Rattle.wast_core.specs.OtherForms.{RenamedForms}
use Rattle.wast_core.specs.Tree.{ModuleField}
use Rattle.wat_meaning.specs.Erasing.{erasing}
use Rattle.wat_meaning.proofs.Erased.{is_renaming}
use Rattle.wat_meaning.proofs.ErasedRules.{generation_erased}

-- A fault in which no name changes is the same fault.
cause_same : (marks : List Mark) (place : Span) (c d : Cause) → RenamesCause identity_naming marks place c d → d ≡ c
cause_same marks place (Unknown word text) d (name, (there, (is, so))) = so ∙ ap (Unknown word) (sym is)
cause_same marks place (DuplicateField word text) d (name, (there, (is, so))) = so ∙ ap (DuplicateField word) (sym is)
cause_same marks place (NoNamedFields text k) d (name, (there, (is, so))) = so ∙ ap (λ (t : List ℕ). NoNamedFields t k) (sym is)
cause_same marks place c d h = h

fault_same : (marks : List Mark) (a b : Option (Cause × Span)) → RenamesFault identity_naming marks a b → b ≡ a
fault_same marks None None h = refl
fault_same marks None (Some g) h = absurd h
fault_same marks (Some f) None h = absurd h
fault_same marks (Some f) (Some g) h = λ i. Some (cause_same marks f.1 f.0 g.0 h.0 i, h.1 i)

pub erased_answer : RenamedAnswer → (xs : List ModuleField)
    → first_unmet (demands (explicit_fields (renamed_fields erasing xs))) ≡ first_unmet (demands (explicit_fields xs))
erased_answer answer xs =
    fault_same (told_marks (explicit_fields xs)) (first_unmet (demands (explicit_fields xs)))
    (first_unmet (demands (explicit_fields (renamed_fields erasing xs)))) (answer erasing is_renaming xs)

-- The number of generated ids.
pub erased_count : RenamedFilled → (xs : List ModuleField) → generated_id_count (renamed_fields erasing xs) ≡ generated_id_count xs
erased_count filled xs = filled erasing is_renaming xs

-- The unsupported constructs, if each check passes.
pub erased_forms : RenamedForms → (n : ℕ) (xs : List ModuleField) → greatest_generation xs < n → IsMet xs
    → uncovered_forms (resolved_fields_from n (renamed_fields erasing xs)) ≡ uncovered_forms (resolved_fields_from n xs)
erased_forms forms n xs above met = forms erasing is_renaming xs met n n above (subst (λ (k : ℕ). k < n) (sym (generation_erased xs)) above)
