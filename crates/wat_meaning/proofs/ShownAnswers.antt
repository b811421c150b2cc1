-- What resolving a module answers does not depend on the addresses of names and strings.
--
--   (func $f) (export "a" (func $g))      E4 at $g, wherever "a" is
use Rattle.std.proofs.Common.{◌≡◌, ℕ, List, ap, ◌∙◌}
use Rattle.wast_tree_nodes.specs.Items.{items}
use Rattle.wast_tree_nodes.specs.Uncovered.{uncovered_forms}
use Rattle.wast_resolve_rules.specs.Demands.{first_unmet, demands, item_counts, body_counts}
use Rattle.wast_resolve_rules.specs.Explicit.{explicit_fields}
use Rattle.wast_resolve_rules.specs.Finished.{resolved_fields_from}
use Rattle.wat_syntax.specs.Tree.{ModuleField}
use Rattle.wat_ready.specs.Shown.{shown_fields}
use Rattle.wat_meaning.proofs.ShownDemands.{unmet_shown, item_counts_shown, body_counts_shown}
use Rattle.wat_meaning.proofs.ShownForms.{forms_shown}
use Rattle.wat_meaning.proofs.ShownResolved.{shown_explicit, shown_resolved_from}

-- The first check that fails.
pub shown_answer : (xs : List ModuleField)
    → first_unmet (demands (explicit_fields (shown_fields xs))) ≡ first_unmet (demands (explicit_fields xs))
shown_answer xs = ap (λ (ys : List ModuleField). first_unmet (demands ys)) (shown_explicit xs) ∙ unmet_shown (explicit_fields xs)

-- The unsupported constructs of the resolved fields.
pub shown_forms : (n : ℕ) (xs : List ModuleField)
    → uncovered_forms (resolved_fields_from n (shown_fields xs)) ≡ uncovered_forms (resolved_fields_from n xs)
shown_forms n xs = ap uncovered_forms (shown_resolved_from n xs) ∙ forms_shown (resolved_fields_from n xs)

-- The sizes that permit E10.
pub shown_item_counts : (xs : List ModuleField)
    → item_counts (items (explicit_fields (shown_fields xs))) ≡ item_counts (items (explicit_fields xs))
shown_item_counts xs = ap (λ (ys : List ModuleField). item_counts (items ys)) (shown_explicit xs) ∙ item_counts_shown (explicit_fields xs)

pub shown_body_counts : (xs : List ModuleField)
    → body_counts (explicit_fields (shown_fields xs)) ≡ body_counts (explicit_fields xs)
shown_body_counts xs = ap body_counts (shown_explicit xs) ∙ body_counts_shown (explicit_fields xs)
