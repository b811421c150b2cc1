use Rattle.std.proofs.Common.{sym, ap, ◌∙◌}
use Rattle.std.specs.Prelude.{is_none}
use Rattle.std.specs.List.{list_all}
use Rattle.wast_tree_visit.specs.IllFormed.{field_place}
use Rattle.wast_tree_nodes.specs.Items.{items}
use Rattle.wast_tree_nodes.specs.Known.{id_context}
use Rattle.wast_tree_nodes.specs.Sites.{in_field, checks_of}
use Rattle.wast_tree_nodes.specs.WellFormed.{is_kept}
use Rattle.wast_tree_visit.proofs.Failing.{none_in}
use Rattle.wast_tree_visit.proofs.Visiting.{asked_each}
use Rattle.wast_tree_visit.proofs.first_failing.first_ill_formed.Goals as goal

pub returns-clause-none : goal.returns-clause-none
returns-clause-none c =
    let fields = c.args.fields.now in let k = id_context (items fields) in
    ap is_none c.first_failing_own.ensures
    ∙ (none_in k field_place (λ x. checks_of (in_field x)) fields ∙ ap (list_all (is_kept k)) (sym (asked_each in_field fields)))
