use Rattle.std.proofs.Common.{sym, ap, ◌∙◌, flat_map}
use Rattle.std.specs.Prelude.{option_map}
use Rattle.wast_tree_nodes.specs.Sites.{in_field, checks_of}
use Rattle.wast_tree_nodes.specs.Uncovered.{head_of, uncovered_in}
use Rattle.wast_tree_visit.specs.IllFormed.{field_place}
use Rattle.wast_tree_visit.proofs.Locating.{first_form_in}
use Rattle.wast_tree_visit.proofs.Visiting.{asked_each}
use Rattle.wast_tree_visit.proofs.uncovered_places.first_uncovered.Goals as goal

pub returns-clause-form : goal.returns-clause-form
returns-clause-form c =
    let fields = c.args.fields.now in
    ap (option_map (λ u. u.form)) c.first_in.ensures
    ∙ (first_form_in field_place (λ x. checks_of (in_field x)) fields ∙ ap (λ asks. head_of (flat_map uncovered_in asks)) (sym (asked_each in_field fields)))
