use Rattle.std.proofs.Common.{arith, sym, ap, ◌∙◌, subst, flat_map}
use Rattle.std.proofs.lemmas.List.{take_all}
use Rattle.wast_tree_nodes.specs.Sites.{in_field, checks_of}
use Rattle.wast_tree_visit.specs.Visits.{Visits}
use Rattle.wast_tree_visit.proofs.Visiting.{visits_more, asked_each}
use Rattle.wast_tree_visit.proofs.visits.visit_fields.Goals as goal

pub loop-field-preserved : goal.loop-field-preserved
loop-field-preserved g c =
    visits_more (λ f. checks_of (in_field f)) c.args.fields.now c.loop-field.field-index c.field-item.result c.field-item.result
    (omega arith) c.field-item.is c.loop-field.invariant c.visit.ensures

pub returns : goal.returns
returns g c =
    let fields = c.args.fields.now in
    subst (λ asks. Visits g.V.Visitor.told c.args.visitor.now asks c.loop-field.visitor)
    (ap (flat_map (λ f. checks_of (in_field f))) (take_all c.loop-field.field-index fields (omega arith))
    ∙ sym (asked_each in_field fields)) c.loop-field.invariant
