use Rattle.std.proofs.Common.{[], ◌∷◌, arith, refl, sym, ap, ◌∙◌, subst, flat_map}
use Rattle.std.proofs.lemmas.List.{take_all}
use Rattle.wast_tree_nodes.specs.Sites.{InnerIndex}
use Rattle.wast_tree_visit.specs.Visits.{Visits}
use Rattle.wast_tree_visit.proofs.Visiting.{visits_more, visits_one, each_alone}
use Rattle.wast_tree_visit.proofs.visits.visit_labels.Goals as goal

pub loop-label-preserved : goal.loop-label-preserved
loop-label-preserved g c = visits_more (λ i. InnerIndex i ∷ []) c.args.labels.now c.loop-label.label-index _ _
    (omega arith) refl c.loop-label.invariant (visits_one c.within.ensures)

pub returns : goal.returns
returns g c =
    let labels = c.args.labels.now in
    subst (λ asks. Visits g.V.Visitor.told c.args.visitor.now asks c.loop-label.visitor)
    (ap (flat_map (λ i. InnerIndex i ∷ [])) (take_all c.loop-label.label-index labels (omega arith))
    ∙ sym (each_alone InnerIndex labels)) c.loop-label.invariant
