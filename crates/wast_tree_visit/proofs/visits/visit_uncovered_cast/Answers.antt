use Rattle.std.proofs.Common.{sym, subst}
use Rattle.wast_tree_visit.specs.Tree.form
use Rattle.wast_tree_nodes.specs.Sites.{in_cast, uncovered_check}
use Rattle.wast_tree_visit.specs.Visits.{Visits}
use Rattle.wast_tree_visit.proofs.Visiting.{visits_both, visits_one, asked_behind}
use Rattle.wast_tree_visit.proofs.visits.visit_uncovered_cast.Goals as goal

pub returns : goal.returns
returns g c blocks =
    subst (λ asks. Visits g.V.Visitor.told c.args.visitor.now asks c.covered.new.self)
    (sym (asked_behind (in_cast blocks c.args.label.now c.args.to.now c.args.from.now) (uncovered_check form.Descriptor)))
    (visits_both (c.visit_cast.ensures blocks) (visits_one c.covered.ensures))
