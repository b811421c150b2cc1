use Rattle.std.proofs.Common.{[], sym, subst}
use Rattle.wast_tree_visit.specs.Visits.{Visits}
use Rattle.wast_tree_visit.proofs.Visiting.{visits_both, visits_one, asked_handlers}
use Rattle.wast_tree_visit.proofs.continuation_visits.ResumeTableVisit.visit.Goals as goal

pub returns : goal.returns
returns g c =
    subst (λ asks. Visits g.V.Visitor.told c.args.visitor.now asks c.covered.new.self) (sym (asked_handlers [] c.args.self.now))
    (visits_both c.visit.ensures (visits_one c.covered.ensures))
