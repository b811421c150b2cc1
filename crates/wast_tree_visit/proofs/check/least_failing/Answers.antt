use Rattle.wast_tree_visit.proofs.Failing.{least_told}
use Rattle.wast_tree_visit.proofs.check.least_failing.Goals as goal

pub returns : goal.returns
returns g c = least_told (λ v. g.S.IdResolver.known v.settler) (λ v. v.clause) c.visit_each.ensures
