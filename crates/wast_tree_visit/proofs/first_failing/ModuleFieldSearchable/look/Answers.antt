use Rattle.std.proofs.Common.{ap, ◌∙◌}
use Rattle.wast_tree_visit.specs.IllFormed.{failing_from}
use Rattle.wast_tree_nodes.specs.Sites.{in_field, checks_of}
use Rattle.wast_tree_nodes.specs.Uncovered.{first_of}
use Rattle.wast_tree_visit.proofs.Failing.{known_told, found_told}
use Rattle.wast_tree_visit.proofs.first_failing.ModuleFieldSearchable.look.Goals as goal

pub returns-clause-known : goal.returns-clause-known
returns-clause-known g c = known_told (λ v. g.S.IdResolver.known v.settler) (λ v. v.span) (λ v. v.found) c.visit.ensures

pub returns-clause-found : goal.returns-clause-found
returns-clause-found g c =
    let first = c.args.first.now in
    found_told (λ v. g.S.IdResolver.known v.settler) (λ v. v.span) (λ v. v.found) c.visit.ensures
    ∙ ap (λ place. first_of first.found (failing_from (g.S.IdResolver.known first.settler) place (checks_of (in_field c.args.self.now))))
    c.field_place-first.ensures
