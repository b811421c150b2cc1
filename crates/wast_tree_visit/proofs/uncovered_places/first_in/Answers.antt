use Rattle.std.proofs.Common.{ap, ◌∙◌, arith}
use Rattle.wast_tree_nodes.specs.Uncovered.{first_of}
use Rattle.wast_tree_visit.specs.FirstUncovered.{uncovered_at}
use Rattle.wast_tree_visit.specs.IllFormed.{found_from}
use Rattle.wast_tree_visit.proofs.Failing.{first_more_in}
use Rattle.wast_tree_visit.proofs.Locating.{located}
use Rattle.wast_tree_visit.proofs.uncovered_places.first_in.Goals as goal

pub loop-part-preserved : goal.loop-part-preserved
loop-part-preserved g c =
    let part = c.part-item.result in
    located uncovered_at (λ v. v.span) (λ v. v.found) c.visit.ensures
    ∙ (ap (λ place. first_of c.loop-part.finder.found (found_from uncovered_at place (g.T.Visit.asks part))) c.place-finder.ensures
    ∙ (ap (λ o. first_of o (found_from uncovered_at (g.T.Placed.place part) (g.T.Visit.asks part))) c.loop-part.invariant
    ∙ first_more_in (λ x. found_from uncovered_at (g.T.Placed.place x) (g.T.Visit.asks x)) c.args.parts.now c.loop-part.part-index part part
    (omega arith) c.part-item.is))
