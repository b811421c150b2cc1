use Rattle.std.proofs.Common.{ap, ◌∙◌, arith}
use Rattle.wast_tree_visit.specs.IllFormed.{failing_from}
use Rattle.wast_tree_nodes.specs.Uncovered.{first_of}
use Rattle.wast_tree_visit.proofs.Failing.{first_more_in}
use Rattle.wast_tree_visit.proofs.first_failing.first_failing.Goals as goal

pub loop-part-preserved : goal.loop-part-preserved
loop-part-preserved g c =
    let part = c.part-item.result in let k = g.S.IdResolver.known c.args.settler in (
      c.look.ensures.known ∙ c.loop-part.invariant.0,
      c.look.ensures.found
          ∙ (ap (λ l. first_of c.loop-part.first.found (failing_from l (g.T.Searchable.place part) (g.T.Searchable.asks part))) c.loop-part.invariant.0
          ∙ (ap (λ o. first_of o (failing_from k (g.T.Searchable.place part) (g.T.Searchable.asks part))) c.loop-part.invariant.1
          ∙ first_more_in (λ x. failing_from k (g.T.Searchable.place x) (g.T.Searchable.asks x)) c.args.parts.now c.loop-part.part-index part part
          (omega arith) c.part-item.is)),
    )
