use Rattle.std.proofs.Common.{rules, refl}
use Rattle.std.proofs.lemmas.Result.{on_ok_weaker, IfErr-weaker}
use Rattle.wast_rows.specs.declared.errors.RunError.TheVariants as error
use Rattle.wast_rows.proofs.Writing.{if_raised}
use Rattle.wast_rows.proofs.Running.{StopsReading-nil, StopsReading-kept, StopsReading-more, Ran-end, Stopped-piece, Stopped-end}
use Rattle.wast_rows.proofs.runs.run.Goals as goal

pub loop-init : goal.loop-init
loop-init g c = (rw c.new-pending.ensures.items (StopsReading-nil _ _ _), refl)

pub loop-preserved : goal.loop-preserved
loop-preserved g c = (
  StopsReading-more _ _ _ _ _ _ _ _ _ _ c.loop.invariant.0 (rw c.in-Some.is at c.in_ok-piece.ensures.piece)
      c.in_ok-feed.ensures.ok,
  search rules,
)

pub returns-in_err-piece-clause-err : goal.returns-in_err-piece-clause-err
returns-in_err-piece-clause-err g c =
    if_raised c.from_residual.result _ error.Read (rw c.in_err-piece.ensures.error at c.from_residual.ensures.1)
    (_, StopsReading-kept _ _ _ _ _ _ _ c.loop.invariant.0 c.in_err-piece.ensures.err)

pub returns-in_default-clause-ok : goal.returns-in_default-clause-ok
returns-in_default-clause-ok g c =
    on_ok_weaker c.finish.result
    (λ last. Ran-end _ _ _ _ _ _ _ _ c.loop.invariant.0 (rw c.in_default.is at c.in_ok-piece.ensures.no_more)
    (rw c.in_default.is at c.in_ok-piece.ensures.end) (rw c.as_slice.ensures.value at last))
    c.finish.ensures.ok

pub returns-in_default-clause-err : goal.returns-in_default-clause-err
returns-in_default-clause-err g c =
    IfErr-weaker c.finish.result _ _
    (λ e last. Stopped-end _ _ _ _ _ _ _ _ e c.loop.invariant.0 (rw c.in_default.is at c.in_ok-piece.ensures.no_more) (rw c.as_slice.ensures.value at last))
    c.finish.ensures.err

pub returns-in_err-feed-clause-err : goal.returns-in_err-feed-clause-err
returns-in_err-feed-clause-err g c =
    if_raised c.from_residual-in_err-feed.result _ c.in_err-feed.field-0.0 c.from_residual-in_err-feed.ensures.1
    (Stopped-piece _ _ _ _ _ _ _ _ _ _ c.loop.invariant.0 (rw c.in-Some.is at c.in_ok-piece.ensures.piece) c.in_err-feed.ensures.err)

pub returns-clause-err : goal.returns-clause-err
returns-clause-err g c = (_, c.loop.invariant.0)
