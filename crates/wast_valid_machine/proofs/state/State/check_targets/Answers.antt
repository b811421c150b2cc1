use Rattle.std.proofs.Common.{refl, subst, sym, ◌∙◌}
use Rattle.std.proofs.lemmas.Result.{err_from_is_err_and}
use Rattle.wast_valid_machine.specs.Reports.{Reports}
use Rattle.wast_valid_machine.proofs.Lists.{one_target, no_target, all_targets}
use Rattle.wast_valid_machine.proofs.state.State.check_targets.Goals as goal

pub loop-k-preserved : goal.loop-k-preserved
loop-k-preserved c = (
  c.in_ok-check_target.ensures.empty,
  c.loop-k.invariant.1 ∙ one_target c.args.types.now c.args.arity c.args.labels.now c.loop-k.k _ c.loop-k-test.true refl c.loop-k.self c.check_target.new.self
      c.in_ok-check_target.ensures.ok,
)

pub returns-in_err-check_target-clause-err : goal.returns-in_err-check_target-clause-err
returns-in_err-check_target-clause-err c =
    let p = err_from_is_err_and c.from_residual.result c.from_residual.ensures.1 in
    rw (p.1, p.2) (subst (λ r. Reports r c.in_err-check_target.field-0.0) (sym c.loop-k.invariant.1)
    (no_target c.args.types.now c.args.arity c.args.labels.now c.loop-k.k _ c.loop-k-test.true refl c.loop-k.self c.in_err-check_target.field-0.0 c.in_err-check_target.ensures.err))

pub returns-clause-ok : goal.returns-clause-ok
returns-clause-ok c = c.loop-k.invariant.1 ∙ all_targets c.args.types.now c.args.arity c.args.labels.now c.loop-k.k c.loop-k.self c.loop-k-test.false
