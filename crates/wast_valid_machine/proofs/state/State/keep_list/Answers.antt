use Rattle.std.proofs.Common.{subst, ap, sym, ◌∙◌, arith, Ok}
use Rattle.std.proofs.lemmas.Result.{err_from_is_err_and}
use Rattle.wast_valid_machine.specs.Reports.{Reports}
use Rattle.wast_valid_machine.proofs.Lists.{one_kept, one_not_kept, all_kept}
use Rattle.wast_valid_machine.proofs.state.State.keep_list.Goals as goal

pub loop-left-preserved : goal.loop-left-preserved
loop-left-preserved c = (
  omega (arith, c.loop-left.invariant.0),
  c.loop-left.invariant.1 ∙ one_kept c.args.types.now c.args.want.now c.loop-left.left c.type_at-last.result c.loop-left-test.true c.loop-left.invariant.0
      c.type_at-last.ensures c.loop-left.self c.loop-left.kept c.in_ok-found.found c.take_found.new.self c.push.new.self c.in_ok-found.ensures.ok c.in-Ok.ensures.ok,
)

pub returns-in_err-found-clause-err : goal.returns-in_err-found-clause-err
returns-in_err-found-clause-err c =
    let p = err_from_is_err_and c.from_residual.result c.from_residual.ensures.1 in
    rw (p.1, p.2) (subst (λ r. Reports r c.in_err-found.field-0.0) (sym c.loop-left.invariant.1)
    (one_not_kept c.args.types.now c.args.want.now c.loop-left.left c.type_at-last.result c.loop-left-test.true c.loop-left.invariant.0
    c.type_at-last.ensures c.loop-left.self c.loop-left.kept c.in_err-found.field-0.0 c.in_err-found.ensures.err))

pub returns-clause-ok : goal.returns-clause-ok
returns-clause-ok c = (
  c.loop-left.invariant.1 ∙ (all_kept c.args.types.now c.args.want.now c.loop-left.left c.loop-left.kept c.loop-left.self c.loop-left-test.false ∙ ap Ok (sym c.in_ok-put_back.ensures.ok)),
  c.in_ok-put_back.ensures.empty,
)
