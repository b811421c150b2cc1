use Rattle.std.proofs.Common.{subst}
use Rattle.std.proofs.lemmas.Result.{err_from_is_err_and}
use Rattle.wast_valid_machine.specs.Machine.{expect_tys}
use Rattle.wast_valid_machine.specs.Reports.{Reports}
use Rattle.wast_valid_machine.proofs.Leaving.{reports_leave}
use Rattle.wast_valid_machine.proofs.state.State.leave_frame.Goals as goal

pub returns-in_err-take_tys-clause-err : goal.returns-in_err-take_tys-clause-err
returns-in_err-take_tys-clause-err c =
    let p = err_from_is_err_and c.from_residual.result c.from_residual.ensures.1 in
    rw (p.1, p.2) (reports_leave c.args.types.now c.args.self.now c.in-Some.frame c.in_err-take_tys.field-0.0 c.in-Some.ensures
    (subst (λ w. Reports (expect_tys c.args.types.now w c.args.self.now) c.in_err-take_tys.field-0.0) c.ends_of.ensures c.in_err-take_tys.ensures.err))
