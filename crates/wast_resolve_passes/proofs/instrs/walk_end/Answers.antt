use Rattle.std.proofs.lemmas.Result.{err_from_is_err_and}
use Rattle.wast_resolve_passes.proofs.instrs.walk_end.Goals as goal

pub returns-in_err-walk_else-clause-walks : goal.returns-in_err-walk_else-clause-walks
returns-in_err-walk_else-clause-walks c names =
    let p = err_from_is_err_and c.from_residual.result c.from_residual.ensures.1 in
    rw (p.1, p.2) (c.in_err-walk_else.ensures names)

pub returns-clause-walks : goal.returns-clause-walks
returns-clause-walks c names = c.in_ok-walk_else.ensures names

pub returns-clause-blocks : goal.returns-clause-blocks
returns-clause-blocks c l = c.close.ensures
