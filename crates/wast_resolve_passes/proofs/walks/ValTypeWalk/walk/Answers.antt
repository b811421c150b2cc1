use Rattle.std.proofs.Common.{Ok, Err}
use Rattle.std.proofs.lemmas.Result.{err_from_is_err_and}
use Rattle.wast_resolve_names.specs.Resolvers.{known_of}
use Rattle.wast_resolve_core_types.proofs.PartsOfTypes.{val_part}
use Rattle.wast_resolve_names.proofs.CallingNames.{calls_walk}
use Rattle.wast_resolve_passes.proofs.walks.ValTypeWalk.walk.Goals as goal

pub returns-in_err-resolve_valtype : goal.returns-in_err-resolve_valtype
returns-in_err-resolve_valtype c =
    let called = c.in_err-resolve_valtype.ensures in
    let p = err_from_is_err_and c.from_residual.result c.from_residual.ensures.1 in
    rw (p.1, p.2) (calls_walk (λ by. known_of by.names.now) (Err _) val_part called.calls called.rest)

pub returns : goal.returns
returns c =
    let called = c.in_ok-resolve_valtype.ensures in
    calls_walk (λ by. known_of by.names.now) (Ok _) val_part called.calls called.rest
