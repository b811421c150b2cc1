use Rattle.std.proofs.Common.{Ok, Err}
use Rattle.std.proofs.lemmas.Result.{err_from_is_err_and}
use Rattle.wast_resolve_names.specs.Resolvers.{known_of}
use Rattle.wast_resolve_core_types.proofs.PartsOfTypes.{signature_part}
use Rattle.wast_resolve_names.proofs.CallingNames.{calls_walk}
use Rattle.wast_resolve_passes.proofs.walks.FunctionTypeWalk.walk.Goals as goal

pub returns-in_err-resolve_type_func : goal.returns-in_err-resolve_type_func
returns-in_err-resolve_type_func c =
    let called = c.in_err-resolve_type_func.ensures in
    let p = err_from_is_err_and c.from_residual.result c.from_residual.ensures.1 in
    rw (p.1, p.2) (calls_walk (λ by. known_of by.names.now) (Err _) signature_part called.calls called.rest)

pub returns : goal.returns
returns c =
    let called = c.in_ok-resolve_type_func.ensures in
    calls_walk (λ by. known_of by.names.now) (Ok _) signature_part called.calls called.rest
