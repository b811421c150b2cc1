use Rattle.std.proofs.Common.{Ok, Err}
use Rattle.std.proofs.lemmas.Result.{err_from_is_err_and}
use Rattle.wast_resolve_names.specs.Resolvers.{known_of}
use Rattle.wast_resolve_core_types.proofs.PartsOfTypes.{heap_part}
use Rattle.wast_resolve_names.proofs.CallingNames.{calls_walk}
use Rattle.wast_resolve_passes.proofs.walks.HeapTypeWalk.walk.Goals as goal

pub returns-in_err-resolve_heaptype : goal.returns-in_err-resolve_heaptype
returns-in_err-resolve_heaptype c =
    let called = c.in_err-resolve_heaptype.ensures in
    let p = err_from_is_err_and c.from_residual.result c.from_residual.ensures.1 in
    rw (p.1, p.2) (calls_walk (λ by. known_of by.names.now) (Err _) heap_part called.calls called.rest)

pub returns : goal.returns
returns c =
    let called = c.in_ok-resolve_heaptype.ensures in
    calls_walk (λ by. known_of by.names.now) (Ok _) heap_part called.calls called.rest
