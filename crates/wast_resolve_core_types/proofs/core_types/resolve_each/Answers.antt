use Rattle.std.proofs.Common.{arith, rules}
use Rattle.std.proofs.lemmas.Result.{err_from_is_err_and}
use Rattle.wast_resolve_core_types.proofs.CallingEach.{next_needs, next_called, next_refused, rest_stays}
use Rattle.wast_resolve_core_types.proofs.core_types.resolve_each.Goals as goal

pub resolve_with-requires : goal.resolve_with-requires
resolve_with-requires g c = let needs =
    next_needs c.loop-i.invariant (omega (arith, c.loop-i-test.true, c.len-i-end.ensures)) c.at_mut.ensures.value c.requires in search rules

pub returns-in_err-resolve_with-clause-calls : goal.returns-in_err-resolve_with-clause-calls
returns-in_err-resolve_with-clause-calls g c =
    let p = err_from_is_err_and c.from_residual.result c.from_residual.ensures.1 in
    rw (p.1, p.2) (next_refused c.loop-i.invariant
    (omega (arith, c.loop-i-test.true, c.len-i-end.ensures)) c.at_mut.ensures.value c.in_err-resolve_with.ensures.calls)

pub returns-in_err-resolve_with-clause-rest : goal.returns-in_err-resolve_with-clause-rest
returns-in_err-resolve_with-clause-rest g c =
    rest_stays c.loop-i.invariant (omega (arith, c.loop-i-test.true, c.len-i-end.ensures)) c.at_mut.ensures.value c.in_err-resolve_with.ensures.rest

pub loop-i-preserved : goal.loop-i-preserved
loop-i-preserved g c =
    let done = c.in_ok-resolve_with.ensures in
    next_called c.loop-i.invariant (omega (arith, c.loop-i-test.true, c.len-i-end.ensures)) c.at_mut.ensures.value done.calls done.rest done.kept
