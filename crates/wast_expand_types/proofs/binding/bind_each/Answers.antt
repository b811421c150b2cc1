use Rattle.std.proofs.Common.{arith}
use Rattle.std.proofs.lemmas.Result.{err_from_is_err_and}
use Rattle.wast_expand_types.proofs.Halfway.{goes_on, stops}
use Rattle.wast_expand_types.proofs.binding.bind_each.Goals as goal

pub returns-in_err-bind-clause-refusal : goal.returns-in_err-bind-clause-refusal
returns-in_err-bind-clause-refusal g c =
    let p = err_from_is_err_and c.from_residual.result c.from_residual.ensures.1 in
    rw (p.1, p.2) (stops c.loop-i.invariant
    (omega (arith, c.loop-i-test.true, c.len-i-end.ensures)) c.at_mut.ensures.value c.in_err-bind.field-0.0 c.in_err-bind.ensures.refusal)

pub loop-i-preserved : goal.loop-i-preserved
loop-i-preserved g c = goes_on c.loop-i.invariant
    (omega (arith, c.loop-i-test.true, c.len-i-end.ensures)) c.at_mut.ensures.value c.in_ok-bind.ensures.adds c.in_ok-bind.ensures.bound
