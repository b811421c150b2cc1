use Rattle.std.proofs.Common.{◌≡◌, refl, arith, get_or, subst}
use Rattle.std.proofs.lemmas.Result.{err_from_is_err_and}
use Rattle.wast_expand_types.proofs.Halfway.{all_bound, goes_on, passes_by, stops}
use Rattle.wast_expand_types.proofs.binding.bind_instrs.Goals as goal

pub returns-in_err-bind-clause-refusal : goal.returns-in_err-bind-clause-refusal
returns-in_err-bind-clause-refusal c =
    let p = err_from_is_err_and c.from_residual.result c.from_residual.ensures.1 in
    rw (p.1, p.2) (stops c.loop-i.invariant
    (omega (arith, c.loop-i-test.true, c.len-i-end.ensures)) c.at_mut.ensures.value c.in_err-bind.field-0.0 c.in_err-bind.ensures.refusal)

pub loop-i-preserved : goal.loop-i-preserved
loop-i-preserved c = goes_on c.loop-i.invariant
    (omega (arith, c.loop-i-test.true, c.len-i-end.ensures)) c.at_mut.ensures.value c.in_ok-bind.ensures.adds c.in_ok-bind.ensures.bound

pub loop-i-preserved-then-is_passed : goal.loop-i-preserved-then-is_passed
loop-i-preserved-then-is_passed c =
    let passed = c.if-is_passed.ensures refl in
    let is : c.index-as_slice-i.result ≡ get_or c.loop-i.instrs c.loop-i.i c.index-as_slice-i.result = subst
    (λ ys. c.index-as_slice-i.result ≡ get_or ys c.loop-i.i c.index-as_slice-i.result) c.as_slice.ensures c.index-as_slice-i.is in
    passes_by c.loop-i.invariant (omega (arith, c.loop-i-test.true, c.len-i-end.ensures)) is passed.needs passed.stays

pub returns-clause-bound : goal.returns-clause-bound
returns-clause-bound c = all_bound c.loop-i.invariant (omega (arith, c.loop-i-test.false, c.len-i-end.ensures))
