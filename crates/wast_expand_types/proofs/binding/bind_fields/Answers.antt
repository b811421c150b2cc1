use Rattle.std.proofs.Common.{arith}
use Rattle.std.proofs.lemmas.Result.{err_from_is_err_and}
use Rattle.wast_expand_types.specs.Binding.{IsPassedField}
use Rattle.wast_expand_types.proofs.Halfway.{all_bound, goes_on, next_so, stops}
use Rattle.wast_expand_types.proofs.binding.bind_fields.Goals as goal

pub bind_field-requires : goal.bind_field-requires
bind_field-requires c h = next_so c.loop-i.invariant
    (omega (arith, c.loop-i-test.true, c.len-i-end.ensures)) c.at_mut.ensures.value IsPassedField (c.requires h)

pub returns-in_err-bind_field-clause-refusal : goal.returns-in_err-bind_field-clause-refusal
returns-in_err-bind_field-clause-refusal c =
    let p = err_from_is_err_and c.from_residual.result c.from_residual.ensures.1 in
    rw (p.1, p.2) (stops c.loop-i.invariant
    (omega (arith, c.loop-i-test.true, c.len-i-end.ensures)) c.at_mut.ensures.value c.in_err-bind_field.field-0.0 c.in_err-bind_field.ensures.refusal)

pub loop-i-preserved : goal.loop-i-preserved
loop-i-preserved c = goes_on c.loop-i.invariant
    (omega (arith, c.loop-i-test.true, c.len-i-end.ensures)) c.at_mut.ensures.value c.in_ok-bind_field.ensures.adds c.in_ok-bind_field.ensures.bound

pub returns-clause-bound : goal.returns-clause-bound
returns-clause-bound c = all_bound c.loop-i.invariant (omega (arith, c.loop-i-test.false, c.len-i-end.ensures))
