use Rattle.std.proofs.Common.{arith, ◌<◌, length}
use Rattle.std.proofs.lemmas.Result.{err_from_is_err_and}
use Rattle.wast_base.specs.Faults.{diagnostic_of}
use Rattle.wast_resolve_passes.specs.NumberedBodies.{IsNumberedField}
use Rattle.wast_resolve_passes.proofs.Each.{stops_with, split, next_so, goes_on}
use Rattle.wast_resolve_rules.proofs.Counted.{many_at}
use Rattle.wast_resolve_rules.proofs.Unmet.{answers_more}
use Rattle.wast_resolve_rules.specs.Demands.{body_counts_in}
use Rattle.wast_resolve_names.specs.Resolvers.{scope_of}
use Rattle.wast_resolve_passes.proofs.walks.walk_fields.Goals as goal

pub walk_field-requires : goal.walk_field-requires
walk_field-requires c h =
    let lt : c.loop-i.i < length c.args.fields.now = omega (arith, c.loop-i-test.true, c.len-i-end.ensures) in
    next_so IsNumberedField c.loop-i.invariant lt c.at_mut.ensures.value (c.requires h)

pub returns-in_err-walk_field : goal.returns-in_err-walk_field
returns-in_err-walk_field c =
    let p = err_from_is_err_and c.from_residual.result c.from_residual.ensures.1 in
    let lt : c.loop-i.i < length c.args.fields.now = omega (arith, c.loop-i-test.true, c.len-i-end.ensures) in
    rw (p.1, p.2) (answers_more (diagnostic_of c.in_err-walk_field.field-0.0) _ _ (λ m. m)
    (many_at _ _ _ _ (split (body_counts_in (scope_of c.args.names.now)) c.loop-i.invariant lt c.at_mut.ensures.value)) (λ f h. h)
    (stops_with _ _ (diagnostic_of c.in_err-walk_field.field-0.0) c.loop-i.invariant lt c.at_mut.ensures.value c.in_err-walk_field.ensures))

pub loop-i-preserved : goal.loop-i-preserved
loop-i-preserved c = goes_on c.loop-i.invariant
    (omega (arith, c.loop-i-test.true, c.len-i-end.ensures)) c.at_mut.ensures.value c.in_ok-walk_field.ensures.0 c.in_ok-walk_field.ensures.1
