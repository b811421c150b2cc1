use Rattle.std.specs.Prelude.{flat_map}
use Rattle.std.proofs.Common.{arith, suc, ◌<◌, length, take, drop}
use Rattle.std.proofs.lemmas.Result.{err_from_is_err_and}
use Rattle.wast_base.specs.Faults.{diagnostic_of}
use Rattle.wast_resolve_rules.proofs.Counted.{many_sites}
use Rattle.wast_resolve_passes.proofs.Each.{stops_with, split, goes_on}
use Rattle.wast_resolve_rules.proofs.Unmet.{answers_more}
use Rattle.wast_resolve_passes.proofs.constants.walk_each_constants.Goals as goal

pub returns-in_err-walk_constants : goal.returns-in_err-walk_constants
returns-in_err-walk_constants g c =
    let t = diagnostic_of c.in_err-walk_constants.field-0.0 in
    let p = err_from_is_err_and c.from_residual.result c.from_residual.ensures.1 in
    let stands = g.T.WalkConstants.stands in
    let olds = c.args.parts.now in
    let x = c.at_mut.result.now in
    let lt : c.loop-i.i < length c.args.parts.now = omega (arith, c.loop-i-test.true, c.len-i-end.ensures) in
    rw (p.1, p.2) (answers_more t _ _ (λ m. m) (many_sites (flat_map stands olds) (flat_map stands (take c.loop-i.i olds)) (stands x)
    (flat_map stands (drop (suc c.loop-i.i) olds)) (split stands c.loop-i.invariant lt c.at_mut.ensures.value)) (λ f h. h)
    (stops_with _ _ t c.loop-i.invariant lt c.at_mut.ensures.value c.in_err-walk_constants.ensures))

pub loop-i-preserved : goal.loop-i-preserved
loop-i-preserved g c =
    goes_on c.loop-i.invariant (omega (arith, c.loop-i-test.true, c.len-i-end.ensures)) c.at_mut.ensures.value
    c.in_ok-walk_constants.ensures.0 c.in_ok-walk_constants.ensures.1
