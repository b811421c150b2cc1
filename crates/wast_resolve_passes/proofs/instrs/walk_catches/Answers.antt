use Rattle.std.proofs.Common.{arith}
use Rattle.std.proofs.lemmas.Result.{err_from_is_err_and}
use Rattle.wast_base.specs.Faults.{diagnostic_of}
use Rattle.wast_resolve_passes.proofs.Each.{stops, goes_on}
use Rattle.wast_resolve_passes.proofs.instrs.walk_catches.Goals as goal

pub returns-in_err-walk_catch : goal.returns-in_err-walk_catch
returns-in_err-walk_catch c =
    let p = err_from_is_err_and c.from_residual.result c.from_residual.ensures.1 in
    rw (p.1, p.2) (stops (diagnostic_of c.in_err-walk_catch.field-0.0) c.loop-i.invariant
    (omega (arith, c.loop-i-test.true, c.len-i-end.ensures)) c.at_mut.ensures.value c.in_err-walk_catch.ensures)

pub loop-i-preserved : goal.loop-i-preserved
loop-i-preserved c = goes_on c.loop-i.invariant
    (omega (arith, c.loop-i-test.true, c.len-i-end.ensures)) c.at_mut.ensures.value c.in_ok-walk_catch.ensures.0 c.in_ok-walk_catch.ensures.1
