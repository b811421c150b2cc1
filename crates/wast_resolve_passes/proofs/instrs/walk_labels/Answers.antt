use Rattle.std.proofs.Common.{arith, [], ◌≤◌, length}
use Rattle.std.proofs.lemmas.Result.{err_from_is_err_and}
use Rattle.wast_base.specs.Faults.{diagnostic_of}
use Rattle.wast_resolve_names.specs.Resolvers.{without_types}
use Rattle.wast_resolve_passes.proofs.Each.{stops, goes_on, tried, all_met, all_become}
use Rattle.wast_resolve_passes.proofs.instrs.walk_labels.Goals as goal

pub returns-in_err-walk_label : goal.returns-in_err-walk_label
returns-in_err-walk_label c names =
    let before = tried (c.loop-i.invariant names) c.at_mut.ensures.value (c.if-try_label.ensures names) in
    let p = err_from_is_err_and c.from_residual.result c.from_residual.ensures.1 in
    rw (p.1, p.2) (stops (diagnostic_of c.in_err-walk_label.field-0.0) before
    (omega (arith, c.loop-i-test.true, c.len-i-end.ensures)) c.at_mut-in-loop-i.ensures.value (c.in_err-walk_label.ensures names))

pub returns : goal.returns
returns c names =
    let p = c.loop-i.invariant names in
    let le : length c.args.indices.now ≤ c.loop-i.i = omega (arith, c.loop-i-test.false, c.len-i-end.ensures) in
    (all_met p le, all_become p le)

pub loop-i-preserved : goal.loop-i-preserved
loop-i-preserved c names =
    let before = tried (c.loop-i.invariant names) c.at_mut.ensures.value (c.if-try_label.ensures names) in
    let done = c.in_ok-walk_label.ensures names in
    goes_on before (omega (arith, c.loop-i-test.true, c.len-i-end.ensures)) c.at_mut-in-loop-i.ensures.value done.0 done.1

pub loop-i-preserved-then-try_label : goal.loop-i-preserved-then-try_label
loop-i-preserved-then-try_label c names =
    let done = c.if-try_label.ensures names in
    goes_on (c.loop-i.invariant names) (omega (arith, c.loop-i-test.true, c.len-i-end.ensures)) c.at_mut.ensures.value done.0 done.1

pub at_mut-requires : goal.at_mut-requires
at_mut-requires c = omega (arith, (c.loop-i.invariant (without_types [])).len, c.loop-i-test.true, c.len-i-end.ensures)

pub at_mut-requires-in-loop-i : goal.at_mut-requires-in-loop-i
at_mut-requires-in-loop-i c =
    let names = without_types [] in
    let before = tried (c.loop-i.invariant names) c.at_mut.ensures.value (c.if-try_label.ensures names) in
    omega (arith, before.len, c.loop-i-test.true, c.len-i-end.ensures)
