use Rattle.std.proofs.Common.{length, refl, inr, arith}
use Rattle.std.proofs.lemmas.Result.{err_from_is_err_and}
use Rattle.wast_core_conv.proofs.Hinting.{InRangeSpelled, spelled, uncounted, counted_hint}
use Rattle.wast_core_conv.proofs.hint_values.put_hint.Goals as goal

pub returns-in_err-encode-clause-written : goal.returns-in_err-encode-clause-written
returns-in_err-encode-clause-written g c =
    let p = err_from_is_err_and c.from_residual.result c.from_residual.ensures.1 in
    rw (p.1, p.2) (uncounted g.S.Sink.rules c.args.out.now c.args.before.now (length (spelled c.args.instrs.now)) c.args.value
    (InRangeSpelled c.args.instrs.now) c.in_err-encode.field-0.0 g.met.S.Sink.laws c.in_err-encode.ensures.1)

pub returns-in_default-clause-written : goal.returns-in_default-clause-written
returns-in_default-clause-written g c =
    let is = c.in_ok-encode.ensures.0 in
    let seen = c.count.ensures in
    (g.met.S.Sink.laws.none c.args.out.now, inr (refl, λ h. let few = h.1.0 in c.in_default.ensures (omega arith)))

pub returns-clause-written : goal.returns-clause-written
returns-clause-written g c =
    let is = c.in_ok-encode.ensures.0 in
    let seen = c.count.ensures in
    let kept = c.in-Ok.ensures in
    counted_hint g.S.Sink.rules c.args.out.now c.encode-2.new.out c.in-Ok.branch_func_offset _ c.args.value
    (InRangeSpelled c.args.instrs.now) c.encode-2.result (omega arith) c.in_ok-encode.ensures.1 c.encode-2.ensures
