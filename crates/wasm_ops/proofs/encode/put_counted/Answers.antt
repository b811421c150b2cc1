use Rattle.std.proofs.Common.{inr, arith}
use Rattle.std.proofs.lemmas.Result.{err_from_is_err_and}
use Rattle.wasm_ops.specs.Spelling.{length_prefixed, InRangeSized}
use Rattle.wasm_ops.proofs.Sinking.{puts_as}
use Rattle.wasm_ops.proofs.encode.put_counted.Goals as goal

pub returns-in_err-size : goal.returns-in_err-size
returns-in_err-size g c =
    let p = err_from_is_err_and c.from_residual.result c.from_residual.ensures.1 in
    rw (p.1, p.2) (g.met.S.Sink.laws.none c.args.out.now, inr c.in_err-size.ensures.err)

pub returns : goal.returns
returns g c =
    let v = c.args.value.now in
    let size = c.in_ok-size.ensures.ok in
    puts_as g.S.Sink.rules (Unit {0}) (InRangeSized g.T.Encode.in_range g.T.Encode.spelling v) c.args.out.now c.put_sized.new.out
    (length_prefixed g.T.Encode.spelling v) c.put_sized.result
    (λ u. (omega (arith, size.0), size.1)) (λ i. tt) c.put_sized.ensures
