use Rattle.std.proofs.lemmas.Result.{err_from_is_err_and}
use Rattle.wasm_ops.specs.Leb128.{unsigned}
use Rattle.wasm_ops.proofs.Sinking.{told_as}
use Rattle.wasm_ops.proofs.leb128.write_u64.Goals as goal

pub returns-in_err-push_number : goal.returns-in_err-push_number
returns-in_err-push_number g c =
    let p = err_from_is_err_and c.from_residual.result c.from_residual.ensures.1 in
    rw p.1 (told_as g.S.Sink.rules (Unit {0}) c.args.out.now c.push_number.new.self
    (unsigned c.args.n) c.in_err-push_number.field-0.0 p.0 c.in_err-push_number.ensures p.2)
