use Rattle.std.proofs.Common.{[], ◌∷◌, arith}
use Rattle.wasm_ops.specs.Spelling.{InRangeU32}
use Rattle.wasm_ops.proofs.Numbers.{unsigned-small}
use Rattle.wasm_ops.proofs.Sinking.{puts_as}
use Rattle.wasm_ops.proofs.pieces.push_number_after.Goals as goal

pub returns-then-n-lt128 : goal.returns-then-n-lt128
returns-then-n-lt128 g c =
    let n = c.args.n in
    rw (unsigned-small n c.if-n-lt128.true)
    (puts_as g.S.Sink.rules (Unit {0}) (InRangeU32 n) c.args.out.now c.push_bytes.new.self (c.args.byte ∷ n ∷ []) c.push_bytes.result
    (λ u. omega (arith, c.if-n-lt128.true)) (λ h. tt) c.push_bytes.ensures)
