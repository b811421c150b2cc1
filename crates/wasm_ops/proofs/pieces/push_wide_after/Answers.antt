use Rattle.std.proofs.Common.{◌+◌, ◌/◌, ◌%◌, [], ◌∷◌, arith}
use Rattle.wasm_ops.specs.Spelling.{InRangeU32}
use Rattle.wasm_ops.proofs.ShortNumbers.{unsigned-two}
use Rattle.wasm_ops.proofs.Sinking.{puts_as}
use Rattle.wasm_ops.proofs.pieces.push_wide_after.Goals as goal

pub returns-then-n-lt16384 : goal.returns-then-n-lt16384
returns-then-n-lt16384 g c =
    let n = c.args.n in
    rw (unsigned-two n c.requires c.if-n-lt16384.true)
    (puts_as g.S.Sink.rules (Unit {0}) (InRangeU32 n) c.args.out.now c.push_bytes.new.self
    (c.args.byte ∷ (128 + n % 128) ∷ n / 128 ∷ []) c.push_bytes.result (λ u. omega (arith, c.if-n-lt16384.true)) (λ h. tt) c.push_bytes.ensures)
