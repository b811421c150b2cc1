use Rattle.std.proofs.Common.{◌+◌, ◌/◌, ◌%◌, [], ◌∷◌, arith}
use Rattle.wasm_ops.specs.Spelling.{InRangeU32, InRangeU64}
use Rattle.wasm_ops.proofs.Numbers.{unsigned-small}
use Rattle.wasm_ops.proofs.ShortNumbers.{unsigned-two}
use Rattle.wasm_ops.proofs.Sinking.{puts_as}
use Rattle.wasm_ops.proofs.pieces.push_wide_numbers_after.Goals as goal

pub returns-then-second-lt16384 : goal.returns-then-second-lt16384
returns-then-second-lt16384 g c =
    let byte = c.args.byte in
    let first = c.args.first in
    let second = c.args.second in
    let bytes = byte ∷ first ∷ (128 + second % 128) ∷ second / 128 ∷ [] in
    rw (unsigned-small first c.if-first-lt128.true, unsigned-two second c.if-second-ge128.true c.if-second-lt16384.true)
    (puts_as g.S.Sink.rules (Unit {0}) (InRangeU32 first × InRangeU64 second) c.args.out.now c.push_bytes.new.self bytes c.push_bytes.result
    (λ u. (omega (arith, c.if-first-lt128.true), omega (arith, c.if-second-lt16384.true))) (λ h. tt) c.push_bytes.ensures)
