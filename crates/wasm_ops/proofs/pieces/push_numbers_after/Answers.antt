use Rattle.std.proofs.Common.{[], ◌∷◌, arith}
use Rattle.wasm_ops.specs.Spelling.{InRangeU32, InRangeU64}
use Rattle.wasm_ops.proofs.Numbers.{unsigned-small}
use Rattle.wasm_ops.proofs.Sinking.{puts_as}
use Rattle.wasm_ops.proofs.pieces.push_numbers_after.Goals as goal

pub returns-then-second-lt128 : goal.returns-then-second-lt128
returns-then-second-lt128 g c =
    let first = c.args.first in
    let second = c.args.second in
    rw (unsigned-small first c.if-first-lt128.true, unsigned-small second c.if-second-lt128.true)
    (puts_as g.S.Sink.rules (Unit {0}) (InRangeU32 first × InRangeU64 second) c.args.out.now c.push_bytes.new.self
    (c.args.byte ∷ first ∷ second ∷ []) c.push_bytes.result (λ u. (omega (arith, c.if-first-lt128.true), omega (arith, c.if-second-lt128.true)))
    (λ h. tt) c.push_bytes.ensures)
