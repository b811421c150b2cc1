use Rattle.std.proofs.Common.{◌+◌, ◌%◌, [], ◌∷◌, ap, sym, ◌∙◌}
use Rattle.std.specs.Int.{w64}
use Rattle.std.proofs.lemmas.Int.{to_z-of_z}
use Rattle.wasm_ops.specs.Leb128.{complement_if, signed}
use Rattle.wasm_ops.specs.Spelling.{InRangeS64}
use Rattle.wasm_ops.proofs.ShortNumbers.{digits-two}
use Rattle.wasm_ops.proofs.Sinking.{written_as}
use Rattle.wasm_ops.proofs.pieces.push_wide_signed_after.Goals as goal

pub returns-then-rest-lt8192 : goal.returns-then-rest-lt8192
returns-then-rest-lt8192 g c =
    let byte = c.args.byte in
    let parts = c.folded-negative.result in
    let two = digits-two parts.0 parts.1 c.if-rest-ge64.true c.if-rest-lt8192.true in
    let same = ap (λ d. (128 + d) ∷ c.turn.result ∷ []) c.turn-low.ensures
    ∙ ap (λ d. (128 + complement_if parts.0 (parts.1 % 128)) ∷ d ∷ []) c.turn.ensures ∙ sym two ∙ c.folded-negative.ensures.digits
    ∙ ap signed (to_z-of_z w64 c.args.n c.ranges.n) in
    written_as g.S.Sink.rules (Unit {0}) (InRangeS64 c.args.n) c.args.out.now c.push_bytes.new.self
    (byte ∷ (128 + c.turn-low.result) ∷ c.turn.result ∷ []) (byte ∷ signed c.args.n) c.push_bytes.result (λ u. c.ranges.n) (λ h. tt)
    (ap (λ bs. byte ∷ bs) same) c.push_bytes.ensures
