use Rattle.std.proofs.Common.{[], ◌∷◌, ap, sym, ◌∙◌}
use Rattle.std.specs.Int.{w64}
use Rattle.std.proofs.lemmas.Int.{to_z-of_z}
use Rattle.wasm_ops.specs.Leb128.{signed}
use Rattle.wasm_ops.specs.Spelling.{InRangeS64}
use Rattle.wasm_ops.proofs.SignedNumbers.{digits-small}
use Rattle.wasm_ops.proofs.Sinking.{written_as}
use Rattle.wasm_ops.proofs.pieces.push_signed_after.Goals as goal

pub returns-then-rest-lt64 : goal.returns-then-rest-lt64
returns-then-rest-lt64 g c =
    let byte = c.args.byte in
    let parts = c.folded-negative.result in
    let one = ap (λ d. d ∷ []) c.turn.ensures ∙ sym (digits-small parts.0 parts.1 c.if-rest-lt64.true) ∙ c.folded-negative.ensures.digits
    ∙ ap signed (to_z-of_z w64 c.args.n c.ranges.n) in
    written_as g.S.Sink.rules (Unit {0}) (InRangeS64 c.args.n) c.args.out.now c.push_bytes.new.self (byte ∷ c.turn.result ∷ [])
    (byte ∷ signed c.args.n) c.push_bytes.result (λ u. c.ranges.n) (λ h. tt)
    (ap (λ bs. byte ∷ bs) one) c.push_bytes.ensures
