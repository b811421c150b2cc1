use Rattle.std.proofs.Common.{to_z, of_z, ◌-◌, true, false, ap, sym, ◌∙◌}
use Rattle.std.specs.Int.{w64}
use Rattle.std.proofs.lemmas.Int.{to_z-of_z}
use Rattle.wasm_ops.specs.Leb128.{digits, signed}
use Rattle.wasm_ops.proofs.SignedNumbers.{signed_below, signed_above}
use Rattle.wasm_ops.proofs.leb128.folded.Goals as goal

pub returns-then-is_negative-clause-digits : goal.returns-then-is_negative-clause-digits
returns-then-is_negative-clause-digits c =
    let z = to_z w64 (of_z w64 c.args.n) in
    ap (λ m. digits true (m - 1)) c.unsigned_abs-magnitude.ensures.value ∙ signed_below z (sym c.is_negative.ensures ∙ c.if-is_negative.true)
    ∙ ap signed (to_z-of_z w64 c.args.n c.ranges.n)

pub returns-else-is_negative-clause-digits : goal.returns-else-is_negative-clause-digits
returns-else-is_negative-clause-digits c =
    let z = to_z w64 (of_z w64 c.args.n) in
    ap (digits false) c.unsigned_abs-magnitude.ensures.value ∙ signed_above z (sym c.is_negative.ensures ∙ c.if-is_negative.false)
    ∙ ap signed (to_z-of_z w64 c.args.n c.ranges.n)
