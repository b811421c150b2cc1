use Rattle.std.proofs.Common.{ap, ◌∙◌}
use Rattle.std.specs.Int.{w64}
use Rattle.std.proofs.lemmas.Int.{to_z-of_z}
use Rattle.wasm_ops.specs.Leb128.{signed}
use Rattle.wasm_ops.proofs.leb128.signed_bytes.Goals as goal

pub returns-clause-bytes : goal.returns-clause-bytes
returns-clause-bytes c = c.signed_digits.ensures.bytes ∙ c.folded-negative.ensures.digits ∙ ap signed (to_z-of_z w64 c.args.n c.ranges.n)
