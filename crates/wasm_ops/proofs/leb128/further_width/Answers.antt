use Rattle.std.proofs.Common.{arith}
use Rattle.wasm_ops.proofs.Numbers.{unsigned-nonempty}
use Rattle.wasm_ops.proofs.leb128.further_width.Goals as goal

pub overflow_sub-result : goal.overflow_sub-result
overflow_sub-result c = omega (arith, c.width.ensures, unsigned-nonempty c.args.n)

pub returns : goal.returns
returns c = omega (arith, c.width.ensures, unsigned-nonempty c.args.n)
