use Rattle.wasm_ops.proofs.Numbers.{unsigned-small}
use Rattle.wasm_ops.proofs.ShortNumbers.{unsigned-two}
use Rattle.wasm_ops.proofs.sink.VecU8Sink.push_number.Goals as goal

pub returns-then-n-lt128 : goal.returns-then-n-lt128
returns-then-n-lt128 c = rw (unsigned-small c.args.n c.if-n-lt128.true) c.push_bytes.ensures

pub returns-then-n-lt16384 : goal.returns-then-n-lt16384
returns-then-n-lt16384 c = rw (unsigned-two c.args.n c.if-n-lt128.false c.if-n-lt16384.true) c.push_bytes-then-n-lt16384.ensures
