use Rattle.std.proofs.Common.{arith}
use Rattle.wasm_ops.specs.Spelling.{InRangeU32}
use Rattle.wasm_ops.specs.Table.{Order}
use Rattle.wasm_ops.proofs.Instructing.{one_written}
use Rattle.wasm_ops.proofs.casts.FenceEncode.encode.Goals as goal

pub returns : goal.returns
returns g c =
    let x = c.args.self.now.0 in
    one_written g.S.Sink.rules c.args.out.now c.encode.new.out 0xfe0003 Order x (Unit {0} × (InRangeU32 3 × Unit {0})) c.encode.result (λ h. tt)
    (λ h. (tt, (omega arith, tt))) c.encode.ensures
