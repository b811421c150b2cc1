use Rattle.wasm_ops.specs.ControlInstrs.{delimiter_key}
use Rattle.wasm_ops.proofs.Instructing.{plain_written}
use Rattle.wasm_ops.proofs.control.DelimiterEncode.encode.Goals as goal

pub returns : goal.returns
returns g c = plain_written g.S.Sink.rules c.args.out.now c.encode.new.out c.opcode.result
    (delimiter_key c.args.self.now) c.encode.result c.opcode.ensures c.encode.ensures
