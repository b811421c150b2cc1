use Rattle.wasm_ops.specs.Control.{block_type}
use Rattle.wasm_ops.specs.ControlInstrs.{block_key}
use Rattle.wasm_ops.specs.Table.{Block}
use Rattle.wasm_ops.proofs.Instructing.{opcode_written, one_written}
use Rattle.wasm_ops.proofs.control.BlockInstrEncode.encode.Goals as goal

pub returns : goal.returns
returns g c =
    let rules = g.S.Sink.rules in
    let i = c.args.self.now in
    one_written rules c.args.out.now c.encode.new.out (block_key i.op) Block i.ty (block_type i.ty).in_range c.encode.result (λ h. h) (λ h. h)
    (opcode_written rules c.args.out.now c.encode.new.out c.opcode.result (block_key i.op) (block_type i.ty).in_range
    (block_type i.ty).bytes c.encode.result c.opcode.ensures c.encode.ensures)
