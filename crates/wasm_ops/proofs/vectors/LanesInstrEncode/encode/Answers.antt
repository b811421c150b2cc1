use Rattle.std.proofs.Common.{arith}
use Rattle.wasm_ops.specs.Table.{Lanes}
use Rattle.wasm_ops.specs.VectorInstrs.{lanes_key}
use Rattle.wasm_ops.proofs.Instructing.{opcode_written, one_written}
use Rattle.wasm_ops.proofs.vectors.LanesInstrEncode.encode.Goals as goal

pub returns : goal.returns
returns g c =
    let rules = g.S.Sink.rules in
    let i = c.args.self.now in
    one_written rules c.args.out.now c.encode.new.out (lanes_key i.op) Lanes i.lanes (Unit {0}) c.encode.result (λ h. omega arith) (λ h. tt)
    (opcode_written rules c.args.out.now c.encode.new.out c.opcode.result (lanes_key i.op) (Unit {0}) i.lanes c.encode.result c.opcode.ensures c.encode.ensures)
