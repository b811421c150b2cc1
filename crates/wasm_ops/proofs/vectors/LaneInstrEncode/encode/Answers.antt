use Rattle.std.specs.Prelude.{[], ◌∷◌}
use Rattle.wasm_ops.specs.Keys.{lane_key}
use Rattle.wasm_ops.specs.Table.{Lane}
use Rattle.wasm_ops.proofs.Instructing.{opcode_written, one_written}
use Rattle.wasm_ops.proofs.vectors.LaneInstrEncode.encode.Goals as goal

pub returns : goal.returns
returns g c =
    let rules = g.S.Sink.rules in
    let i = c.args.self.now in
    one_written rules c.args.out.now c.encode.new.out (lane_key i.op) Lane i.lane (Unit {0}) c.encode.result (λ h. h) (λ h. h)
    (opcode_written rules c.args.out.now c.encode.new.out c.lane_opcode.result (lane_key i.op) (Unit {0})
    (i.lane ∷ []) c.encode.result c.lane_opcode.ensures c.encode.ensures)
