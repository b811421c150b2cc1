use Rattle.std.specs.Prelude.{[], ◌∷◌, ◌++◌}
use Rattle.wasm_ops.specs.Keys.{mem_lane_key}
use Rattle.wasm_ops.specs.Memargs.{memarg}
use Rattle.wasm_ops.specs.Table.{Memarg, Lane}
use Rattle.wasm_ops.proofs.Instructing.{opcode_written, two_written}
use Rattle.wasm_ops.proofs.vectors.MemLaneInstrEncode.encode.Goals as goal

pub returns : goal.returns
returns g c =
    let rules = g.S.Sink.rules in
    let i = c.args.self.now in
    let InRange = (memarg i.memarg).in_range × Unit {0} in
    two_written rules c.args.out.now c.encode.new.out (mem_lane_key i.op) Memarg Lane i.memarg i.lane InRange c.encode.result (λ h. h) (λ h. h)
    (opcode_written rules c.args.out.now c.encode.new.out c.mem_lane_opcode.result (mem_lane_key i.op) InRange
    ((memarg i.memarg).bytes ++ (i.lane ∷ [])) c.encode.result c.mem_lane_opcode.ensures c.encode.ensures)
