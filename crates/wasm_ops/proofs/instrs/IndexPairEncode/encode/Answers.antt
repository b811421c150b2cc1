use Rattle.std.proofs.Common.{◌++◌}
use Rattle.wasm_ops.specs.Keys.{index_pair_key}
use Rattle.wasm_ops.specs.Leb128.{unsigned}
use Rattle.wasm_ops.specs.Spelling.{InRangeU32}
use Rattle.wasm_ops.specs.Table.{Index}
use Rattle.wasm_ops.proofs.Instructing.{opcode_written, two_written}
use Rattle.wasm_ops.proofs.instrs.IndexPairEncode.encode.Goals as goal

pub returns : goal.returns
returns g c =
    let rules = g.S.Sink.rules in
    let i = c.args.self.now in
    let InRange = InRangeU32 i.first × InRangeU32 i.second in
    two_written rules c.args.out.now c.encode.new.out (index_pair_key i.op) Index Index i.first i.second InRange c.encode.result (λ h. h) (λ h. h)
    (opcode_written rules c.args.out.now c.encode.new.out c.opcode.result (index_pair_key i.op) InRange
    (unsigned i.first ++ unsigned i.second) c.encode.result c.opcode.ensures c.encode.ensures)
