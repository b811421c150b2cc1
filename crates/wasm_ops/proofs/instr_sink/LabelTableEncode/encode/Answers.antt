use Rattle.std.proofs.Common.{true, refl}
use Rattle.wasm_ops.specs.Leb128.{unsigned}
use Rattle.wasm_ops.specs.Spelling.{InRangeU32, vec, InRangeVec}
use Rattle.wasm_ops.proofs.Instructing.{br_table_written}
use Rattle.wasm_ops.proofs.Sinking.{all_covered}
use Rattle.wasm_ops.proofs.instr_sink.LabelTableEncode.encode.Goals as goal

pub encode-requires : goal.encode-requires
encode-requires g c = all_covered (λ _. true) c.args.self.now.0.now (λ x. refl)

pub returns : goal.returns
returns g c =
    let labels = c.args.self.now.0.now in
    br_table_written g.S.Sink.rules c.args.out.now c.encode.new.out labels c.args.self.now.1 (vec unsigned labels)
    (InRangeVec InRangeU32 labels) c.encode.result refl (λ h. h) (λ h. h) c.encode.ensures
