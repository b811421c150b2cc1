use Rattle.std.proofs.Common.{subst, refl}
use Rattle.std.specs.Int.{w64}
use Rattle.std.proofs.lemmas.Int.{to_z-of_z}
use Rattle.wasm_ops.specs.ConstantInstrs.{i64_const_instr}
use Rattle.wasm_ops.specs.Table.{instr}
use Rattle.wasm_ops.proofs.Instructing.{i64_const_row}
use Rattle.wasm_ops.proofs.instr_sink.InstructionSink.i64_const.Goals as goal

pub returns-clause-appended : goal.returns-clause-appended
returns-clause-appended g c =
    let is = to_z-of_z w64 c.args.value c.ranges.value in (
      subst (λ z. g.S.Sink.rules.appended c.args.self.now.out.now c.encode.new.out (instr (i64_const_instr z)).bytes) is c.in_ok-encode.ensures.0,
      record { row = i64_const_row; numbers = subst (λ z. (instr (i64_const_instr z)).in_range) is c.in_ok-encode.ensures.1; covered = refl },
    )
