use Rattle.std.proofs.Common.{refl}
use Rattle.wasm_ops.proofs.Instructing.{cast_row}
use Rattle.wasm_ops.proofs.instr_sink.InstructionSink.cast.Goals as goal

pub returns-clause-appended : goal.returns-clause-appended
returns-clause-appended g c = (
  c.in_ok-encode.ensures.0,
  record {
    row = cast_row c.args.op c.args.ty.nullable;
    numbers = c.in_ok-encode.ensures.1;
    covered = rw c.requires refl;
  },
)
