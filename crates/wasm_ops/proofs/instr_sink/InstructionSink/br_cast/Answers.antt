use Rattle.std.proofs.Common.{refl}
use Rattle.wasm_ops.proofs.Instructing.{br_cast_row}
use Rattle.wasm_ops.proofs.instr_sink.InstructionSink.br_cast.Goals as goal

pub returns-clause-appended : goal.returns-clause-appended
returns-clause-appended g c = (
  c.in_ok-encode.ensures.0,
  record {
    row = br_cast_row c.args.op;
    numbers = c.in_ok-encode.ensures.1;
    covered = rw (c.requires.from, c.requires.to) refl;
  },
)
