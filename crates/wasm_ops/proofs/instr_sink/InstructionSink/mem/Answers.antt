use Rattle.std.proofs.Common.{refl}
use Rattle.wasm_ops.proofs.Instructing.{mem_row}
use Rattle.wasm_ops.proofs.instr_sink.InstructionSink.mem.Goals as goal

pub returns-clause-appended : goal.returns-clause-appended
returns-clause-appended g c = (
  c.in_ok-encode.ensures.0,
  record {
    row = mem_row c.args.op;
    numbers = c.in_ok-encode.ensures.1;
    covered = rw c.requires.covered refl;
  },
)
