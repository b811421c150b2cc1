use Rattle.std.proofs.Common.{refl}
use Rattle.wasm_ops.proofs.Instructing.{try_table_row}
use Rattle.wasm_ops.proofs.instr_sink.InstructionSink.try_table.Goals as goal

pub returns-clause-appended : goal.returns-clause-appended
returns-clause-appended g c = (c.in_ok-encode.ensures.0, record { row = try_table_row; numbers = c.in_ok-encode.ensures.1; covered = rw c.requires refl })
