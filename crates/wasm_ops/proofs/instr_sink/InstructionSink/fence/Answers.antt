use Rattle.std.proofs.Common.{refl}
use Rattle.wasm_ops.proofs.Instructing.{fence_row}
use Rattle.wasm_ops.proofs.instr_sink.InstructionSink.fence.Goals as goal

pub returns-clause-appended : goal.returns-clause-appended
returns-clause-appended g c = (c.in_ok-encode.ensures.0, record { row = fence_row; numbers = c.in_ok-encode.ensures.1; covered = rw c.requires refl })
