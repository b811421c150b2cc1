use Rattle.std.proofs.Common.{refl}
use Rattle.wasm_ops.proofs.Instructing.{f64_const_row}
use Rattle.wasm_ops.proofs.instr_sink.InstructionSink.f64_const.Goals as goal

pub returns-clause-appended : goal.returns-clause-appended
returns-clause-appended g c = (c.in_ok-encode.ensures.0, record { row = f64_const_row; numbers = c.in_ok-encode.ensures.1; covered = refl })
