-- What the loop of `write_bytes` keeps: the writer has the bytes before the offset.
use Rattle.std.proofs.Common.{◌≤◌, length, take}
use Rattle.std.specs.Io.KnownBytes.{Appends}
use Rattle.wat_command.proofs.files.write_bytes.Given as goal

abbrev pub invariant-loop : goal.invariant-loop
invariant-loop g l = (l.at ≤ length l.fn.bytes) × Appends (g.W.Write.contents l.fn.writer) (g.W.Write.contents l.writer) (take l.at l.fn.bytes)
