use Rattle.std.proofs.Common.{take, ◌++◌}
use Rattle.wast_rows.specs.Answers.{TellsLine}
use Rattle.wast_rows.specs.Runs.{EndedWriter}
use Rattle.wast_rows.proofs.runs.feed.Given as goal

abbrev pub invariant-loop-byte : goal.invariant-loop-byte
invariant-loop-byte g l =
    EndedWriter (TellsLine (goal.F-post g l.sample)) (l.fn.pending.items ++ take l.byte-index l.bytes) l.pending.items
    (g.W.Write.contents l.fn.writer) (g.W.Write.contents l.writer)
