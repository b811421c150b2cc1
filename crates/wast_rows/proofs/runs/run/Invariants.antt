use Rattle.std.proofs.Common.{◌≡◌, length}
use Rattle.wast_rows.specs.Answers.{TellsLine}
use Rattle.wast_rows.specs.Runs.{StopsReading}
use Rattle.wast_rows.proofs.runs.run.Given as goal

abbrev pub invariant-loop : goal.invariant-loop
invariant-loop g l =
    StopsReading (TellsLine (goal.F-post g l.sample)) l.pending.items (g.R.Read.remaining l.fn.reader) (g.R.Read.remaining l.reader)
    (g.W.Write.contents l.fn.writer) (g.W.Write.contents l.writer)
    × (length l.buffer ≡ 4096)
