use Rattle.wast_rows.specs.Runs.{WritesOn}
use Rattle.wast_rows.proofs.runs.write_bytes.Given as goal

abbrev pub invariant-loop : goal.invariant-loop
invariant-loop g l = WritesOn l.fn.bytes l.rest (g.W.Write.contents l.fn.writer) (g.W.Write.contents l.writer)
