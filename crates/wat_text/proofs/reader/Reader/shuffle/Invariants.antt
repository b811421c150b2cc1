-- The loop of `shuffle`: the lanes so far are those that the rule reads from the first tokens.
use Rattle.wat_syntax.specs.Instructions.{u8}
use Rattle.wat_text.proofs.Fills.{Filled}
use Rattle.wat_text.proofs.reader.Reader.shuffle.Given as goal

abbrev pub invariant-loop-place : goal.invariant-loop-place
invariant-loop-place l = Filled u8 16 l.place l.fn.self l.self l.lanes
