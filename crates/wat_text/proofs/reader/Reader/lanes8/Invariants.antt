-- The loop of `lanes8`: the lanes so far are those that the rule reads from the first tokens.
use Rattle.wat_syntax.specs.Instructions.{signed_number}
use Rattle.wat_text.proofs.Fills.{Filled}
use Rattle.wat_text.proofs.reader.Reader.lanes8.Given as goal

abbrev pub invariant-loop-place : goal.invariant-loop-place
invariant-loop-place l = Filled (signed_number 16) 8 l.place l.fn.self l.self l.lanes
