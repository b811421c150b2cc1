use Rattle.std.proofs.Common.{◌-◌, suc, false}
use Rattle.wat_syntax.specs.Bodies.{folded_expression}
use Rattle.wat_text.specs.Readers.{left}
use Rattle.wat_text.specs.Machine.{state_of}
use Rattle.wat_text.proofs.Levels.{One}
use Rattle.wat_text.proofs.Kept.{Held}
use Rattle.wat_text.proofs.reader.Reader.folded.Given as goal

abbrev pub invariant-loop : goal.invariant-loop
invariant-loop l = Held false One (folded_expression (left l.fn.self)) l.fn.self l.self (suc (l.end - l.counter)) (suc l.end) (state_of l.self l.body)
