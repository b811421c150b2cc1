use Rattle.std.proofs.Common.{◌-◌, suc}
use Rattle.wat_syntax.specs.Bodies.{expression}
use Rattle.wat_text.specs.Readers.{left}
use Rattle.wat_text.specs.Machine.{state_of, may_hint}
use Rattle.wat_text.proofs.Levels.{Whole}
use Rattle.wat_text.proofs.Kept.{Held}
use Rattle.wat_text.proofs.reader.Reader.instructions.Given as goal

abbrev pub invariant-loop : goal.invariant-loop
invariant-loop l = Held (may_hint l.purpose) Whole (expression (may_hint l.purpose) (left l.fn.self)) l.fn.self l.self
    (suc (l.end - l.counter)) l.end (state_of l.self l.body)
