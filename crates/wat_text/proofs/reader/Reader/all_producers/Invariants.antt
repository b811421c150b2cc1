-- The loop of `all_producers`: the values so far are in the lists of their fields, and the rule reads the others from the tokens
-- that are left.
use Rattle.std.proofs.Common.{◌-◌}
use Rattle.wat_text.proofs.Producing.{Gathers}
use Rattle.wat_text.proofs.reader.Reader.all_producers.Given as goal

abbrev pub invariant-loop : goal.invariant-loop
invariant-loop l = Gathers l.fn.self l.self l.fn.made l.made (l.end - l.counter)
