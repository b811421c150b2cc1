-- The loop of `skip_strings`: the tokens after the strings are those after the strings that are left.
use Rattle.std.proofs.Common.{◌-◌}
use Rattle.wast_script.proofs.Loops.{Strings}
use Rattle.wast_script.proofs.reader.Reader.skip_strings.Given as goal

abbrev pub invariant-loop : goal.invariant-loop
invariant-loop l = Strings l.fn.self l.self (l.end - l.counter)
