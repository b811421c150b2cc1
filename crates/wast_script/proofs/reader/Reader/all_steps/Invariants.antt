-- The loop of `all_steps`: all commands are those that are read, and those of the tokens that are left.
use Rattle.std.proofs.Common.{◌-◌, ◌≤◌}
use Rattle.wast_script.proofs.Commanding.{Running}
use Rattle.wast_script.proofs.reader.Reader.all_steps.Given as goal

abbrev pub invariant-loop : goal.invariant-loop
invariant-loop l = Running l.fn.self l.self (l.end - l.counter) l.threads × (l.threads ≤ l.counter)
