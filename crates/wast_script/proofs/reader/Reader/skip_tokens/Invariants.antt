-- The loop of `skip_tokens`: the rest of the form is that of the tokens that are left, in which so many parentheses are open.
use Rattle.std.proofs.Common.{◌+◌, ◌-◌, ◌≤◌}
use Rattle.wast_script.proofs.Loops.{Skipping}
use Rattle.wast_script.proofs.reader.Reader.skip_tokens.Given as goal

abbrev pub invariant-loop : goal.invariant-loop
invariant-loop l = Skipping l.fn.self l.self (l.end - l.counter) l.depth × (l.depth ≤ l.counter + 1)
