-- The loop of `push_times`: the number is appended as many times as rounds are over.
use Rattle.std.proofs.Common.{◌≡◌, ◌++◌, replicate}
use Rattle.wat_tokens.proofs.strings.push_times.Given as goal

abbrev pub invariant-loop : goal.invariant-loop
invariant-loop l = l.numbers.items ≡ l.fn.numbers.items ++ replicate l.counter l.fn.number
