-- What is read of a string, and what is left, of so many elements at most.
use Rattle.std.proofs.Common.{◌-◌}
use Rattle.wat_tokens.proofs.Elements.{Reading}
use Rattle.wat_tokens.proofs.strings.unescaped.Given as goal

abbrev pub invariant-loop : goal.invariant-loop
invariant-loop l = Reading l.content l.out.items l.rest (l.end - l.counter)
