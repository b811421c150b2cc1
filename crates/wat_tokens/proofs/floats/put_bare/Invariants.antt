-- What holds while a text is copied: its front is there.
use Rattle.std.proofs.Common.{◌≡◌, take, ◌++◌}
use Rattle.wat_tokens.specs.Fractions.{bare}
use Rattle.wat_tokens.proofs.floats.put_bare.Given as goal

abbrev pub invariant-loop-byte : goal.invariant-loop-byte
invariant-loop-byte l = l.plain.items ≡ l.initial.plain.items ++ bare (take l.byte-index l.text)
