-- What holds while digits are read: the number of the digits so far.
use Rattle.std.proofs.Common.{take}
use Rattle.wat_tokens.proofs.ShortNumbers.{Digits}
use Rattle.wat_tokens.proofs.integers.short.Given as goal

abbrev pub invariant-loop-byte : goal.invariant-loop-byte
invariant-loop-byte l = Digits l.value (take l.byte-index l.text)
