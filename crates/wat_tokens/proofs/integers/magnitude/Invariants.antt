-- What holds while digits are read: the number of the characters so far.
use Rattle.std.proofs.Common.{take}
use Rattle.wat_tokens.specs.Numbers.{digit_in, radix_of}
use Rattle.wat_tokens.proofs.Backwards.{Reads}
use Rattle.wat_tokens.proofs.integers.magnitude.Given as goal

abbrev pub invariant-loop-byte : goal.invariant-loop-byte
invariant-loop-byte l = Reads (digit_in l.is_hex) (radix_of l.is_hex) l.value l.after_digit (take l.byte-index l.digits)
