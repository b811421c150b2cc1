-- What holds while digits are read: the first digits of those so far are kept.
use Rattle.wat_tokens.proofs.Kept.{Reading}
use Rattle.wat_tokens.proofs.floats.read.Given as goal

abbrev pub invariant-loop-byte : goal.invariant-loop-byte
invariant-loop-byte l = Reading l.fn.start l.leading l.byte-index l.text
