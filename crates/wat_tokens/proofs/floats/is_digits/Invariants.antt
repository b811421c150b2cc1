-- What holds while digits are read: the rest says whether the whole text is digits.
use Rattle.std.proofs.Common.{◌≡◌, drop}
use Rattle.wat_tokens.specs.Numbers.{digit_in}
use Rattle.wat_tokens.specs.Fractions.{is_digits, is_digits_after}
use Rattle.wat_tokens.proofs.floats.is_digits.Given as goal

abbrev pub invariant-loop-byte : goal.invariant-loop-byte
invariant-loop-byte l = is_digits l.is_hex l.text ≡ is_digits_after (digit_in l.is_hex) l.after_digit (drop l.byte-index l.text)
