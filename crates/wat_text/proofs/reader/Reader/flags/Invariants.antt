-- The loop of `flags`: the rule has the same result from all tokens as from the tokens that are left, with the bits so far.
use Rattle.std.proofs.Common.{◌-◌}
use Rattle.wat_syntax.specs.Tokens.{many}
use Rattle.wat_syntax.specs.Types.{goes_on}
use Rattle.wat_syntax.specs.Customs.{flag, flags}
use Rattle.wat_text.specs.Readers.{left}
use Rattle.wat_text.proofs.Steps.{Steps}
use Rattle.wat_text.proofs.Flags.{with_bits}
use Rattle.wat_text.proofs.reader.Reader.flags.Given as goal

abbrev pub invariant-loop : goal.invariant-loop
invariant-loop l = Steps l.fn.self l.self (flags (left l.fn.self)) (with_bits l.flags (many goes_on flag (l.end - l.counter) (left l.self)))
