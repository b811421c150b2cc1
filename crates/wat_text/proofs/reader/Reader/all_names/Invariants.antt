-- The loop of `all_names`: the rule has the same result from all tokens as from the tokens that are left, with the parts so far.
use Rattle.std.proofs.Common.{◌-◌, map}
use Rattle.wat_syntax.specs.Tokens.{many, with_parts}
use Rattle.wat_syntax.specs.Types.{goes_on}
use Rattle.wat_syntax.specs.Values.{name}
use Rattle.wat_syntax.specs.Customs.{names}
use Rattle.wat_syntax.specs.Bare.{bare_text}
use Rattle.wat_text.specs.Readers.{left}
use Rattle.wat_text.proofs.Steps.{Steps}
use Rattle.wat_text.proofs.reader.Reader.all_names.Given as goal

abbrev pub invariant-loop : goal.invariant-loop
invariant-loop l = Steps l.fn.self l.self (with_parts (map bare_text l.fn.names) (names (left l.fn.self)))
    (with_parts (map bare_text l.names) (many goes_on name (l.end - l.counter) (left l.self)))
