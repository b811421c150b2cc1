-- The loop of `all_data`: the rule has the same result from all tokens as from the tokens that are left, with the parts so far.
use Rattle.std.proofs.Common.{◌-◌, map}
use Rattle.wat_syntax.specs.Tokens.{many, with_parts}
use Rattle.wat_syntax.specs.Types.{goes_on}
use Rattle.wat_syntax.specs.Segments.{datavalue, datastring}
use Rattle.wat_syntax.specs.BareFields.{bare_data_val}
use Rattle.wat_text.specs.Readers.{left}
use Rattle.wat_text.proofs.Steps.{Steps}
use Rattle.wat_text.proofs.reader.Reader.all_data.Given as goal

abbrev pub invariant-loop : goal.invariant-loop
invariant-loop l = Steps l.fn.self l.self (with_parts (map bare_data_val l.fn.pieces) (datastring (left l.fn.self)))
    (with_parts (map bare_data_val l.pieces) (many goes_on datavalue (l.end - l.counter) (left l.self)))
