-- The loop of `all_pieces`: the rule has the same result from all tokens as from the tokens that are left, with the parts so far.
use Rattle.std.proofs.Common.{◌-◌, map}
use Rattle.wat_syntax.specs.Tokens.{many, with_parts}
use Rattle.wat_syntax.specs.Types.{goes_on}
use Rattle.wat_syntax.specs.Values.{string}
use Rattle.wat_syntax.specs.Customs.{strings}
use Rattle.wat_syntax.specs.Bare.{bare_text}
use Rattle.wat_text.specs.Readers.{left}
use Rattle.wat_text.proofs.Steps.{Steps}
use Rattle.wat_text.proofs.reader.Reader.all_pieces.Given as goal

abbrev pub invariant-loop : goal.invariant-loop
invariant-loop l = Steps l.fn.self l.self (with_parts (map bare_text l.fn.pieces) (strings (left l.fn.self)))
    (with_parts (map bare_text l.pieces) (many goes_on string (l.end - l.counter) (left l.self)))
