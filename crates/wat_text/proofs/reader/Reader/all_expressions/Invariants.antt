-- The loop of `all_expressions`: the rule has the same result from all tokens as from the tokens that are left, with the parts so far.
use Rattle.std.proofs.Common.{◌-◌, map}
use Rattle.wat_syntax.specs.Tokens.{many, with_parts}
use Rattle.wat_syntax.specs.Types.{goes_on}
use Rattle.wat_syntax.specs.Segments.{elemexpr, elemexprs}
use Rattle.wat_syntax.specs.BareInstructions.{bare_expression}
use Rattle.wat_text.specs.Readers.{left}
use Rattle.wat_text.proofs.Steps.{Steps}
use Rattle.wat_text.proofs.reader.Reader.all_expressions.Given as goal

abbrev pub invariant-loop : goal.invariant-loop
invariant-loop l = Steps l.fn.self l.self (with_parts (map bare_expression l.fn.exprs) (elemexprs (left l.fn.self)))
    (with_parts (map bare_expression l.exprs) (many goes_on elemexpr (l.end - l.counter) (left l.self)))
