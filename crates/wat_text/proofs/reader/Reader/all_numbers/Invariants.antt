-- The loop of `all_numbers`: the rule has the same result from all tokens as from the tokens that are left, with the parts so far.
use Rattle.std.proofs.Common.{◌-◌}
use Rattle.wat_syntax.specs.Tokens.{many_lists, with_parts}
use Rattle.wat_syntax.specs.Types.{goes_on}
use Rattle.wat_syntax.specs.Segments.{data_number, data_numbers}
use Rattle.wat_text.specs.Readers.{left}
use Rattle.wat_text.proofs.Steps.{Steps}
use Rattle.wat_text.proofs.reader.Reader.all_numbers.Given as goal

abbrev pub invariant-loop : goal.invariant-loop
invariant-loop l = Steps l.fn.self l.self (with_parts l.fn.out.items (data_numbers l.fn.key (left l.fn.self)))
    (with_parts l.out.items (many_lists goes_on (data_number l.fn.key) (l.end - l.counter) (left l.self)))
