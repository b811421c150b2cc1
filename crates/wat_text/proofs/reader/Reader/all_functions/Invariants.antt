-- The loop of `all_functions`: the rule has the same result from all tokens as from the tokens that are left, with the parts so far.
use Rattle.std.proofs.Common.{◌-◌}
use Rattle.wat_syntax.specs.Tokens.{many, with_parts}
use Rattle.wat_syntax.specs.Values.{index}
use Rattle.wat_syntax.specs.Types.{goes_on}
use Rattle.wat_syntax.specs.Segments.{funcindices}
use Rattle.wat_syntax.specs.Bare.{bare_indices}
use Rattle.wat_text.specs.Readers.{left}
use Rattle.wat_text.proofs.Steps.{Steps}
use Rattle.wat_text.proofs.reader.Reader.all_functions.Given as goal

abbrev pub invariant-loop : goal.invariant-loop
invariant-loop l = Steps l.fn.self l.self (with_parts (bare_indices l.fn.indices) (funcindices (left l.fn.self)))
    (with_parts (bare_indices l.indices) (many goes_on index (l.end - l.counter) (left l.self)))
