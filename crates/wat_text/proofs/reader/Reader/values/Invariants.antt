-- The loop of `values`: the rule has the same result from all tokens as from the tokens that are left, with the parts so far.
use Rattle.std.proofs.Common.{◌-◌}
use Rattle.wat_syntax.specs.Tokens.{many, with_parts}
use Rattle.wat_syntax.specs.Types.{goes_on, valtype, valtypes}
use Rattle.wat_syntax.specs.Bare.{bare_vals}
use Rattle.wat_text.specs.Readers.{left}
use Rattle.wat_text.proofs.Steps.{Steps}
use Rattle.wat_text.proofs.reader.Reader.values.Given as goal

abbrev pub invariant-loop : goal.invariant-loop
invariant-loop l = Steps l.fn.self l.self (with_parts (bare_vals l.fn.values) (valtypes (left l.fn.self)))
    (with_parts (bare_vals l.values) (many goes_on valtype (l.end - l.counter) (left l.self)))
