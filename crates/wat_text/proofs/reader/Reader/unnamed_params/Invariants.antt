-- The loop of `unnamed_params`: the rule has the same result from all tokens as from the tokens that are left, with the parts so
-- far.
use Rattle.std.proofs.Common.{◌-◌, map}
use Rattle.wat_syntax.specs.Tokens.{many, with_parts}
use Rattle.wat_syntax.specs.Types.{goes_on, unnamed_param, unnamed_params}
use Rattle.wat_syntax.specs.Bare.{bare_param}
use Rattle.wat_text.specs.Readers.{left}
use Rattle.wat_text.proofs.Steps.{Steps}
use Rattle.wat_text.proofs.reader.Reader.unnamed_params.Given as goal

abbrev pub invariant-loop : goal.invariant-loop
invariant-loop l = Steps l.fn.self l.self (with_parts (map bare_param l.fn.params) (unnamed_params (left l.fn.self)))
    (with_parts (map bare_param l.params) (many goes_on unnamed_param (l.end - l.counter) (left l.self)))
