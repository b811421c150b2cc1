-- The loop of `rec_types`: the rule has the same result from all tokens as from the tokens that are left, with the parts so far.
use Rattle.std.proofs.Common.{◌-◌, map}
use Rattle.wat_syntax.specs.Tokens.{many, with_parts}
use Rattle.wat_syntax.specs.Types.{goes_on, typedef_form, typedefs}
use Rattle.wat_syntax.specs.Bare.{bare_type}
use Rattle.wat_text.specs.Readers.{left}
use Rattle.wat_text.proofs.Steps.{Steps}
use Rattle.wat_text.proofs.reader.Reader.rec_types.Given as goal

abbrev pub invariant-loop : goal.invariant-loop
invariant-loop l = Steps l.fn.self l.self (with_parts (map bare_type l.fn.types) (typedefs (left l.fn.self)))
    (with_parts (map bare_type l.types) (many goes_on typedef_form (l.end - l.counter) (left l.self)))
