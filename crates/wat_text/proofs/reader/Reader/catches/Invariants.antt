-- The loop of `catches`: the rule has the same result from all tokens as from the tokens that are left, with the parts so far.
use Rattle.std.proofs.Common.{◌-◌, map}
use Rattle.wat_syntax.specs.Tokens.{many, with_parts}
use Rattle.wat_syntax.specs.Instructions.{is_catch, catch, catches}
use Rattle.wat_syntax.specs.BareInstructions.{bare_catch}
use Rattle.wat_text.specs.Readers.{left}
use Rattle.wat_text.proofs.Steps.{Steps}
use Rattle.wat_text.proofs.reader.Reader.catches.Given as goal

abbrev pub invariant-loop : goal.invariant-loop
invariant-loop l = Steps l.fn.self l.self (with_parts (map bare_catch l.fn.catches) (catches (left l.fn.self)))
    (with_parts (map bare_catch l.catches) (many is_catch catch (l.end - l.counter) (left l.self)))
