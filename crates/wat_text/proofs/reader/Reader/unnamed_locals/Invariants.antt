-- The loop of `unnamed_locals`: the rule has the same result from all tokens as from the tokens that are left, with the parts so
-- far.
use Rattle.std.proofs.Common.{◌-◌, map}
use Rattle.wat_syntax.specs.Tokens.{many, with_parts}
use Rattle.wat_syntax.specs.Types.{goes_on}
use Rattle.wat_syntax.specs.Modules.{unnamed_local, unnamed_locals}
use Rattle.wat_syntax.specs.BareFields.{bare_local}
use Rattle.wat_text.specs.Readers.{left}
use Rattle.wat_text.proofs.Steps.{Steps}
use Rattle.wat_text.proofs.reader.Reader.unnamed_locals.Given as goal

abbrev pub invariant-loop : goal.invariant-loop
invariant-loop l = Steps l.fn.self l.self (with_parts (map bare_local l.fn.locals) (unnamed_locals (left l.fn.self)))
    (with_parts (map bare_local l.locals) (many goes_on unnamed_local (l.end - l.counter) (left l.self)))
