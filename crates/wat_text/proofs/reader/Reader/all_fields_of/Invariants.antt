-- The loop of `all_fields_of`: the rule has the same result from all tokens as from the tokens that are left, with the parts so far.
use Rattle.std.proofs.Common.{◌-◌, map}
use Rattle.wat_syntax.specs.Tokens.{many, with_parts}
use Rattle.wat_syntax.specs.Types.{goes_on}
use Rattle.wat_syntax.specs.ModuleFields.{modulefield, modulefields}
use Rattle.wat_syntax.specs.BareFields.{bare_field}
use Rattle.wat_text.specs.Readers.{left}
use Rattle.wat_text.proofs.Steps.{Steps}
use Rattle.wat_text.proofs.reader.Reader.all_fields_of.Given as goal

abbrev pub invariant-loop : goal.invariant-loop
invariant-loop l = Steps l.fn.self l.self (with_parts (map bare_field l.fn.fields) (modulefields (left l.fn.self)))
    (with_parts (map bare_field l.fields) (many goes_on modulefield (l.end - l.counter) (left l.self)))
