-- The loop of `all_subsections`: the rule has the same result from all tokens as from the tokens that are left, with the parts so
-- far.
use Rattle.std.proofs.Common.{◌-◌, map}
use Rattle.wat_syntax.specs.Tokens.{many, with_parts}
use Rattle.wat_syntax.specs.Types.{goes_on}
use Rattle.wat_syntax.specs.Customs.{subsection_form, subsections}
use Rattle.wat_syntax.specs.BareFields.{bare_subsection}
use Rattle.wat_text.specs.Readers.{left}
use Rattle.wat_text.proofs.Steps.{Steps}
use Rattle.wat_text.proofs.reader.Reader.all_subsections.Given as goal

abbrev pub invariant-loop : goal.invariant-loop
invariant-loop l = Steps l.fn.self l.self (with_parts (map bare_subsection l.fn.found) (subsections (left l.fn.self)))
    (with_parts (map bare_subsection l.found) (many goes_on subsection_form (l.end - l.counter) (left l.self)))
