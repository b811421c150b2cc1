-- The goal of `all_subsections` that tactics leave open, closed by lemmas of Steps.
use Rattle.std.proofs.Common.{rules}
use Rattle.wat_syntax.specs.Types.{goes_on}
use Rattle.wat_syntax.specs.Customs.{subsection_form}
use Rattle.wat_syntax.specs.BareFields.{bare_subsection}
use Rattle.wat_text.proofs.Steps.{one_built}
use Rattle.wat_text.proofs.reader.Reader.all_subsections.Goals as goal

-- `search` does not find what is bare of the subsection, which computes to a variant
pub loop-preserved : goal.loop-preserved
loop-preserved c = one_built bare_subsection goes_on subsection_form _ _ _ _ _ c.loop.counter c.left-end.result c.subsection_form-subsection.result
    _ _ c.loop-test.true (search rules) c.subsection_form-subsection.ensures c.push_subsection.ensures c.loop.invariant
