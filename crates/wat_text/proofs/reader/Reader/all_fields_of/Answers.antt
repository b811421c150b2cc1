-- The goal of `all_fields_of` that tactics leave open, closed by lemmas of Steps.
use Rattle.std.proofs.Common.{rules}
use Rattle.wat_syntax.specs.Types.{goes_on}
use Rattle.wat_syntax.specs.ModuleFields.{modulefield}
use Rattle.wat_syntax.specs.BareFields.{bare_field}
use Rattle.wat_text.proofs.Steps.{one_built}
use Rattle.wat_text.proofs.reader.Reader.all_fields_of.Goals as goal

-- `search` does not find what is bare of the field, which computes to a variant
pub loop-preserved : goal.loop-preserved
loop-preserved c = one_built bare_field goes_on modulefield _ _ _ _ _ c.loop.counter c.left-end.result c.module_field-field.result _
    _ c.loop-test.true (search rules) c.module_field-field.ensures c.push_field.ensures c.loop.invariant
