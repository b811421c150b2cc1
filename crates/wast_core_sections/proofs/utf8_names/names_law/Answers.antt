use Rattle.std.proofs.Common.{subst}
use Rattle.std.specs.Prelude.{All}
use Rattle.std.proofs.lemmas.List.{take_all}
use Rattle.std.proofs.lemmas.List.Elements.{All-more}
use Rattle.wast_core_sections.specs.Utf8Names.{HasUtf8Names}
use Rattle.wast_core_sections.proofs.utf8_names.names_law.Goals as goal

pub loop-field-preserved : goal.loop-field-preserved
loop-field-preserved c = All-more HasUtf8Names c.args.fields.now c.loop-field.field-index c.field-item.result c.loop-field-test.true
    c.loop-field.invariant (subst HasUtf8Names c.field-item.is c.field_law.ensures)

pub returns : goal.returns
returns c = subst (All HasUtf8Names) (take_all c.loop-field.field-index c.args.fields.now c.loop-field-test.false) c.loop-field.invariant
