use Rattle.std.proofs.Common.{ap, sym, ◌∙◌}
use Rattle.wast_base.specs.Filling.{one_if}
use Rattle.wast_core_sections.specs.Slots.{section_kind}
use Rattle.wast_core_sections.proofs.Putting.{entries_told}
use Rattle.wast_core_sections.proofs.entries.entries_of.Goals as goal

pub returns-then-puts : goal.returns-then-puts
returns-then-puts c = sym (entries_told (section_kind c.args.kind) c.args.field.now ∙ ap one_if (sym c.puts.ensures ∙ c.if-puts.true))

pub returns : goal.returns
returns c = sym (entries_told (section_kind c.args.kind) c.args.field.now ∙ ap one_if (sym c.puts.ensures ∙ c.if-puts.false))
