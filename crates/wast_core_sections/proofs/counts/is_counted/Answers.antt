use Rattle.std.proofs.Common.{sym, ◌∙◌}
use Rattle.wast_core_sections.proofs.Counting.{none_needs}
use Rattle.wast_core_sections.proofs.counts.is_counted.Goals as goal

pub returns-then-not-has_data_index : goal.returns-then-not-has_data_index
returns-then-not-has_data_index c = sym (none_needs c.args.fields.now c.args.has_data_index c.if-not-has_data_index.true c.requires.«data»)

pub returns : goal.returns
returns c = c.needs_count.ensures ∙ c.functions.ensures
