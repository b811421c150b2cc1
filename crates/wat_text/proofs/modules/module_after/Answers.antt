-- The goals of `module_after`, closed by a lemma of Opened.
use Rattle.std.proofs.Common.{◌∙◌, ap}
use Rattle.wat_text.specs.Contents.{in_rule}
use Rattle.wat_text.specs.Denotes.{Fields, Binary, Quotes, bare_opening}
use Rattle.wat_text.proofs.Opened.{means_as, fields_as}
use Rattle.wat_text.proofs.modules.module_after.Goals as goal

pub returns-in-Fields : goal.returns-in-Fields
returns-in-Fields c = means_as c.args.source.now Fields (bare_opening c.args.head) c.args.reader c.key.result
    c.module_of_fields.result c.key.ensures (c.contents_by.ensures ∙ ap in_rule c.in-Fields.is)
    (fields_as c.args.source.now c.args.head c.module_place.result c.args.reader c.module_of_fields.result c.module_place.ensures c.module_of_fields.ensures)

pub returns-in-Binary : goal.returns-in-Binary
returns-in-Binary c = means_as c.args.source.now Binary (bare_opening c.args.head) c.args.reader c.key.result c.binary_module.result c.key.ensures
    (c.contents_by.ensures ∙ ap in_rule c.in-Binary.is) c.binary_module.ensures

pub returns-in-Quotes : goal.returns-in-Quotes
returns-in-Quotes c = means_as c.args.source.now Quotes (bare_opening c.args.head) c.args.reader c.key.result c.quoted_module.result c.key.ensures
    (c.contents_by.ensures ∙ ap in_rule c.in-Quotes.is) c.quoted_module.ensures
