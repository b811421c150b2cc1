use Rattle.std.proofs.Common.{sym, subst, ◌∙◌}
use Rattle.std.specs.Prelude.{IsTrue}
use Rattle.wast_core_name_section.specs.FoundNames.{text_seen}
use Rattle.wast_core_conv.proofs.Ready.{fields_ready}
use Rattle.wast_core_sections.specs.DataCounts.{may_be_counted}
use Rattle.wast_core_sections.proofs.DataAsked.{fields_ask}
use Rattle.wast_core_sections.proofs.EncodedFields.{fields_encoded}
use Rattle.wast_core_sections.proofs.fields.encode_covered.Goals as goal

pub encode_fields-requires-clause-encodable : goal.encode_fields-requires-clause-encodable
encode_fields-requires-clause-encodable c = fields_ready c.args.fields.now c.requires (sym c.scan_for_encoding-seen.ensures.uncovered ∙ c.in-None.is)

pub encode_fields-requires-clause-data : goal.encode_fields-requires-clause-data
encode_fields-requires-clause-data c =
    let fields = c.args.fields.now in
    subst (λ b. IsTrue (may_be_counted fields b)) (sym c.scan_for_encoding-seen.ensures.data) (fields_ask fields)

pub returns-in-None : goal.returns-in-None
returns-in-None c =
    let none = sym c.scan_for_encoding-seen.ensures.uncovered ∙ c.in-None.is in
    fields_encoded (text_seen c.args.name) c.args.fields.now c.encode_fields.result none c.encode_fields.ensures.bytes c.encode_fields.ensures.refusal
