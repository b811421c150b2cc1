use Rattle.std.proofs.Common.{sym, subst, ◌∙◌, refl}
use Rattle.std.specs.Prelude.{IsTrue}
use Rattle.std.proofs.lemmas.Result.{err_from_is_err_and}
use Rattle.wast_core_name_section.specs.FoundNames.{text_seen}
use Rattle.wast_core_conv.proofs.Ready.{fields_ready}
use Rattle.wast_core_sections.specs.DataCounts.{may_be_counted}
use Rattle.wast_core_sections.proofs.DataAsked.{fields_ask}
use Rattle.wast_core_sections.proofs.EncodedFields.{fields_put, fields_refused}
use Rattle.wast_core_sections.proofs.fields.put_fields.Goals as goal

pub put_sections-requires-clause-encodable : goal.put_sections-requires-clause-encodable
put_sections-requires-clause-encodable g c = fields_ready c.args.fields.now c.requires (sym c.scan_for_encoding-seen.ensures.uncovered ∙ c.in-None.is)

pub put_sections-requires-clause-data : goal.put_sections-requires-clause-data
put_sections-requires-clause-data g c =
    let fields = c.args.fields.now in
    subst (λ b. IsTrue (may_be_counted fields b)) (sym c.scan_for_encoding-seen.ensures.data) (fields_ask fields)

pub returns-in_err-put_sections-in-None : goal.returns-in_err-put_sections-in-None
returns-in_err-put_sections-in-None g c =
    let p = err_from_is_err_and c.from_residual.result c.from_residual.ensures.1 in
    rw p.1
    (fields_refused g.S.Sink.rules c.args.out.now c.put_sections.new.out (text_seen c.args.name)
    (text_seen c.args.name) c.args.fields.now c.args.fields.now c.in_err-put_sections-in-None.field-0.0 p.0 refl refl
    (sym c.scan_for_encoding-seen.ensures.uncovered ∙ c.in-None.is) p.2 c.in_err-put_sections-in-None.ensures)

pub returns-in_ok-put_sections-in-None : goal.returns-in_ok-put_sections-in-None
returns-in_ok-put_sections-in-None g c =
    fields_put g.S.Sink.rules c.args.out.now c.put_sections.new.out (text_seen c.args.name)
    (text_seen c.args.name) c.args.fields.now c.args.fields.now refl refl (sym c.scan_for_encoding-seen.ensures.uncovered
    ∙ c.in-None.is) c.in_ok-put_sections-in-None.ensures
