use Rattle.std.proofs.Common.{subst}
use Rattle.wast_core_name_section.specs.FoundNames.{text_seen}
use Rattle.wast_core_sections.specs.Encoding.{PutsFields}
use Rattle.wast_core.proofs.encode.EncodeOptions.put_module.Goals as goal

pub returns : goal.returns
returns g c =
    rw c.in-Text.is
    (subst (λ n. PutsFields g.S.Sink.rules n c.in-Text.fields c.args.out.now c.put_fields.new.out c.put_fields.result) c.given_name-name.ensures
    (subst (λ fs. PutsFields g.S.Sink.rules (text_seen c.given_name-name.result) fs c.args.out.now c.put_fields.new.out c.put_fields.result)
    c.as_slice.ensures c.put_fields.ensures))
