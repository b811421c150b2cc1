use Rattle.std.proofs.Common.{Ok, Err, ap, ◌∙◌}
use Rattle.wast_core_name_section.specs.FoundNames.{text_seen}
use Rattle.wast_core_sections.proofs.Capping.{whole_or_refused}
use Rattle.wast_core_sections.proofs.fields.write_short.Goals as goal

pub returns-in-Ok-clause-bytes : goal.returns-in-Ok-clause-bytes
returns-in-Ok-clause-bytes c =
    let whole = whole_or_refused {A = Unit {0}} (λ s. s.bytes.items) c.new-out.result c.put_sections.new.out
    (text_seen c.args.name) c.args.fields.now (Ok tt) c.new-out.ensures c.in-Ok.ensures in
    (ap (λ v. v.items) c.finish.ensures ∙ whole.0.0, whole.0.1)

pub returns-else-is_full-clause-refusal : goal.returns-else-is_full-clause-refusal
returns-else-is_full-clause-refusal c =
    (whole_or_refused {A = Unit {0}} (λ s. s.bytes.items) c.new-out.result c.put_sections.new.out (text_seen c.args.name) c.args.fields.now
    (Err c.in-Err.refusal) c.new-out.ensures c.in-Err.ensures).1
