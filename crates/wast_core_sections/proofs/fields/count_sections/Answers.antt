use Rattle.std.proofs.Common.{Err}
use Rattle.wast_core_name_section.specs.FoundNames.{text_seen}
use Rattle.wast_core_sections.proofs.CountedFirst.{refused_by_count}
use Rattle.wast_core_sections.proofs.fields.count_sections.Goals as goal

pub returns-in-Err : goal.returns-in-Err
returns-in-Err c =
    refused_by_count {A = Unit {0}} (text_seen c.args.name) c.args.fields.now c.new-length.result c.put_sections.new.out
    (Err c.in-Err.refusal) c.new-length.ensures c.in-Err.ensures
