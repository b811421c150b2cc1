use Rattle.wast_tree_nodes.specs.Customs.{customs_at}
use Rattle.wast_core_sections.proofs.CustomParts.{parts_written}
use Rattle.wast_core_sections.proofs.sections.put_slot.Goals as goal

pub returns-in-Custom : goal.returns-in-Custom
returns-in-Custom g c =
    rw c.in-Custom.is (parts_written g.S.Sink.rules
    (customs_at c.in-Custom.place c.args.fields.now) c.args.out.now c.put_customs.new.out c.put_customs.result c.put_customs.ensures)
