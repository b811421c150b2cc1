use Rattle.wasm_out.specs.Parts.{part, InRangePart}
use Rattle.wast_core_sections.specs.Sections.{starts_in}
use Rattle.wast_core_sections.proofs.Appended.{each_written}
use Rattle.wast_core_sections.proofs.entries.put_starts.Goals as goal

pub returns : goal.returns
returns g c = each_written g.S.Sink.rules InRangePart part starts_in c.args.fields.now c.args.out.now c.put_items.new.out c.put_items.result c.put_items.ensures
