use Rattle.std.proofs.Common.{List, subst}
use Rattle.std.specs.Prelude.{All}
use Rattle.std.specs.List.{flat_map}
use Rattle.wasm_ops.specs.Sinks.{Writes}
use Rattle.wast_tree_nodes.specs.Customs.{customs_in}
use Rattle.wast_core_conv.specs.Customs.{InRangeCustom}
use Rattle.wast_core_sections.specs.Sections.{custom_section}
use Rattle.wast_core_sections.specs.Tree.{Custom}
use Rattle.wast_core_sections.proofs.Appended.{each_written}
use Rattle.wast_core_sections.proofs.customs.put_customs.Goals as goal

pub put_items-requires : goal.put_items-requires
put_items-requires g c = c.custom_fields.ensures.ready c.requires.ready

pub returns : goal.returns
returns g c =
    let rules = g.S.Sink.rules in
    let written = each_written rules InRangeCustom custom_section
    (customs_in c.args.place) c.custom_fields.result.now c.args.out.now c.put_items.new.out c.put_items.result c.put_items.ensures in
    subst (λ (cs : List Custom). Writes rules (All InRangeCustom cs) c.args.out.now c.put_items.new.out
    (flat_map custom_section cs) c.put_items.result) c.custom_fields.ensures.same written
