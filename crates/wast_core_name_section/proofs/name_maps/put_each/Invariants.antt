use Rattle.std.proofs.Common.{◌≡◌, ◌+◌, length, Ok}
use Rattle.std.specs.Prelude.{take}
use Rattle.std.specs.List.{flat_map}
use Rattle.wast_core_name_section.specs.FoundNames.{saturated_count, WritesItems}
use Rattle.wast_core_name_section.proofs.name_maps.put_each.Given as goal

abbrev pub invariant-loop-part : goal.invariant-loop-part
invariant-loop-part g l = record {
  written : WritesItems g.S.Sink.rules g.W.NameItems.entry g.W.NameItems.in_range
      (flat_map (g.W.NameItems.items l.way) (take l.part-index l.parts)) l.first l.fn.out l.out (Ok l.position);
  next : l.position ≡ saturated_count (l.first + length (flat_map (g.W.NameItems.items l.way) (take l.part-index l.parts)));
  at : l.start ≡ g.S.Sink.rules.size_of l.fn.out;
}
