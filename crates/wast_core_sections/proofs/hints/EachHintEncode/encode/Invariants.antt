use Rattle.std.proofs.Common.{◌≡◌, ◌+◌, length, Ok}
use Rattle.std.specs.Prelude.{take}
use Rattle.std.specs.List.{flat_map}
use Rattle.wast_core_name_section.specs.FoundNames.{saturated_count, WritesItems}
use Rattle.wast_core_sections.specs.Hints.{hinted_function, InRangeHinted}
use Rattle.wast_core_sections.proofs.hints.EachHintEncode.encode.Given as goal

abbrev pub invariant-loop-field : goal.invariant-loop-field
invariant-loop-field g l = record {
  written : WritesItems g.S.Sink.rules hinted_function InRangeHinted
      (flat_map g.F.PutHints.functions (take l.field-index l.field-items)) 0 l.fn.out l.out (Ok l.index);
  next : l.index ≡ saturated_count (0 + length (flat_map g.F.PutHints.functions (take l.field-index l.field-items)));
  at : l.start ≡ g.S.Sink.rules.size_of l.fn.out;
}
