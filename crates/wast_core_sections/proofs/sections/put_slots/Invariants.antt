use Rattle.std.proofs.Common.{◌≡◌, take}
use Rattle.std.specs.List.{All, flat_map}
use Rattle.wasm_out.specs.Parts.{part}
use Rattle.wast_core_sections.specs.Writable.{InRangeSlot}
use Rattle.wast_core_sections.specs.Sections.{in_slot}
use Rattle.wast_core_name_section.specs.FoundNames.{text_seen}
use Rattle.wast_core_sections.proofs.sections.put_slots.Given as goal

abbrev pub invariant-loop-slot : goal.invariant-loop-slot
invariant-loop-slot g l = record {
  told : g.S.Sink.rules.appended l.fn.out l.out (flat_map (λ s. flat_map part (in_slot (text_seen l.name) l.fields s)) (take l.slot-index l.slots));
  fitting : All (λ s. InRangeSlot (text_seen l.name) l.fields s) (take l.slot-index l.slots);
  at : l.start ≡ g.S.Sink.rules.size_of l.fn.out;
}
