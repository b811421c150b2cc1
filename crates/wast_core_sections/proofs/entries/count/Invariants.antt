use Rattle.std.proofs.Common.{◌≡◌, length, take}
use Rattle.std.specs.List.{flat_map}
use Rattle.wast_core_sections.specs.Sections.{entries_in}
use Rattle.wast_core_sections.specs.Slots.{section_kind}
use Rattle.wast_core_sections.proofs.entries.count.Given as goal

abbrev pub invariant-loop-field : goal.invariant-loop-field
invariant-loop-field l = l.sum ≡ length (flat_map (entries_in (section_kind l.kind)) (take l.field-index l.fields))
