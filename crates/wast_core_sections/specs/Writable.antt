-- The bytes of resolved fields, and when they can be written: every count, length and position in them is below 2^32,
-- and the bytes fit in a usize.
--
--   (data "x")                                       writable
--   a data segment of 2^32 bytes                     not writable
use Rattle.std.specs.Prelude.{◌≡◌, ℕ, ◌+◌, ◌<◌, ◌^◌, ◌++◌, List, length, Option, All}
use Rattle.std.specs.Global.{Vec}
use Rattle.std.specs.List.{flat_map}
use Rattle.wasm_out.specs.Parts.{part, InRangePart}
use Rattle.wasm_out.specs.Reads.{header}
use Rattle.wast_core_sections.specs.Tree.{ModuleField}
use Rattle.wast_core_sections.specs.Hints.{hinted_functions, InRangeHints}
use Rattle.wast_core_sections.specs.Sections.{in_slot, parts, subsections_of}
use Rattle.wast_core_sections.specs.Slots.{order}
use Rattle.wast_core_sections.specs.declared.slots.Slot.{Slot}
use Rattle.wast_core_sections.specs.declared.slots.Slot.TheVariants as slot
use Rattle.wasm_out.specs.NameSectionBytes.{name_subsection}
use Rattle.wast_core_conv.specs.Customs.{custom_bytes}
use Rattle.wast_tree_nodes.specs.Customs.{customs_at}

-- the bytes of a resolved list, of a module with this name
abbrev pub bytes_of : Option (List ℕ) → List ModuleField → List ℕ
bytes_of name fields = header ++ flat_map part (parts name fields)

-- the numbers, counts and lengths in the bytes of custom sections, of branch hints and of the name section are in range
abbrev pub InRangeHeld : Option (List ℕ) → List ModuleField → Slot → Type 0
InRangeHeld name fields (slot.Custom place) = All (λ x. (custom_bytes x).in_range) (customs_at place fields)
InRangeHeld name fields (slot.Section kind) = Unit {0}
InRangeHeld name fields slot.Start = Unit {0}
InRangeHeld name fields slot.DataCount = Unit {0}
InRangeHeld name fields slot.Hints = InRangeHints (hinted_functions fields)
InRangeHeld name fields slot.Names = All (λ x. (name_subsection x).in_range) (subsections_of name fields)

-- the numbers, counts and lengths in the parts of a place are in range, and those held there
abbrev pub InRangeSlot : Option (List ℕ) → List ModuleField → Slot → Type 0
InRangeSlot name fields s = All InRangePart (in_slot name fields s) × InRangeHeld name fields s

-- the numbers, counts and lengths in these bytes are in range
abbrev pub InRangeModule : Option (List ℕ) → List ModuleField → Type 0
InRangeModule name fields = All (InRangeSlot name fields) order

-- and so is how many bytes they are
pub record IsWritable (name : Option (List ℕ)) (fields : List ModuleField) : Type 0 where
  pub in_range : InRangeModule name fields
  pub length : length (bytes_of name fields) < 2 ^ 64

-- these bytes were written
abbrev pub IsWritten : Option (List ℕ) → List ModuleField → Vec ℕ → Type 0
IsWritten name fields v = (v.items ≡ bytes_of name fields) × InRangeModule name fields
