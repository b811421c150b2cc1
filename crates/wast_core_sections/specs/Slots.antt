-- The order of the sections in a module, with the positions of custom sections between them (binary format: modules).
--
--   (@custom "c" (before start) "x")     comes after the custom sections after exports, and before the start section
use Rattle.std.specs.Prelude.{◌≡◌, ◌==◌, Bool, false, List, [], ◌∷◌, ◌++◌}
use Rattle.std.specs.List.{filter}
use Rattle.wasm_out.specs.Parts as parts
use Rattle.wast_tree_nodes.specs.Customs.{custom_place, place_rank}
use Rattle.wast_core_sections.specs.Tree.{Custom, CustomPlace, CustomPlaceAnchor}
use Rattle.wast_core_sections.specs.Tree.anchor
use Rattle.wast_core_sections.specs.Tree.custom_place as at
use Rattle.wast_core_sections.specs.declared.slots.SectionKind.{SectionKind}
use Rattle.wast_core_sections.specs.declared.slots.SectionKind.TheVariants as kind
use Rattle.wast_core_sections.specs.declared.slots.Slot.{Slot}
use Rattle.wast_core_sections.specs.declared.slots.Slot.TheVariants as slot

-- The kind, as the parts of a module name it.
abbrev pub section_kind : SectionKind → parts.SectionKind
section_kind kind.Types = parts.Types
section_kind kind.Imports = parts.Imports
section_kind kind.Functions = parts.Functions
section_kind kind.Tables = parts.Tables
section_kind kind.Memories = parts.Memories
section_kind kind.Tags = parts.Tags
section_kind kind.Globals = parts.Globals
section_kind kind.Exports = parts.Exports
section_kind kind.Elements = parts.Elements
section_kind kind.Code = parts.Code
section_kind kind.Data = parts.Data

-- A section, and the custom sections directly before and after it.
abbrev pub around : CustomPlaceAnchor → Slot → List Slot
around a s = slot.Custom (at.Before a) ∷ s ∷ slot.Custom (at.After a) ∷ []

-- The positions, in order.
abbrev pub order : List Slot
order =
    slot.Custom at.BeforeFirst
    ∷ (around anchor.Ty (slot.Section kind.Types)
    ++ (around anchor.Import (slot.Section kind.Imports)
    ++ (around anchor.Func (slot.Section kind.Functions)
    ++ (around anchor.Table (slot.Section kind.Tables)
    ++ (around anchor.Memory (slot.Section kind.Memories)
    ++ (around anchor.Tag (slot.Section kind.Tags)
    ++ (around anchor.Global (slot.Section kind.Globals)
    ++ (around anchor.Export (slot.Section kind.Exports)
    ++ (around anchor.Start slot.Start
    ++ (around anchor.Elem (slot.Section kind.Elements)
    ++ (slot.DataCount
    ∷ slot.Custom (at.Before anchor.Code) ∷ slot.Hints ∷ slot.Section kind.Code ∷ slot.Custom (at.After anchor.Code)
    ∷ (around anchor.Data (slot.Section kind.Data)
    ++ (slot.Custom at.AfterLast ∷ slot.Names ∷ [])))))))))))))

-- Whether it is this position of custom sections.
abbrev pub is_place : CustomPlace → Slot → Bool
is_place place (slot.Custom other) = place_rank other == place_rank place
is_place place s = false

-- Each custom section has one position in the order of sections.
abbrev pub CustomsStandOnce : Type 0
CustomsStandOnce = (c : Custom) → filter (is_place (custom_place c)) order ≡ slot.Custom (custom_place c) ∷ []
