-- The parts of a module before its name section, and changes of a module that do not affect them (binary format:
-- modules).
--
-- The name section comes last. So renaming ids changes the end of the bytes alone.
--
--   (module (func $f)) and (module (func $g))      the same bytes up to the name section
use Rattle.std.specs.Prelude.{◌≡◌, ℕ, ◌<◌, Bool, true, false, List, ◌++◌, Option, None}
use Rattle.std.specs.List.{flat_map, filter}
use Rattle.wasm_out.specs.Parts.{Part, part}
use Rattle.wasm_out.specs.Reads.{header, Reads}
use Rattle.wast_base.specs.Blocks.{Blocks}
use Rattle.wast_tree_nodes.specs.Generations.{greatest_generation}
use Rattle.wast_tree_nodes.specs.Sites.{Where, OfBlock, Locals}
use Rattle.wast_tree_map.specs.Mapped.{Change}
use Rattle.wast_tree_map.specs.Laws.{all_mapped}
use Rattle.wast_expand_inline.specs.Written.{desugared_from}
use Rattle.wast_resolve_rules.specs.Explicit.{by_positions}
use Rattle.wast_resolve_rules.specs.Resolved.{resolved_fields}
use Rattle.wast_resolve_laws.specs.Renaming.{Renaming, IsRenaming, renamed_fields}
use Rattle.wast_core.specs.Tree.{Index, Space, TypeUse, FunctionType, ModuleField}
use Rattle.wast_core_sections.specs.declared.slots.Slot.{Slot}
use Rattle.wast_core_sections.specs.declared.slots.Slot.TheVariants as slot
use Rattle.wast_core_sections.specs.Slots.{order}
use Rattle.wast_core_conv.specs.Values.{index_value, type_index, use_as_block}
use Rattle.wast_core.specs.Headline.{IsMet}
use Rattle.wast_core_sections.specs.Sections.{in_slot}
use Rattle.wast_core.specs.Meaning.{meaning}

-- Whether it is any position but that of the name section.
abbrev pub is_front : Slot → Bool
is_front slot.Names = false
is_front s = true

-- The parts before the name section. None of them depends on the name of the module.
abbrev pub parts_before_names : List ModuleField → List Part
parts_before_names fields = flat_map (in_slot None fields) (filter is_front order)

-- The parts before the name section of what a text module means.
abbrev pub meant_front : List ModuleField → List Part
meant_front fields = parts_before_names (resolved_fields (by_positions fields))

-- A change of a module that keeps the number of each index and the type of each type use.
pub record KeepsNumbers (f : Change) : Type 0 where
  pub index : (s : Space) (i : Index) → index_value (f.index s i) ≡ index_value i
  pub local : (l : Locals) (i : Index) → index_value (f.local l i) ≡ index_value i
  pub member : (owner i : Index) → index_value (f.field owner i) ≡ index_value i
  pub label : (blocks : Blocks) (i : Index) → index_value (f.label blocks i) ≡ index_value i
  pub used : (w : Where) (u : TypeUse FunctionType) → type_index (f.used w u) ≡ type_index u
  pub block : (u : TypeUse FunctionType) → use_as_block (f.used OfBlock u).index (f.used OfBlock u).inline ≡ use_as_block u.index u.inline

-- Such a change keeps the parts before the name section.
abbrev pub FrontStays : Type 0
FrontStays = (f : Change) → KeepsNumbers f → (fields : List ModuleField) → parts_before_names (all_mapped f fields) ≡ parts_before_names fields

-- Renaming keeps the parts before the name section.
abbrev pub RenamedParts : Type 0
RenamedParts = (r : Renaming) → IsRenaming r → (fields : List ModuleField) → meant_front (renamed_fields r fields) ≡ meant_front fields

-- So does desugaring from a counter, with generated ids or with other names for them.
abbrev pub WrittenMeans : Type 0
WrittenMeans = (r : Renaming) → IsRenaming r → (n : ℕ) (fields : List ModuleField) → greatest_generation fields < n → IsMet fields
    → (meant_front (desugared_from n fields) ≡ meant_front fields) × (meant_front (renamed_fields r (desugared_from n fields)) ≡ meant_front fields)

-- The bytes before the name section, and those of the name section.
abbrev pub front_bytes : List ModuleField → List ℕ
front_bytes fields = header ++ flat_map part (meant_front fields)

abbrev pub names_bytes : Option (List ℕ) → List ModuleField → List ℕ
names_bytes name fields = flat_map part (in_slot name (resolved_fields (by_positions fields)) slot.Names)

-- Bytes that are read as the meanings of two lists of fields begin the same. Then each has the bytes of its own name
-- section, or nothing.
abbrev pub BeginAlike : (fields others : List ModuleField) → Type 0
BeginAlike fields others = (name other : Option (List ℕ)) (b c : List ℕ) → Reads b (meaning name fields) → Reads c (meaning other others)
    → (b ≡ front_bytes fields ++ names_bytes name fields) × (c ≡ front_bytes fields ++ names_bytes other others)

-- The bytes of a renamed module begin the same.
abbrev pub SameFront : Type 0
SameFront = (r : Renaming) → IsRenaming r → (fields : List ModuleField) → BeginAlike fields (renamed_fields r fields)

-- So do the bytes of what desugaring returns, with generated ids or with other names for them.
abbrev pub WrittenFront : Type 0
WrittenFront = (r : Renaming) → IsRenaming r → (n : ℕ) (fields : List ModuleField) → greatest_generation fields < n → IsMet fields
    → BeginAlike fields (desugared_from n fields) × BeginAlike fields (renamed_fields r (desugared_from n fields))
