-- What fields add to each section, and the parts of a binary module at each position (binary format: modules).
--
-- The fields are resolved. For example, `(func (type 0))` adds the number 0 to the function section, and an empty body to
-- the code section.
use Rattle.std.specs.Prelude.{ℕ, Bool, List, [], ◌∷◌, map, length, codes, Option, if◌then◌else◌}
use Rattle.std.specs.List.{flat_map, list_any}
use Rattle.wast_core_sections.specs.Tree.{Custom, ModuleField}
use Rattle.wast_core_sections.specs.Tree.field
use Rattle.wasm_ops.specs.declared.entities.MemoryType.{MemoryType}
use Rattle.wasm_ops.specs.declared.entities.TagType.{TagType}
use Rattle.wasm_out.specs.Bodies.{Body}
use Rattle.wasm_out.specs.DataSegments.{DataEntry}
use Rattle.wasm_out.specs.ElementSegments.{ElementEntry}
use Rattle.wasm_out.specs.Parts.{SectionKind, Types, Imports, Functions, Tables, Memories, Tags, Globals, Exports, Elements, Code, Data, Entry, TypeEntry, Single, ImportEntry, TableEntry, GlobalEntry, ExportEntry, Start, Listed, Part, part}
use Rattle.wast_tree_nodes.specs.Customs.{customs_at, is_custom_called}
use Rattle.wast_core_conv.specs.Customs.{custom_part}
use Rattle.wasm_out.specs.NameSectionBytes.{NameSubsection}
use Rattle.wast_core_name_section.specs.ModuleNames.{name_subsections}
use Rattle.wast_core_name_section.specs.NamesPart.{names_part}
use Rattle.wast_core_sections.specs.declared.slots.Slot.{Slot}
use Rattle.wast_core_sections.specs.declared.slots.Slot.TheVariants as slot
use Rattle.wast_core_sections.specs.DataCounts.{needs_count, count_parts}
use Rattle.wast_core_sections.specs.Hints.{hinted_functions, hints_part}
use Rattle.wast_core_sections.specs.Slots.{section_kind, order}
pub use Rattle.wast_core_conv.specs.Values.{index_value, as_abstract_type, as_heap_type, as_ref_type, as_val_type, as_storage_type, as_field_type, as_struct_type, as_array_type, as_func_type, as_inner_type, as_sub_type, type_index, as_table_type, as_memory_type, as_global_type, as_tag_type, as_entity_type, as_instr, as_expression, body_of, as_body, as_export_kind}
pub use Rattle.wast_core_conv.specs.FieldEntries.{as_group, as_import, as_table, as_memory, as_global, as_tag, as_export, as_element_items, as_element_mode, as_element, as_data_mode, as_data}

-- What a field adds to the sections: entries of those that are lists, and functions of start sections.
pub record Contribution : Type 0 where
  pub types : List TypeEntry
  pub imports : List ImportEntry
  pub functions : List ℕ
  pub tables : List TableEntry
  pub memories : List MemoryType
  pub tags : List TagType
  pub globals : List GlobalEntry
  pub exports : List ExportEntry
  pub starts : List ℕ
  pub elements : List ElementEntry
  pub code : List Body
  pub «data» : List DataEntry

-- A field that adds nothing to any section.
abbrev pub no_contribution : Contribution
no_contribution =
    record { types = []; imports = []; functions = []; tables = []; memories = []; tags = []; globals = []; exports = []; starts = []; elements = []; code = []; «data» = [] }

-- What a field adds to the sections: most are one entry of one section. A recursion group is one entry, with any number of types. A function
-- is its type in the function section, and its body in the code section. A start field is its function.
abbrev pub contribution_of : ModuleField → Contribution
contribution_of (field.Ty t) = record no_contribution { types = Single (as_sub_type t.def) ∷ [] }
contribution_of (field.Rec r) = record no_contribution { types = as_group r ∷ [] }
contribution_of (field.Import i) = record no_contribution { imports = as_import i ∷ [] }
contribution_of (field.Func f) = record no_contribution { functions = type_index f.ty ∷ []; code = as_body f.kind ∷ [] }
contribution_of (field.Table t) = record no_contribution { tables = as_table t ∷ [] }
contribution_of (field.Memory m) = record no_contribution { memories = as_memory m ∷ [] }
contribution_of (field.Global g) = record no_contribution { globals = as_global g ∷ [] }
contribution_of (field.Export e) = record no_contribution { exports = as_export e ∷ [] }
contribution_of (field.Start i) = record no_contribution { starts = index_value i ∷ [] }
contribution_of (field.Elem e) = record no_contribution { elements = as_element e ∷ [] }
contribution_of (field.Data d) = record no_contribution { «data» = as_data d ∷ [] }
contribution_of (field.Tag t) = record no_contribution { tags = as_tag t ∷ [] }
contribution_of (field.Custom c) = no_contribution

-- What is added to the section of a kind.
abbrev pub of_kind : (kind : SectionKind) → Contribution → List (Entry kind)
of_kind Types c = c.types
of_kind Imports c = c.imports
of_kind Functions c = c.functions
of_kind Tables c = c.tables
of_kind Memories c = c.memories
of_kind Tags c = c.tags
of_kind Globals c = c.globals
of_kind Exports c = c.exports
of_kind Elements c = c.elements
of_kind Code c = c.code
of_kind Data c = c.«data»

-- The entries of a field in the section of a kind.
abbrev pub entries_in : (kind : SectionKind) → ModuleField → List (Entry kind)
entries_in kind f = of_kind kind (contribution_of f)

-- The entries of a list of fields in the section of a kind.
abbrev pub entries : (kind : SectionKind) → List ModuleField → List (Entry kind)
entries kind fields = flat_map (entries_in kind) fields

-- The section of a kind. Without entries it is left out.
abbrev pub section_part : (kind : SectionKind) → List (Entry kind) → List Part
section_part kind [] = []
section_part kind (item ∷ items) = record { kind = Listed kind; items = item ∷ items } ∷ []

-- The start section of one start field. Several start fields have several sections.
abbrev pub start_part : ℕ → Part
start_part n = record { kind = Start; items = n }

-- The start sections of a field.
abbrev pub starts_in : ModuleField → List Part
starts_in f = map start_part (contribution_of f).starts

-- The data count section, if a body needs it: the number of data segments.
abbrev pub data_counts : List ModuleField → List Part
data_counts fields = count_parts (needs_count fields) (length (entries Data fields))

-- The bytes of a custom section.
abbrev pub custom_section : Custom → List ℕ
custom_section c = part (custom_part c)

-- Whether a custom section is called `name`.
abbrev pub has_own_names : List ModuleField → Bool
has_own_names fields = list_any (is_custom_called (codes "name")) fields

-- The subsections of the name section. If a custom section is called `name`, there are none.
abbrev pub subsections_of : Option (List ℕ) → List ModuleField → List NameSubsection
subsections_of name fields = if has_own_names fields then [] else name_subsections name fields

-- The parts at a position of a module with this name and these fields.
abbrev pub in_slot : Option (List ℕ) → List ModuleField → Slot → List Part
in_slot name fields (slot.Custom place) = map custom_part (customs_at place fields)
in_slot name fields (slot.Section kind) = section_part (section_kind kind) (entries (section_kind kind) fields)
in_slot name fields slot.Start = flat_map starts_in fields
in_slot name fields slot.DataCount = data_counts fields
in_slot name fields slot.Hints = hints_part (hinted_functions fields)
in_slot name fields slot.Names = names_part (subsections_of name fields)

-- The parts of resolved fields, of a module with this name.
abbrev pub parts : Option (List ℕ) → List ModuleField → List Part
parts name fields = flat_map (in_slot name fields) order
