-- The entry in a section that each field becomes (binary format, modules: the sections from types to data).
--
-- The fields are desugared, so inline imports, elements and data have become fields. The definitions are total, so they
-- give such forms a value as well; it is never encoded, because `Encodable` excludes it.
--
--   (export "a" (func 2))        the export entry with name "a", kind `Func` and index 2
--   (memory 1 2)                 the memory type with minimum 1 and maximum 2
use Rattle.std.specs.Prelude.{ℕ, Bool, false, List, [], map, Option, None, option_map}
use Rattle.wast_tree_nodes.specs.DataBytes.{all_bytes}
use Rattle.wasm_ops.specs.Table.{Instr}
use Rattle.wasm_ops.specs.declared.entities.MemoryType.{MemoryType}
use Rattle.wasm_ops.specs.declared.entities.TagType.{TagType}
use Rattle.wasm_ops.specs.declared.entities.EntityType.TheVariants as entity
use Rattle.wasm_out.specs.Parts.{TypeEntry, Group, ImportEntry, TableEntry, GlobalEntry, ExportEntry}
use Rattle.wasm_out.specs.ElementSegments.{ElementMode, Passive, Declared, Active, ElementItems, Indices, Expressions, ElementEntry}
use Rattle.wasm_out.specs.DataSegments.{DataMode, Kept, Placed, DataEntry}
use Rattle.wast_core_conv.specs.Tree as tree
use Rattle.wast_core_conv.specs.Tree.{RefType, TableType, Rec, ImportItems, Imports, TableKind, Table, MemoryKind, Memory, GlobalKind, Global, Tag, Export, ElemKind, ElemPayload, Elem, DataKind, Data}
use Rattle.wast_core_conv.specs.Tree.import_items
use Rattle.wast_core_conv.specs.Tree.table
use Rattle.wast_core_conv.specs.Tree.memory
use Rattle.wast_core_conv.specs.Tree.global
use Rattle.wast_core_conv.specs.Tree.elem
use Rattle.wast_core_conv.specs.Tree.payload
use Rattle.wast_core_conv.specs.Tree.data_kind
use Rattle.wast_core_conv.specs.Values.{index_value, as_ref_type, as_sub_type, as_table_type, as_memory_type, as_global_type, as_tag_type, as_entity_type, as_expression, as_export_kind}

-- The entry of a recursion group. A group of one type is still a group.
abbrev pub as_group : Rec → TypeEntry
as_group r = Group (map (λ t. as_sub_type t.def) r.types)

-- The value of a compact import group, which is an unsupported construct. It is never encoded.
abbrev pub no_entry : ImportEntry
no_entry = record { «module» = []; name = []; entity = entity.FunctionExact 0 }

-- The entry of an import: the module name, the item name, and the type.
abbrev pub as_imports : ImportItems → ImportEntry
as_imports (import_items.Single source name sig) = record { «module» = source.now; name = name.now; entity = as_entity_type sig.kind }
as_imports (import_items.Group1 source items) = no_entry
as_imports (import_items.Group2 source sig names) = no_entry

-- The entry of an import field.
abbrev pub as_import : Imports → ImportEntry
as_import i = as_imports i.items

-- The type of a table with no elements.
abbrev pub empty_table : RefType → Bool → Bool → TableType
empty_table ty is64 shared = record { limits = record { is64 = is64; min = 0; max = None }; elem = ty; shared = shared }

-- The entry of a table: its type, and the initial value of its elements if the source has one.
abbrev pub table_of : TableKind → TableEntry
table_of (table.Import import ty) = record { ty = as_table_type ty; init = None }
table_of (table.Inline ty is64 shared elements) = record { ty = as_table_type (empty_table ty is64 shared); init = None }
table_of (table.Normal ty init) = record { ty = as_table_type ty; init = option_map as_expression init }

-- The entry of a table field.
abbrev pub as_table : Table → TableEntry
as_table t = table_of t.kind

-- The type of a memory with no pages, and with this page size.
abbrev pub empty_memory : Bool → Option ℕ → tree.MemoryType
empty_memory is64 exponent = record { limits = record { is64 = is64; min = 0; max = None }; shared = false; page_size_log2 = exponent }

-- The type of a memory.
abbrev pub memory_of : MemoryKind → MemoryType
memory_of (memory.Import import ty) = as_memory_type ty
memory_of (memory.Inline is64 pieces exponent) = as_memory_type (empty_memory is64 exponent)
memory_of (memory.Normal ty) = as_memory_type ty

-- The entry of a memory field.
abbrev pub as_memory : Memory → MemoryType
as_memory m = memory_of m.kind

-- The initial value of a global.
abbrev pub value_of : GlobalKind → List Instr
value_of (global.Import import) = []
value_of (global.Inline e) = as_expression e

-- The entry of a global: its type and its initial value.
abbrev pub as_global : Global → GlobalEntry
as_global g = record { ty = as_global_type g.ty; init = value_of g.kind }

-- The entry of a tag.
abbrev pub as_tag : Tag → TagType
as_tag t = as_tag_type t.ty

-- The entry of an export: its name, its kind, and the index of the item.
abbrev pub as_export : Export → ExportEntry
as_export e = record { name = e.name.now; kind = as_export_kind e.kind; index = index_value e.item }

-- The mode of an element segment. An active one has a table, if the source names it, and an offset.
abbrev pub as_element_mode : ElemKind → ElementMode
as_element_mode elem.Passive = Passive
as_element_mode elem.Declared = Declared
as_element_mode (elem.Active table offset) = Active (option_map index_value table) (as_expression offset)

-- The elements of a segment: function indices, or expressions with their type.
abbrev pub as_element_items : ElemPayload → ElementItems
as_element_items (payload.Indices is) = Indices (map index_value is)
as_element_items (payload.Exprs ty es) = Expressions (as_ref_type ty) (map as_expression es)

-- The entry of an element segment.
abbrev pub as_element : Elem → ElementEntry
as_element e = record { mode = as_element_mode e.kind; items = as_element_items e.payload }

-- The mode of a data segment. An active one has a memory and an offset.
abbrev pub as_data_mode : DataKind → DataMode
as_data_mode data_kind.Passive = Kept
as_data_mode (data_kind.Active memory offset) = Placed (index_value memory) (as_expression offset)

-- The entry of a data segment, with its pieces joined.
abbrev pub as_data : Data → DataEntry
as_data d = record { mode = as_data_mode d.kind; bytes = all_bytes d.bytes }
