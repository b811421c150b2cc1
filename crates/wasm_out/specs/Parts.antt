-- The sections of a module and their bytes (binary format: modules, sections).
--
-- A section is its id, the length of its payload, and the payload. For example the start section of function 3 is 08 01 03.
-- Each item of a section is described once, as an `Encoding`.
use Rattle.std.specs.Prelude.{ℕ, Option, Some, None, List, [], ◌∷◌, ◌++◌, length}
use Rattle.wasm_ops.specs.ConstExprs.{expression}
use Rattle.wasm_ops.specs.Entities.{table_type, memory_type, global_type, tag_type, entity_type}
use Rattle.wasm_ops.specs.Leb128.{unsigned}
use Rattle.wasm_ops.specs.Table.{Instr}
use Rattle.wasm_ops.specs.declared.entities.TableType.{TableType}
use Rattle.wasm_ops.specs.declared.entities.MemoryType.{MemoryType}
use Rattle.wasm_ops.specs.declared.entities.GlobalType.{GlobalType}
use Rattle.wasm_ops.specs.declared.entities.TagType.{TagType}
use Rattle.wasm_ops.specs.declared.entities.EntityType.{EntityType}
use Rattle.wasm_ops.specs.declared.types.ExportKind.{ExportKind}
use Rattle.wasm_ops.specs.declared.types.SubType.{SubType}
use Rattle.wasm_ops.specs.Spelling.{Encoding, fixed, u32, named, respelled, byte_then, seq, list_of, with_length, export_kind, sub_type}
use Rattle.wasm_out.specs.Bodies.{Body, body_content}
use Rattle.wasm_out.specs.DataSegments.{DataEntry, data_entry}
use Rattle.wasm_out.specs.ElementSegments.{ElementEntry, element_entry}

-- The kinds of sections that hold a list.
pub data SectionKind : Type 0 where
  Types : SectionKind
  Imports : SectionKind
  Functions : SectionKind
  Tables : SectionKind
  Memories : SectionKind
  Tags : SectionKind
  Globals : SectionKind
  Exports : SectionKind
  Elements : SectionKind
  Code : SectionKind
  Data : SectionKind

-- A type, or a recursive group of types.
pub data TypeEntry : Type 0 where
  Single : SubType → TypeEntry
  Group : List SubType → TypeEntry

-- An import: its module, its name and its type.
pub record ImportEntry : Type 0 where
  pub «module» : List ℕ
  pub name : List ℕ
  pub entity : EntityType

-- A table, and the initial value of its elements if one is written.
pub record TableEntry : Type 0 where
  pub ty : TableType
  pub init : Option (List Instr)

-- A global and its initial value.
pub record GlobalEntry : Type 0 where
  pub ty : GlobalType
  pub init : List Instr

-- An export: its name, and the kind and the index of the item.
pub record ExportEntry : Type 0 where
  pub name : List ℕ
  pub kind : ExportKind
  pub index : ℕ

-- The items of a section.
abbrev pub Entry : SectionKind → Type 0
Entry Types = TypeEntry
Entry Imports = ImportEntry
Entry Functions = ℕ
Entry Tables = TableEntry
Entry Memories = MemoryType
Entry Tags = TagType
Entry Globals = GlobalEntry
Entry Exports = ExportEntry
Entry Elements = ElementEntry
Entry Code = Body
Entry Data = DataEntry

-- A type, or 4e and the list of the types of a group.
abbrev pub type_entry : TypeEntry → Encoding
type_entry (Single t) = sub_type t
type_entry (Group ts) = byte_then 0x4e (list_of sub_type ts)

-- An import: its module, its name and its type.
abbrev pub import_entry : ImportEntry → Encoding
import_entry i = seq (named i.«module») (seq (named i.name) (entity_type i.entity))

-- The bytes of a table: its type alone, or 40 00, its type and the expression.
abbrev pub table_bytes : TableType → Option (List Instr) → List ℕ
table_bytes ty None = (table_type ty).bytes
table_bytes ty (Some init) = 0x40 ∷ 0x00 ∷ ((table_type ty).bytes ++ (expression init).bytes)

-- The initial value of the elements of a table.
abbrev pub table_init : Option (List Instr) → Encoding
table_init None = fixed []
table_init (Some init) = expression init

-- A table.
abbrev pub table_entry : TableEntry → Encoding
table_entry t = respelled (λ _. table_bytes t.ty t.init) (seq (table_type t.ty) (table_init t.init))

-- A global: its type and an expression.
abbrev pub global_entry : GlobalEntry → Encoding
global_entry g = seq (global_type g.ty) (expression g.init)

-- An export: its name, its kind and its index.
abbrev pub export_entry : ExportEntry → Encoding
export_entry e = seq (named e.name) (respelled (λ index. export_kind e.kind ++ index) (u32 e.index))

-- The bytes of a body, with their length.
abbrev pub body : Body → List ℕ
body b = (with_length (body_content b)).bytes

-- An item of a section.
abbrev pub item : (kind : SectionKind) → Entry kind → Encoding
item Types t = type_entry t
item Imports i = import_entry i
item Functions n = u32 n
item Tables t = table_entry t
item Memories m = memory_type m
item Tags t = tag_type t
item Globals g = global_entry g
item Exports e = export_entry e
item Elements e = element_entry e
item Code b = with_length (body_content b)
item Data d = data_entry d

-- The bytes of an item.
abbrev pub entry : (kind : SectionKind) → Entry kind → List ℕ
entry kind e = (item kind e).bytes

-- The numbers, counts and lengths of an item are in range.
abbrev pub InRangeEntry : (kind : SectionKind) → Entry kind → Type 0
InRangeEntry kind e = (item kind e).in_range

-- The kinds of sections. Most hold a list; the others hold a number, or bytes of any content.
pub data PartKind : Type 0 where
  Custom : PartKind
  Start : PartKind
  DataCount : PartKind
  Listed : SectionKind → PartKind

-- A custom section: its name, and its bytes.
pub record CustomPart : Type 0 where
  pub name : List ℕ
  pub bytes : List ℕ

-- The content of a section.
abbrev pub PartItems : PartKind → Type 0
PartItems Custom = CustomPart
PartItems Start = ℕ
PartItems DataCount = ℕ
PartItems (Listed kind) = List (Entry kind)

-- The payload of a section.
abbrev pub payload : (kind : PartKind) → PartItems kind → Encoding
payload Custom c = respelled (λ name. name ++ c.bytes) (named c.name)
payload Start n = u32 n
payload DataCount n = u32 n
payload (Listed kind) items = list_of (item kind) items

-- The ids of sections that hold a list.
abbrev pub section_id : SectionKind → ℕ
section_id Types = 1
section_id Imports = 2
section_id Functions = 3
section_id Tables = 4
section_id Memories = 5
section_id Tags = 13
section_id Globals = 6
section_id Exports = 7
section_id Elements = 9
section_id Code = 10
section_id Data = 11

-- The ids of sections.
abbrev pub part_id : PartKind → ℕ
part_id Custom = 0
part_id Start = 8
part_id DataCount = 12
part_id (Listed kind) = section_id kind

-- A section of a module.
pub record Part : Type 0 where
  pub kind : PartKind
  pub items : PartItems kind

-- The bytes of a section: its id, the length of its payload, and the payload.
abbrev pub section : ℕ → List ℕ → List ℕ
section id bytes = id ∷ (unsigned (length bytes) ++ bytes)

-- The bytes of a section.
abbrev pub part : Part → List ℕ
part p = section (part_id p.kind) (payload p.kind p.items).bytes

-- The payload of a section is in range, and its length.
abbrev pub InRangePart : Part → Type 0
InRangePart p = (with_length (payload p.kind p.items)).in_range
