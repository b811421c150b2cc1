-- The fields of a module without addresses, as Bare has tokens and types.
use Rattle.std.specs.Prelude.{ℕ, List, map, option_map}
use Rattle.std.specs.Borrow.{Bor}
use Rattle.wat_syntax.specs.Tree.{FunctionType, TypeUse, Imports, ImportItems, ItemSig, ItemKind, InlineExport, InlineImport, Elem}
use Rattle.wat_syntax.specs.Tree.{ElemKind, ElemPayload, Data, DataKind, DataVal, Local, FuncKind, Func, Table, TableKind, Memory}
use Rattle.wat_syntax.specs.Tree.{MemoryKind, Global, GlobalKind, Tag, TagKind, Export, Custom, Dylink0Subsection, ModuleField}
use Rattle.wat_syntax.specs.Tree.import_items
use Rattle.wat_syntax.specs.Tree.kind
use Rattle.wat_syntax.specs.Tree.elem
use Rattle.wat_syntax.specs.Tree.payload
use Rattle.wat_syntax.specs.Tree.data_kind
use Rattle.wat_syntax.specs.Tree.bytes
use Rattle.wat_syntax.specs.Tree.func
use Rattle.wat_syntax.specs.Tree.table
use Rattle.wat_syntax.specs.Tree.memory
use Rattle.wat_syntax.specs.Tree.global
use Rattle.wat_syntax.specs.Tree.tag_kind
use Rattle.wat_syntax.specs.Tree.custom
use Rattle.wat_syntax.specs.Tree.dylink
use Rattle.wat_syntax.specs.Tree.field
use Rattle.wat_syntax.specs.Customs.{Version}
use Rattle.wat_syntax.specs.Bare.{bare_text, bare_name_option, bare_id_option, bare_index, bare_index_option, bare_indices, bare_val}
use Rattle.wat_syntax.specs.Bare.{bare_ref, bare_type_use, bare_type, bare_rec, bare_table_type, bare_global_type, bare_tag_type}
use Rattle.wat_syntax.specs.BareInstructions.{bare_expression}

-- exports and imports of a field
abbrev pub bare_exports : InlineExport → InlineExport
bare_exports e = record { names = map bare_text e.names }

abbrev pub bare_import : InlineImport → InlineImport
bare_import i = record { «module» = bare_text i.«module»; field = bare_text i.field }

-- imports
abbrev pub bare_item_kind : ItemKind → ItemKind
bare_item_kind (kind.Func u) = kind.Func (bare_type_use u)
bare_item_kind (kind.FuncExact u) = kind.FuncExact (bare_type_use u)
bare_item_kind (kind.Table t) = kind.Table (bare_table_type t)
bare_item_kind (kind.Memory t) = kind.Memory t
bare_item_kind (kind.Global t) = kind.Global (bare_global_type t)
bare_item_kind (kind.Tag t) = kind.Tag (bare_tag_type t)

abbrev pub bare_item_sig : ItemSig → ItemSig
bare_item_sig s = record { span = s.span; id = bare_id_option s.id; name = bare_name_option s.name; kind = bare_item_kind s.kind }

abbrev pub bare_import_item : Bor (List ℕ) × ItemSig → Bor (List ℕ) × ItemSig
bare_import_item i = (bare_text i.0, bare_item_sig i.1)

abbrev pub bare_import_items : ImportItems → ImportItems
bare_import_items (import_items.Single from name sig) = import_items.Single (bare_text from) (bare_text name) (bare_item_sig sig)
bare_import_items (import_items.Group1 from items) = import_items.Group1 (bare_text from) (map bare_import_item items)
bare_import_items (import_items.Group2 from sig names) = import_items.Group2 (bare_text from) (bare_item_sig sig) (map bare_text names)

abbrev pub bare_imports : Imports → Imports
bare_imports i = record { span = i.span; items = bare_import_items i.items }

-- functions
abbrev pub bare_local : Local → Local
bare_local l = record { id = bare_id_option l.id; name = bare_name_option l.name; ty = bare_val l.ty }

abbrev pub bare_func_kind : FuncKind → FuncKind
bare_func_kind (func.Import i exact) = func.Import (bare_import i) exact
bare_func_kind (func.Inline locals e) = func.Inline (map bare_local locals) (bare_expression e)

-- what a function is, and its type
abbrev pub bare_func_of : FuncKind × TypeUse FunctionType → FuncKind × TypeUse FunctionType
bare_func_of k = (bare_func_kind k.0, bare_type_use k.1)

abbrev pub bare_func : Func → Func
bare_func f = record {
  span = f.span;
  id = bare_id_option f.id;
  name = bare_name_option f.name;
  exports = bare_exports f.exports;
  kind = bare_func_kind f.kind;
  ty = bare_type_use f.ty;
}

-- segments
abbrev pub bare_elem_kind : ElemKind → ElemKind
bare_elem_kind elem.Passive = elem.Passive
bare_elem_kind elem.Declared = elem.Declared
bare_elem_kind (elem.Active x e) = elem.Active (bare_index_option x) (bare_expression e)

abbrev pub bare_payload : ElemPayload → ElemPayload
bare_payload (payload.Indices xs) = payload.Indices (bare_indices xs)
bare_payload (payload.Exprs t es) = payload.Exprs (bare_ref t) (map bare_expression es)

-- what an element segment is for, and its elements
abbrev pub bare_elem_of : ElemKind × ElemPayload → ElemKind × ElemPayload
bare_elem_of k = (bare_elem_kind k.0, bare_payload k.1)

abbrev pub bare_elem : Elem → Elem
bare_elem e = record { span = e.span; id = bare_id_option e.id; name = bare_name_option e.name; kind = bare_elem_kind e.kind; payload = bare_payload e.payload }

abbrev pub bare_data_kind : DataKind → DataKind
bare_data_kind data_kind.Passive = data_kind.Passive
bare_data_kind (data_kind.Active x e) = data_kind.Active (bare_index x) (bare_expression e)

abbrev pub bare_data_val : DataVal → DataVal
bare_data_val (bytes.String text) = bytes.String (bare_text text)
bare_data_val (bytes.Integral xs) = bytes.Integral xs

abbrev pub bare_data : Data → Data
bare_data d = record {
  span = d.span;
  id = bare_id_option d.id;
  name = bare_name_option d.name;
  kind = bare_data_kind d.kind;
  bytes = map bare_data_val d.bytes;
}

-- the other fields
abbrev pub bare_table_kind : TableKind → TableKind
bare_table_kind (table.Import i t) = table.Import (bare_import i) (bare_table_type t)
bare_table_kind (table.Normal t init) = table.Normal (bare_table_type t) (option_map bare_expression init)
bare_table_kind (table.Inline t is64 shared p) = table.Inline (bare_ref t) is64 shared (bare_payload p)

abbrev pub bare_table : Table → Table
bare_table t = record {
  span = t.span;
  id = bare_id_option t.id;
  name = bare_name_option t.name;
  exports = bare_exports t.exports;
  kind = bare_table_kind t.kind;
}

abbrev pub bare_memory_kind : MemoryKind → MemoryKind
bare_memory_kind (memory.Import i t) = memory.Import (bare_import i) t
bare_memory_kind (memory.Normal t) = memory.Normal t
bare_memory_kind (memory.Inline is64 xs page) = memory.Inline is64 (map bare_data_val xs) page

abbrev pub bare_memory : Memory → Memory
bare_memory m = record {
  span = m.span;
  id = bare_id_option m.id;
  name = bare_name_option m.name;
  exports = bare_exports m.exports;
  kind = bare_memory_kind m.kind;
}

abbrev pub bare_global_kind : GlobalKind → GlobalKind
bare_global_kind (global.Import i) = global.Import (bare_import i)
bare_global_kind (global.Inline e) = global.Inline (bare_expression e)

abbrev pub bare_global : Global → Global
bare_global g = record {
  span = g.span;
  id = bare_id_option g.id;
  name = bare_name_option g.name;
  exports = bare_exports g.exports;
  ty = bare_global_type g.ty;
  kind = bare_global_kind g.kind;
}

abbrev pub bare_tag_kind : TagKind → TagKind
bare_tag_kind (tag_kind.Import i) = tag_kind.Import (bare_import i)
bare_tag_kind tag_kind.Inline = tag_kind.Inline

abbrev pub bare_tag : Tag → Tag
bare_tag t = record {
  span = t.span;
  id = bare_id_option t.id;
  name = bare_name_option t.name;
  exports = bare_exports t.exports;
  ty = bare_tag_type t.ty;
  kind = bare_tag_kind t.kind;
}

abbrev pub bare_export : Export → Export
bare_export e = record { span = e.span; name = bare_text e.name; kind = e.kind; item = bare_index e.item }

-- custom sections: the values of a field of `producers`
abbrev pub bare_version : Version → Version
bare_version v = (bare_text v.0, bare_text v.1)

abbrev pub bare_producers_field : Bor (List ℕ) × List Version → Bor (List ℕ) × List Version
bare_producers_field f = (bare_text f.0, map bare_version f.1)

-- an export and its flags, an import and its flags
abbrev pub bare_exported : Bor (List ℕ) × ℕ → Bor (List ℕ) × ℕ
bare_exported e = (bare_text e.0, e.1)

abbrev pub bare_imported : Bor (List ℕ) × Bor (List ℕ) × ℕ → Bor (List ℕ) × Bor (List ℕ) × ℕ
bare_imported i = (bare_text i.0, bare_text i.1, i.2)

abbrev pub bare_subsection : Dylink0Subsection → Dylink0Subsection
bare_subsection (dylink.MemInfo memory_size memory_align table_size table_align) = dylink.MemInfo memory_size memory_align table_size table_align
bare_subsection (dylink.Needed names) = dylink.Needed (map bare_text names)
bare_subsection (dylink.ExportInfo items) = dylink.ExportInfo (map bare_exported items)
bare_subsection (dylink.ImportInfo items) = dylink.ImportInfo (map bare_imported items)
bare_subsection (dylink.RuntimePath names) = dylink.RuntimePath (map bare_text names)
bare_subsection (dylink.TargetArch name) = dylink.TargetArch (bare_text name)

-- a section: beside names, the pieces of bytes
abbrev pub bare_custom : Custom → Custom
bare_custom (custom.Raw s) = custom.Raw (record { span = s.span; place = s.place; name = bare_text s.name; bytes = map bare_text s.bytes })
bare_custom (custom.Producers p) = custom.Producers (record { fields = map bare_producers_field p.fields })
bare_custom (custom.Dylink0 d) = custom.Dylink0 (record { subsections = map bare_subsection d.subsections })

-- fields
abbrev pub bare_field : ModuleField → ModuleField
bare_field (field.Ty t) = field.Ty (bare_type t)
bare_field (field.Rec r) = field.Rec (bare_rec r)
bare_field (field.Import i) = field.Import (bare_imports i)
bare_field (field.Func f) = field.Func (bare_func f)
bare_field (field.Table t) = field.Table (bare_table t)
bare_field (field.Memory m) = field.Memory (bare_memory m)
bare_field (field.Global g) = field.Global (bare_global g)
bare_field (field.Export e) = field.Export (bare_export e)
bare_field (field.Start x) = field.Start (bare_index x)
bare_field (field.Elem e) = field.Elem (bare_elem e)
bare_field (field.Data d) = field.Data (bare_data d)
bare_field (field.Tag t) = field.Tag (bare_tag t)
bare_field (field.Custom c) = field.Custom (bare_custom c)

abbrev pub bare_fields : List ModuleField → List ModuleField
bare_fields xs = map bare_field xs
