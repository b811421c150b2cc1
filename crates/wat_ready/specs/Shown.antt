-- Trees without the addresses of their names and strings. Ids keep theirs.
--
-- A tree has texts of two kinds: ids, which resolving compares, and names and strings, which it hands on. `shown` sets each text of the
-- second kind to address 0. With the ids at address 0 as well it is a bare tree (Bare in wat_syntax).
-- A part without ids, such as a custom section, is its bare part then.
--
--   shown_field of (export "a" (func $f)), at any address      "a" at address 0, and $f as before
use Rattle.std.specs.Prelude.{ℕ, List, Option, map, option_map}
use Rattle.std.specs.Borrow.{Bor}
use Rattle.wat_syntax.specs.Tree.{Id, NameAnnotation, ValType, StructField, StructType, FunctionType, TypeUse, InnerTypeKind, TypeDef, Rec, BlockType, CallIndirect, TryTable, Instruction, Expression, Local, Tag, TagType, ItemKind, ItemSig, ImportItems, Imports, Export, FuncKind, Func, Table, TableKind, Memory, Global, GlobalKind, Elem, ElemKind, ElemPayload, Data, DataKind, ModuleField}
use Rattle.wat_syntax.specs.Tree.inner
use Rattle.wat_syntax.specs.Tree.ty
use Rattle.wat_syntax.specs.Tree.tag
use Rattle.wat_syntax.specs.Tree.kind
use Rattle.wat_syntax.specs.Tree.import_items
use Rattle.wat_syntax.specs.Tree.instr
use Rattle.wat_syntax.specs.Tree.elem
use Rattle.wat_syntax.specs.Tree.payload
use Rattle.wat_syntax.specs.Tree.data_kind
use Rattle.wat_syntax.specs.Tree.func
use Rattle.wat_syntax.specs.Tree.table
use Rattle.wat_syntax.specs.Tree.global
use Rattle.wat_syntax.specs.Tree.field
use Rattle.wat_syntax.specs.Bare.{bare_text, bare_name_option}
use Rattle.wat_syntax.specs.BareFields.{bare_custom, bare_data_val, bare_exports, bare_import, bare_memory_kind, bare_tag_kind}

-- a parameter: its id, its name annotation and its type
abbrev pub shown_param : Option Id × Option NameAnnotation × ValType → Option Id × Option NameAnnotation × ValType
shown_param p = (p.0, bare_name_option p.1, p.2)

abbrev pub shown_function_type : FunctionType → FunctionType
shown_function_type t = record { params = map shown_param t.params; results = t.results }

abbrev pub shown_type_use : TypeUse FunctionType → TypeUse FunctionType
shown_type_use u = record { index = u.index; inline = option_map shown_function_type u.inline }

-- a field of a struct
abbrev pub shown_struct_field : StructField → StructField
shown_struct_field f = record { id = f.id; name = bare_name_option f.name; mutable = f.mutable; ty = f.ty }

abbrev pub shown_struct_type : StructType → StructType
shown_struct_type t = record { fields = map shown_struct_field t.fields }

abbrev pub shown_composite : InnerTypeKind → InnerTypeKind
shown_composite (inner.Func t) = inner.Func (shown_function_type t)
shown_composite (inner.Struct t) = inner.Struct (shown_struct_type t)
shown_composite (inner.Array t) = inner.Array t
shown_composite (inner.Cont t) = inner.Cont t

-- what a type is defined as
abbrev pub shown_type_def : TypeDef → TypeDef
shown_type_def d = record { kind = shown_composite d.kind; shared = d.shared; parents = d.parents; descriptor = d.descriptor; describes = d.describes; final_type = d.final_type }

abbrev pub shown_type : ty.Type → ty.Type
shown_type t = record { span = t.span; id = t.id; name = bare_name_option t.name; def = shown_type_def t.def }

abbrev pub shown_rec : Rec → Rec
shown_rec r = record { span = r.span; types = map shown_type r.types }

-- immediates of instructions
abbrev pub shown_block : BlockType → BlockType
shown_block b = record { label = b.label; label_name = bare_name_option b.label_name; ty = shown_type_use b.ty }

abbrev pub shown_call : CallIndirect → CallIndirect
shown_call c = record { table = c.table; ty = shown_type_use c.ty }

abbrev pub shown_try_table : TryTable → TryTable
shown_try_table t = record { block = shown_block t.block; catches = t.catches }

-- instructions: the names of parameters, and the word of an unsupported one
abbrev pub shown_instr : Instruction → Instruction
shown_instr (instr.block b) = instr.block (shown_block b)
shown_instr (instr.loop_ b) = instr.loop_ (shown_block b)
shown_instr (instr.if_ b) = instr.if_ (shown_block b)
shown_instr (instr.try_ b) = instr.try_ (shown_block b)
shown_instr (instr.try_table t) = instr.try_table (shown_try_table t)
shown_instr (instr.call_indirect c) = instr.call_indirect (shown_call c)
shown_instr (instr.return_call_indirect c) = instr.return_call_indirect (shown_call c)
shown_instr (instr.Beyond name) = instr.Beyond (bare_text name)
shown_instr i = i

abbrev pub shown_expression : Expression → Expression
shown_expression e = record { instrs = map shown_instr e.instrs; branch_hints = e.branch_hints }

-- locals, tags and imports
abbrev pub shown_local : Local → Local
shown_local l = record { id = l.id; name = bare_name_option l.name; ty = l.ty }

abbrev pub shown_tag_type : TagType → TagType
shown_tag_type (tag.Exception t) = tag.Exception (shown_type_use t)

abbrev pub shown_tag : Tag → Tag
shown_tag t = record { span = t.span; id = t.id; name = bare_name_option t.name; exports = bare_exports t.exports; ty = shown_tag_type t.ty; kind = bare_tag_kind t.kind }

-- imported items
abbrev pub shown_item_kind : ItemKind → ItemKind
shown_item_kind (kind.Func t) = kind.Func (shown_type_use t)
shown_item_kind (kind.FuncExact t) = kind.FuncExact (shown_type_use t)
shown_item_kind (kind.Table t) = kind.Table t
shown_item_kind (kind.Memory t) = kind.Memory t
shown_item_kind (kind.Global t) = kind.Global t
shown_item_kind (kind.Tag t) = kind.Tag (shown_tag_type t)

abbrev pub shown_item_sig : ItemSig → ItemSig
shown_item_sig s = record { span = s.span; id = s.id; name = bare_name_option s.name; kind = shown_item_kind s.kind }

-- an imported item with its name
abbrev pub shown_item : Bor (List ℕ) × ItemSig → Bor (List ℕ) × ItemSig
shown_item i = (bare_text i.0, shown_item_sig i.1)

abbrev pub shown_items : ImportItems → ImportItems
shown_items (import_items.Single from name sig) = import_items.Single (bare_text from) (bare_text name) (shown_item_sig sig)
shown_items (import_items.Group1 from items) = import_items.Group1 (bare_text from) (map shown_item items)
shown_items (import_items.Group2 from sig names) = import_items.Group2 (bare_text from) (shown_item_sig sig) (map bare_text names)

abbrev pub shown_imports : Imports → Imports
shown_imports i = record { span = i.span; items = shown_items i.items }

abbrev pub shown_export : Export → Export
shown_export e = record { span = e.span; name = bare_text e.name; kind = e.kind; item = e.item }

-- functions
abbrev pub shown_func_kind : FuncKind → FuncKind
shown_func_kind (func.Import i exact) = func.Import (bare_import i) exact
shown_func_kind (func.Inline locals e) = func.Inline (map shown_local locals) (shown_expression e)

abbrev pub shown_func : Func → Func
shown_func f = record { span = f.span; id = f.id; name = bare_name_option f.name; exports = bare_exports f.exports; kind = shown_func_kind f.kind; ty = shown_type_use f.ty }

-- segments
abbrev pub shown_payload : ElemPayload → ElemPayload
shown_payload (payload.Indices xs) = payload.Indices xs
shown_payload (payload.Exprs t es) = payload.Exprs t (map shown_expression es)

abbrev pub shown_elem_kind : ElemKind → ElemKind
shown_elem_kind elem.Passive = elem.Passive
shown_elem_kind elem.Declared = elem.Declared
shown_elem_kind (elem.Active x e) = elem.Active x (shown_expression e)

abbrev pub shown_elem : Elem → Elem
shown_elem e = record { span = e.span; id = e.id; name = bare_name_option e.name; kind = shown_elem_kind e.kind; payload = shown_payload e.payload }

abbrev pub shown_data_kind : DataKind → DataKind
shown_data_kind data_kind.Passive = data_kind.Passive
shown_data_kind (data_kind.Active x e) = data_kind.Active x (shown_expression e)

abbrev pub shown_data : Data → Data
shown_data d = record { span = d.span; id = d.id; name = bare_name_option d.name; kind = shown_data_kind d.kind; bytes = map bare_data_val d.bytes }

-- tables, memories and globals
abbrev pub shown_table_kind : TableKind → TableKind
shown_table_kind (table.Import i t) = table.Import (bare_import i) t
shown_table_kind (table.Normal t init) = table.Normal t (option_map shown_expression init)
shown_table_kind (table.Inline t is64 shared p) = table.Inline t is64 shared (shown_payload p)

abbrev pub shown_table : Table → Table
shown_table t = record { span = t.span; id = t.id; name = bare_name_option t.name; exports = bare_exports t.exports; kind = shown_table_kind t.kind }

abbrev pub shown_memory : Memory → Memory
shown_memory m = record { span = m.span; id = m.id; name = bare_name_option m.name; exports = bare_exports m.exports; kind = bare_memory_kind m.kind }

abbrev pub shown_global_kind : GlobalKind → GlobalKind
shown_global_kind (global.Import i) = global.Import (bare_import i)
shown_global_kind (global.Inline e) = global.Inline (shown_expression e)

abbrev pub shown_global : Global → Global
shown_global g = record { span = g.span; id = g.id; name = bare_name_option g.name; exports = bare_exports g.exports; ty = g.ty; kind = shown_global_kind g.kind }

-- fields
abbrev pub shown_field : ModuleField → ModuleField
shown_field (field.Ty t) = field.Ty (shown_type t)
shown_field (field.Rec r) = field.Rec (shown_rec r)
shown_field (field.Import i) = field.Import (shown_imports i)
shown_field (field.Func f) = field.Func (shown_func f)
shown_field (field.Table t) = field.Table (shown_table t)
shown_field (field.Memory m) = field.Memory (shown_memory m)
shown_field (field.Global g) = field.Global (shown_global g)
shown_field (field.Export e) = field.Export (shown_export e)
shown_field (field.Start x) = field.Start x
shown_field (field.Elem e) = field.Elem (shown_elem e)
shown_field (field.Data d) = field.Data (shown_data d)
shown_field (field.Tag t) = field.Tag (shown_tag t)
shown_field (field.Custom c) = field.Custom (bare_custom c)

abbrev pub shown_fields : List ModuleField → List ModuleField
shown_fields xs = map shown_field xs
