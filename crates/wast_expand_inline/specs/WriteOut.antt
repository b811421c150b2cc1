-- The fields that replace a field when its inline parts are expanded (text format: functions, tables, memories,
-- globals, tags; abbreviations).
--
-- The exports come first, then the segment of inline data or elements, then the field without inline parts or its
-- import. This is the order of the `wast` crate. The order changes no index of the item, because exports and segments
-- are not in its index space.
--
--   (func (export "a") (import "m" "n"))      (export "a" (func [1])) (import "m" "n" (func [1]))
--   (memory $m (export "b") (data "abc"))     (export "b" (memory $m)) (data (memory $m) (i32.const 0) "abc") (memory $m 1 1)
--
-- Here [1] is a generated id. The definitions of WorkedFields compute such examples.
use Rattle.std.specs.Prelude.{ℕ, Bool, true, false, List, [], ◌∷◌, ◌++◌, map, Option, None}
use Rattle.std.specs.Borrow.{Bor}
use Rattle.wast_expand_inline.specs.Tree.{Span, Id, Index, NameAnnotation, Space, FunctionType, TypeUse, ItemKind, InlineExport, InlineImport, FuncKind, Func, Table, TableKind, Memory, MemoryKind, Global, GlobalKind, Tag, TagKind, ExportKind, ModuleField}
use Rattle.wast_expand_inline.specs.Tree.space
use Rattle.wast_expand_inline.specs.Tree.import_items
use Rattle.wast_expand_inline.specs.Tree.kind
use Rattle.wast_expand_inline.specs.Tree.func
use Rattle.wast_expand_inline.specs.Tree.table
use Rattle.wast_expand_inline.specs.Tree.memory
use Rattle.wast_expand_inline.specs.Tree.global
use Rattle.wast_expand_inline.specs.Tree.tag_kind
use Rattle.wast_expand_inline.specs.Tree.export
use Rattle.wast_expand_inline.specs.Tree.field
use Rattle.wast_expand_inline.specs.Segments.{filled_memory_type, filled_table_type, data_into, elem_into}

-- How to refer to an item: from its index space, the span of its field, and its id.
abbrev pub Reference : Type 0
Reference = Space → Span → Option Id → Index

-- no inline exports
abbrev pub no_exports : InlineExport
no_exports = record { names = [] }

-- an export at the span of the field
abbrev pub export_of : Span → ExportKind → Index → Bor (List ℕ) → ModuleField
export_of span kind item name = field.Export (record { span = span; name = name; kind = kind; item = item })

-- one export for each inline name, in order
abbrev pub exports_of : Span → ExportKind → Index → InlineExport → List ModuleField
exports_of span kind item exports = map (export_of span kind item) exports.names

-- an import of one item, at the span of the field and with its id
abbrev pub import_of : Span → Option Id → Option NameAnnotation → InlineImport → ItemKind → ModuleField
import_of span id name source k = field.Import (record {
  span = span;
  items = import_items.Single source.«module» source.field (record { span = span; id = id; name = name; kind = k });
})

-- The data segment of inline data, if there is any.
abbrev pub data_in : MemoryKind → Span → Index → List ModuleField
data_in (memory.Import source ty) span item = []
data_in (memory.Normal ty) span item = []
data_in (memory.Inline is64 pieces exponent) span item = data_into span item is64 pieces ∷ []

-- the element segment of inline elements, if there are any
abbrev pub elem_in : TableKind → Span → Index → List ModuleField
elem_in (table.Import source ty) span item = []
elem_in (table.Normal ty init) span item = []
elem_in (table.Inline ty is64 shared p) span item = elem_into span item is64 p ∷ []

-- the kind of an imported function, exact or not
abbrev pub imported_func : Bool → TypeUse FunctionType → ItemKind
imported_func true u = kind.FuncExact u
imported_func false u = kind.Func u

-- The function without inline parts, or its import. The import keeps the name annotation, unlike those of other items.
abbrev pub func_alone : Func → FuncKind → ModuleField
func_alone f (func.Import source exact) = import_of f.span f.id f.name source (imported_func exact f.ty)
func_alone f (func.Inline locals e) = field.Func (record f { exports = no_exports; kind = func.Inline locals e })

-- the table without inline parts, or its import
abbrev pub table_alone : Table → TableKind → ModuleField
table_alone t (table.Import source ty) = import_of t.span t.id None source (kind.Table ty)
table_alone t (table.Normal ty init) = field.Table (record t { exports = no_exports; kind = table.Normal ty init })
table_alone t (table.Inline ty is64 shared p) = field.Table (record t { exports = no_exports; kind = table.Normal (filled_table_type ty is64 shared p) None })

-- the memory without inline parts, or its import
abbrev pub memory_alone : Memory → MemoryKind → ModuleField
memory_alone m (memory.Import source ty) = import_of m.span m.id None source (kind.Memory ty)
memory_alone m (memory.Normal ty) = field.Memory (record m { exports = no_exports; kind = memory.Normal ty })
memory_alone m (memory.Inline is64 pieces exponent) = field.Memory (record m { exports = no_exports; kind = memory.Normal (filled_memory_type is64 pieces exponent) })

-- the global without inline parts, or its import
abbrev pub global_alone : Global → GlobalKind → ModuleField
global_alone g (global.Import source) = import_of g.span g.id None source (kind.Global g.ty)
global_alone g (global.Inline e) = field.Global (record g { exports = no_exports; kind = global.Inline e })

-- the tag without inline parts, or its import
abbrev pub tag_alone : Tag → TagKind → ModuleField
tag_alone t (tag_kind.Import source) = import_of t.span t.id None source (kind.Tag t.ty)
tag_alone t tag_kind.Inline = field.Tag (record t { exports = no_exports; kind = tag_kind.Inline })

-- The fields that replace a field, in order. Other fields are unchanged.
abbrev pub desugar_field : Reference → ModuleField → List ModuleField
desugar_field r (field.Ty t) = field.Ty t ∷ []
desugar_field r (field.Rec g) = field.Rec g ∷ []
desugar_field r (field.Import i) = field.Import i ∷ []
desugar_field r (field.Func f) = exports_of f.span export.Func (r space.Func f.span f.id) f.exports ++ func_alone f f.kind ∷ []
desugar_field r (field.Table t) =
    exports_of t.span export.Table (r space.Table t.span t.id) t.exports ++ (elem_in t.kind t.span (r space.Table t.span t.id) ++ table_alone t t.kind ∷ [])
desugar_field r (field.Memory m) =
    exports_of m.span export.Memory (r space.Memory m.span m.id) m.exports ++ (data_in m.kind m.span (r space.Memory m.span m.id) ++ memory_alone m m.kind ∷ [])
desugar_field r (field.Global g) = exports_of g.span export.Global (r space.Global g.span g.id) g.exports ++ global_alone g g.kind ∷ []
desugar_field r (field.Export e) = field.Export e ∷ []
desugar_field r (field.Start i) = field.Start i ∷ []
desugar_field r (field.Elem e) = field.Elem e ∷ []
desugar_field r (field.Data d) = field.Data d ∷ []
desugar_field r (field.Custom c) = field.Custom c ∷ []
desugar_field r (field.Tag t) = exports_of t.span export.Tag (r space.Tag t.span t.id) t.exports ++ tag_alone t t.kind ∷ []
