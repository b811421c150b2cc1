-- Whether a list of fields is desugared: no field has inline exports, imports, elements or data (text format:
-- abbreviations).
--
--   (func (export "a"))               not desugared
--   (export "a" (func 0)) (func)      desugared
--   (memory (data "x"))               not desugared
use Rattle.std.specs.Prelude.{Bool, true, false, not, ◌&&◌, ◌==◌, length, List}
use Rattle.std.specs.List.{list_all}
use Rattle.wast_tree_nodes.specs.Tree.{InlineExport, TableKind, MemoryKind, ModuleField}
use Rattle.wast_tree_nodes.specs.Tree.table
use Rattle.wast_tree_nodes.specs.Tree.memory
use Rattle.wast_tree_nodes.specs.Tree.field
use Rattle.wast_tree_nodes.specs.Profiles.{is_imported_func, is_imported_global, is_imported_tag}

-- whether there is no inline export
abbrev pub exports_nothing : InlineExport → Bool
exports_nothing e = length e.names == 0

-- whether a table has no inline import and no inline elements
abbrev pub is_written_table : TableKind → Bool
is_written_table (table.Import import ty) = false
is_written_table (table.Normal ty init) = true
is_written_table (table.Inline ty is64 shared elements) = false

-- whether a memory has no inline import and no inline data
abbrev pub is_written_memory : MemoryKind → Bool
is_written_memory (memory.Import import ty) = false
is_written_memory (memory.Normal ty) = true
is_written_memory (memory.Inline is64 pieces exponent) = false

-- whether a field has no inline parts
abbrev pub is_written_field : ModuleField → Bool
is_written_field (field.Ty t) = true
is_written_field (field.Rec r) = true
is_written_field (field.Import i) = true
is_written_field (field.Func f) = exports_nothing f.exports && not (is_imported_func f.kind)
is_written_field (field.Table t) = exports_nothing t.exports && is_written_table t.kind
is_written_field (field.Memory m) = exports_nothing m.exports && is_written_memory m.kind
is_written_field (field.Global g) = exports_nothing g.exports && not (is_imported_global g.kind)
is_written_field (field.Export e) = true
is_written_field (field.Start i) = true
is_written_field (field.Elem e) = true
is_written_field (field.Data d) = true
is_written_field (field.Tag t) = exports_nothing t.exports && not (is_imported_tag t.kind)
is_written_field (field.Custom c) = true

-- whether no field has inline parts
abbrev pub is_written_out : List ModuleField → Bool
is_written_out fields = list_all is_written_field fields
