use Rattle.std.proofs.Common.{◌≡◌, true, rules, subst}
use Rattle.wasm_ops.proofs.Sinking.{one_written}
use Rattle.wasm_out.specs.Parts.{Types, Imports, Functions, Tables, Memories, Tags, Globals, Exports, Elements, Code, Data, Single, entry, InRangeEntry}
use Rattle.wast_core_conv.specs.Encodable.{is_encodable_field}
use Rattle.wast_core_conv.proofs.Ready.{type_ready, group_ready, import_ready, func_ready, table_ready, global_ready, elem_ready, data_ready, tag_ready}
use Rattle.wast_core_sections.specs.Sections as meaning
use Rattle.wast_core_sections.proofs.entries.put_entry.Goals as goal

-- What is encoded.
pub encode-requires : goal.encode-requires
encode-requires g c = type_ready c.in-Types-Ty.ty (subst (λ x. is_encodable_field x ≡ true) c.in-Types-Ty.is-1 c.requires)

pub encode-requires-in-Types-Rec : goal.encode-requires-in-Types-Rec
encode-requires-in-Types-Rec g c = group_ready c.in-Types-Rec.rec (subst (λ x. is_encodable_field x ≡ true) c.in-Types-Rec.is-1 c.requires)

pub encode-requires-in-Functions-Func : goal.encode-requires-in-Functions-Func
encode-requires-in-Functions-Func g c = (func_ready c.in-Functions-Func.func (subst (λ x. is_encodable_field x ≡ true) c.in-Functions-Func.is-1 c.requires)).0

pub encode-requires-in-Code-Func : goal.encode-requires-in-Code-Func
encode-requires-in-Code-Func g c = (func_ready c.in-Code-Func.func (subst (λ x. is_encodable_field x ≡ true) c.in-Code-Func.is-1 c.requires)).1

pub encode-requires-in-Imports-Import : goal.encode-requires-in-Imports-Import
encode-requires-in-Imports-Import g c = import_ready c.in-Imports-Import.imports (subst (λ x. is_encodable_field x ≡ true) c.in-Imports-Import.is-1 c.requires)

pub encode-requires-in-Tables-Table : goal.encode-requires-in-Tables-Table
encode-requires-in-Tables-Table g c = table_ready c.in-Tables-Table.table (subst (λ x. is_encodable_field x ≡ true) c.in-Tables-Table.is-1 c.requires)

pub encode-requires-in-Tags-Tag : goal.encode-requires-in-Tags-Tag
encode-requires-in-Tags-Tag g c = tag_ready c.in-Tags-Tag.tag (subst (λ x. is_encodable_field x ≡ true) c.in-Tags-Tag.is-1 c.requires)

pub encode-requires-in-Globals-Global : goal.encode-requires-in-Globals-Global
encode-requires-in-Globals-Global g c = global_ready c.in-Globals-Global.global (subst (λ x. is_encodable_field x ≡ true) c.in-Globals-Global.is-1 c.requires)

pub encode-requires-in-Elements-Elem : goal.encode-requires-in-Elements-Elem
encode-requires-in-Elements-Elem g c = elem_ready c.in-Elements-Elem.elem (subst (λ x. is_encodable_field x ≡ true) c.in-Elements-Elem.is-1 c.requires)

pub encode-requires-in-Data-Data : goal.encode-requires-in-Data-Data
encode-requires-in-Data-Data g c = data_ready c.in-Data-Data.«data» (subst (λ x. is_encodable_field x ≡ true) c.in-Data-Data.is-1 c.requires)

-- The one entry of a field.
pub returns-in-Types-Ty : goal.returns-in-Types-Ty
returns-in-Types-Ty g c =
    rw (c.in-Types-Ty.is-0, c.in-Types-Ty.is-1) (one_written g.S.Sink.rules (entry Types) (InRangeEntry Types) c.args.out.now c.encode.new.out
    (Single (meaning.as_sub_type c.in-Types-Ty.ty.def)) c.encode.result c.encode.ensures)

pub returns-in-Types-Rec : goal.returns-in-Types-Rec
returns-in-Types-Rec g c =
    rw (c.in-Types-Rec.is-0, c.in-Types-Rec.is-1)
    (one_written g.S.Sink.rules (entry Types) (InRangeEntry Types) c.args.out.now c.encode-in-Types-Rec.new.out
    (meaning.as_group c.in-Types-Rec.rec) c.encode-in-Types-Rec.result c.encode-in-Types-Rec.ensures)

pub returns-in-Imports-Import : goal.returns-in-Imports-Import
returns-in-Imports-Import g c =
    rw (c.in-Imports-Import.is-0, c.in-Imports-Import.is-1)
    (one_written g.S.Sink.rules (entry Imports) (InRangeEntry Imports) c.args.out.now c.encode-in-Imports-Import.new.out
    (meaning.as_import c.in-Imports-Import.imports) c.encode-in-Imports-Import.result c.encode-in-Imports-Import.ensures)

pub returns-in-Functions-Func : goal.returns-in-Functions-Func
returns-in-Functions-Func g c =
    rw (c.in-Functions-Func.is-0, c.in-Functions-Func.is-1)
    (one_written g.S.Sink.rules (entry Functions) (InRangeEntry Functions) c.args.out.now c.encode-in-Functions-Func.new.out
    (meaning.type_index c.in-Functions-Func.func.ty) c.encode-in-Functions-Func.result c.encode-in-Functions-Func.ensures)

pub returns-in-Tables-Table : goal.returns-in-Tables-Table
returns-in-Tables-Table g c =
    rw (c.in-Tables-Table.is-0, c.in-Tables-Table.is-1)
    (one_written g.S.Sink.rules (entry Tables) (InRangeEntry Tables) c.args.out.now c.encode-in-Tables-Table.new.out
    (meaning.as_table c.in-Tables-Table.table) c.encode-in-Tables-Table.result c.encode-in-Tables-Table.ensures)

pub returns-in-Memories-Memory : goal.returns-in-Memories-Memory
returns-in-Memories-Memory g c =
    rw (c.in-Memories-Memory.is-0, c.in-Memories-Memory.is-1)
    (one_written g.S.Sink.rules (entry Memories) (InRangeEntry Memories) c.args.out.now c.encode-in-Memories-Memory.new.out
    (meaning.as_memory c.in-Memories-Memory.memory) c.encode-in-Memories-Memory.result c.encode-in-Memories-Memory.ensures)

pub returns-in-Tags-Tag : goal.returns-in-Tags-Tag
returns-in-Tags-Tag g c =
    rw (c.in-Tags-Tag.is-0, c.in-Tags-Tag.is-1)
    (one_written g.S.Sink.rules (entry Tags) (InRangeEntry Tags) c.args.out.now c.encode-in-Tags-Tag.new.out
    (meaning.as_tag c.in-Tags-Tag.tag) c.encode-in-Tags-Tag.result c.encode-in-Tags-Tag.ensures)

pub returns-in-Globals-Global : goal.returns-in-Globals-Global
returns-in-Globals-Global g c =
    rw (c.in-Globals-Global.is-0, c.in-Globals-Global.is-1)
    (one_written g.S.Sink.rules (entry Globals) (InRangeEntry Globals) c.args.out.now c.encode-in-Globals-Global.new.out
    (meaning.as_global c.in-Globals-Global.global) c.encode-in-Globals-Global.result c.encode-in-Globals-Global.ensures)

pub returns-in-Exports-Export : goal.returns-in-Exports-Export
returns-in-Exports-Export g c =
    rw (c.in-Exports-Export.is-0, c.in-Exports-Export.is-1)
    (one_written g.S.Sink.rules (entry Exports) (InRangeEntry Exports) c.args.out.now c.encode-in-Exports-Export.new.out
    (meaning.as_export c.in-Exports-Export.export) c.encode-in-Exports-Export.result c.encode-in-Exports-Export.ensures)

pub returns-in-Elements-Elem : goal.returns-in-Elements-Elem
returns-in-Elements-Elem g c =
    rw (c.in-Elements-Elem.is-0, c.in-Elements-Elem.is-1)
    (one_written g.S.Sink.rules (entry Elements) (InRangeEntry Elements) c.args.out.now c.encode-in-Elements-Elem.new.out
    (meaning.as_element c.in-Elements-Elem.elem) c.encode-in-Elements-Elem.result c.encode-in-Elements-Elem.ensures)

pub returns-in-Code-Func : goal.returns-in-Code-Func
returns-in-Code-Func g c =
    rw (c.in-Code-Func.is-0, c.in-Code-Func.is-1)
    (one_written g.S.Sink.rules (entry Code) (InRangeEntry Code) c.args.out.now c.encode-in-Code-Func.new.out
    (meaning.as_body c.in-Code-Func.func.kind) c.encode-in-Code-Func.result c.encode-in-Code-Func.ensures)

pub returns-in-Data-Data : goal.returns-in-Data-Data
returns-in-Data-Data g c =
    rw (c.in-Data-Data.is-0, c.in-Data-Data.is-1)
    (one_written g.S.Sink.rules (entry Data) (InRangeEntry Data) c.args.out.now c.encode-in-Data-Data.new.out
    (meaning.as_data c.in-Data-Data.«data») c.encode-in-Data-Data.result c.encode-in-Data-Data.ensures)

-- Or no entry.
pub returns-in_default : goal.returns-in_default
returns-in_default g c = rw c.in_default.is-0 (search rules)

pub returns-in_default-2 : goal.returns-in_default-2
returns-in_default-2 g c = rw c.in_default.is-0 (search rules)

pub returns-in_default-3 : goal.returns-in_default-3
returns-in_default-3 g c = rw c.in_default.is-0 (search rules)

pub returns-in_default-4 : goal.returns-in_default-4
returns-in_default-4 g c = rw c.in_default.is-0 (search rules)

pub returns-in_default-5 : goal.returns-in_default-5
returns-in_default-5 g c = rw c.in_default.is-0 (search rules)

pub returns-in_default-6 : goal.returns-in_default-6
returns-in_default-6 g c = rw c.in_default.is-0 (search rules)

pub returns-in_default-7 : goal.returns-in_default-7
returns-in_default-7 g c = rw c.in_default.is-0 (search rules)

pub returns-in_default-8 : goal.returns-in_default-8
returns-in_default-8 g c = rw c.in_default.is-0 (search rules)

pub returns-in_default-9 : goal.returns-in_default-9
returns-in_default-9 g c = rw c.in_default.is-0 (search rules)

pub returns-in_default-10 : goal.returns-in_default-10
returns-in_default-10 g c = rw c.in_default.is-0 (search rules)

pub returns-in_default-11 : goal.returns-in_default-11
returns-in_default-11 g c = rw c.in_default.is-0 (search rules)
