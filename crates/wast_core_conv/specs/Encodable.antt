-- Parts of a module that may be encoded: each index is a number, each rule of well-formedness holds, each construct is
-- supported, and each type use has an index (in a block, a short inline type is enough).
--
-- Branch hints and inline types beside an index are not encoded. So only the definitions of fields check them.
--
--   (func (type 0) (call 1))      may be encoded
--   (func (type 0) (call $f))     may not: $f is not a number
--   (func (call 1))               may not: the type use has no index
--   block (result i32) .. end     may: the block type `i32` needs no index
use Rattle.std.specs.Prelude.{Bool, true, false, ◌&&◌, List, Option, Some, None}
use Rattle.std.specs.List.{list_all, flat_map}
use Rattle.wast_base.specs.Blocks.{is_balanced}
use Rattle.wast_base.specs.Ids.{is_number}
use Rattle.wast_tree_nodes.specs.Clauses.{is_segment_type_allowed}
use Rattle.wast_tree_nodes.specs.Instrs.{block_effects}
use Rattle.wast_tree_nodes.specs.Sites.{Check, ItemIndex, InnerIndex, PlainId, Clause, Covered, OfItem, Site, Used, constant_context, in_type, in_ref, in_catch, in_handle, in_instr, in_instrs, in_local, in_table_type, in_global_type, in_import, in_tag_type, in_field}
use Rattle.wast_tree_nodes.specs.Resolved.{is_numbered, site_passes, is_resolved_site, is_resolved}
use Rattle.wast_tree_nodes.specs.WellFormed.{is_well_formed}
use Rattle.wast_tree_nodes.specs.WrittenOut.{is_written_memory, is_written_field, is_written_out}
use Rattle.wast_core_conv.specs.Tree.{Index, TypeUse, FunctionType, TryTableCatch, Handle, Instruction, Expression, FuncKind, Imports, TableKind, Table, Memory, GlobalKind, Global, Tag, ElemKind, ElemPayload, Elem, DataKind, Data, ModuleField}
use Rattle.wast_core_conv.specs.Tree.ty
use Rattle.wast_core_conv.specs.Tree.func
use Rattle.wast_core_conv.specs.Tree.table
use Rattle.wast_core_conv.specs.Tree.global
use Rattle.wast_core_conv.specs.Tree.elem
use Rattle.wast_core_conv.specs.Tree.payload
use Rattle.wast_core_conv.specs.Tree.data_kind

-- what is asked in them: an index is a number, a clause holds, and a form is covered
abbrev pub is_encodable_ask : Check → Bool
is_encodable_ask (ItemIndex s i) = is_number i
is_encodable_ask (InnerIndex i) = is_number i
is_encodable_ask (PlainId m) = true
is_encodable_ask (Clause n holds) = holds
is_encodable_ask (Covered form holds) = holds

-- all that is asked in a part
abbrev pub are_encodable : List Check → Bool
are_encodable asks = list_all is_encodable_ask asks

-- whether a site may be encoded
abbrev pub is_encodable_site : Site → Bool
is_encodable_site s = site_passes is_encodable_ask is_encodable_ask s

-- all sites of a part
abbrev pub encodable : List Site → Bool
encodable sites = list_all is_encodable_site sites

-- What goes into an entry of a section: of a type use the index alone, so that what stands beside it has numbers, and no more.
abbrev pub is_entered_site : Site → Bool
is_entered_site s = site_passes is_encodable_ask is_numbered s

-- all sites of a part
abbrev pub are_entered : List Site → Bool
are_entered sites = list_all is_entered_site sites

-- an index that may be missing
abbrev pub is_number_if : Option Index → Bool
is_number_if None = true
is_number_if (Some i) = is_number i

-- Parts of the tree. It is the same wherever an instruction stands, and behind whichever parameters a body stands.
abbrev pub is_encodable_instr : Instruction → Bool
is_encodable_instr i = encodable (in_instr constant_context i)

-- a clause of `try_table`, the same whichever blocks are open
abbrev pub is_encodable_catch : TryTableCatch → Bool
is_encodable_catch c = encodable (in_catch constant_context.blocks c)

-- the instructions of a body, whether it has branch hints or not
abbrev pub is_encodable_code : Expression → Bool
is_encodable_code e = encodable (in_instrs constant_context e.instrs)

-- a constant expression: its instructions, which close as many blocks as they open, none before it is open
abbrev pub is_encodable_expression : Expression → Bool
is_encodable_expression e = is_encodable_code e && is_balanced (block_effects e.instrs)

-- a type, as a field or in a group
abbrev pub is_encodable_type : ty.«Type» → Bool
is_encodable_type t = are_encodable (in_type t)

-- its index alone is written
abbrev pub is_encodable_type_use : TypeUse FunctionType → Bool
is_encodable_type_use u = is_resolved_site (Used OfItem u)

-- the locals and the instructions of a body; what stands in place is not written, here and of tables, memories and globals
abbrev pub is_encodable_kind : FuncKind → Bool
is_encodable_kind (func.Import import exact) = false
is_encodable_kind (func.Inline locals e) = are_encodable (flat_map in_local locals) && is_encodable_code e

-- an import
abbrev pub is_encodable_import : Imports → Bool
is_encodable_import i = are_entered (in_import i.items)

-- what each element of a table is at first, where that is written
abbrev pub is_encodable_init : Option Expression → Bool
is_encodable_init None = true
is_encodable_init (Some e) = is_encodable_expression e

-- what a table is made of
abbrev pub is_encodable_table_kind : TableKind → Bool
is_encodable_table_kind (table.Import import ty) = false
is_encodable_table_kind (table.Normal ty init) = are_encodable (in_table_type ty) && is_encodable_init init
is_encodable_table_kind (table.Inline ty is64 shared elements) = false

-- a table
abbrev pub is_encodable_table : Table → Bool
is_encodable_table t = is_encodable_table_kind t.kind

-- a memory
abbrev pub is_encodable_memory : Memory → Bool
is_encodable_memory m = is_written_memory m.kind

-- the value of a global at first
abbrev pub is_encodable_global_kind : GlobalKind → Bool
is_encodable_global_kind (global.Import import) = false
is_encodable_global_kind (global.Inline e) = is_encodable_expression e

-- a global
abbrev pub is_encodable_global : Global → Bool
is_encodable_global g = are_encodable (in_global_type g.ty) && is_encodable_global_kind g.kind

-- a tag
abbrev pub is_encodable_tag : Tag → Bool
is_encodable_tag t = are_entered (in_tag_type t.ty)

-- where an element segment stands
abbrev pub is_encodable_elem_kind : ElemKind → Bool
is_encodable_elem_kind elem.Passive = true
is_encodable_elem_kind elem.Declared = true
is_encodable_elem_kind (elem.Active table offset) = is_number_if table && is_encodable_expression offset

-- what it holds
abbrev pub is_encodable_payload : ElemPayload → Bool
is_encodable_payload (payload.Indices is) = list_all is_number is
is_encodable_payload (payload.Exprs ty es) = are_encodable (in_ref ty) && list_all is_encodable_expression es

-- an element segment: there is a form for what it holds where it stands
abbrev pub is_encodable_elem : Elem → Bool
is_encodable_elem e = is_segment_type_allowed e.kind e.payload && (is_encodable_elem_kind e.kind && is_encodable_payload e.payload)

-- where a data segment stands
abbrev pub is_encodable_data_kind : DataKind → Bool
is_encodable_data_kind data_kind.Passive = true
is_encodable_data_kind (data_kind.Active memory offset) = is_number memory && is_encodable_expression offset

-- a data segment
abbrev pub is_encodable_data : Data → Bool
is_encodable_data d = is_encodable_data_kind d.kind

-- Fields.
abbrev pub is_encodable_field : ModuleField → Bool
is_encodable_field x = encodable (in_field x) && is_written_field x

-- a list of fields
abbrev pub is_encodable : List ModuleField → Bool
is_encodable fields = list_all is_encodable_field fields

-- whether a list of fields is as resolving leaves it: resolved, desugared and well formed
abbrev pub is_at_rest : List ModuleField → Bool
is_at_rest fields = is_resolved fields && (is_written_out fields && is_well_formed fields)

-- What a conversion needs is less: that indices are numbers, and that each type use has one.
abbrev pub are_resolved : List Site → Bool
are_resolved sites = list_all is_resolved_site sites

-- a handler of a resumption, the same whichever blocks are open
abbrev pub is_resolved_handle : Handle → Bool
is_resolved_handle h = are_resolved (in_handle constant_context.blocks h)
