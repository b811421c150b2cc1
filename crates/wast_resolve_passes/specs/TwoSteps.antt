-- Parts of fields that are walked in two steps, and the two parts of each. Only contracts of private functions use
-- this.
--
-- For example, `(table 1 (ref null $t) (global.get $g))` is walked as its type, and then as its initial value.
use Rattle.std.specs.Prelude.{List, [], map, flat_map, option_map}
use Rattle.wast_base.specs.Blocks.{Blocks}
use Rattle.wast_resolve_passes.specs.Tree.{Handle, FuncKind, TableKind, ElemKind, ElemPayload, DataKind}
use Rattle.wast_resolve_passes.specs.Tree.handle
use Rattle.wast_resolve_passes.specs.Tree.space
use Rattle.wast_resolve_passes.specs.Tree.func
use Rattle.wast_resolve_passes.specs.Tree.table
use Rattle.wast_resolve_passes.specs.Tree.elem
use Rattle.wast_resolve_passes.specs.Tree.payload
use Rattle.wast_resolve_passes.specs.Tree.data_kind
use Rattle.wast_tree_nodes.specs.Sites.{Check, Site, BodyContext, check_sites, at_index, at_label, if_there, in_ref, in_table_type, in_expression, in_constant, in_payload, in_local}
use Rattle.wast_tree_map.specs.Mapped.{Change, mapped_ref, mapped_table_type, mapped_expression, mapped_constant, mapped_payload, mapped_local}

-- a function: the types of its locals
abbrev pub in_locals : FuncKind → List Check
in_locals (func.Import import exact) = []
in_locals (func.Inline locals e) = flat_map in_local locals

-- its body, in a context
abbrev pub in_body : BodyContext → FuncKind → List Site
in_body h (func.Import import exact) = []
in_body h (func.Inline locals e) = in_expression h e

-- the function with the types of its locals changed
abbrev pub with_locals : Change → FuncKind → FuncKind
with_locals f (func.Import import exact) = func.Import import exact
with_locals f (func.Inline locals e) = func.Inline (map (mapped_local f) locals) e

-- the function with its body changed
abbrev pub with_body : Change → BodyContext → FuncKind → FuncKind
with_body f h (func.Import import exact) = func.Import import exact
with_body f h (func.Inline locals e) = func.Inline locals (mapped_expression f h e)

-- a table: its type, or that of its inline elements
abbrev pub in_type_of_table : TableKind → List Site
in_type_of_table (table.Import import ty) = check_sites (in_table_type ty)
in_type_of_table (table.Normal ty init) = check_sites (in_table_type ty)
in_type_of_table (table.Inline ty is64 shared elements) = check_sites (in_ref ty)

-- its initial value, or its inline elements
abbrev pub in_init : TableKind → List Site
in_init (table.Import import ty) = []
in_init (table.Normal ty init) = if_there in_constant init
in_init (table.Inline ty is64 shared elements) = in_payload elements

-- the table with its type changed
abbrev pub with_table_type : Change → TableKind → TableKind
with_table_type f (table.Import import ty) = table.Import import (mapped_table_type f.index ty)
with_table_type f (table.Normal ty init) = table.Normal (mapped_table_type f.index ty) init
with_table_type f (table.Inline ty is64 shared elements) = table.Inline (mapped_ref f.index ty) is64 shared elements

-- the table with its initial value changed
abbrev pub with_init : Change → TableKind → TableKind
with_init f (table.Import import ty) = table.Import import ty
with_init f (table.Inline ty is64 shared elements) = table.Inline ty is64 shared (mapped_payload f elements)
with_init f (table.Normal ty init) = table.Normal ty (option_map (mapped_constant f) init)

-- an element segment: its table
abbrev pub in_elem_table : ElemKind → List Site
in_elem_table elem.Passive = []
in_elem_table elem.Declared = []
in_elem_table (elem.Active table offset) = if_there (at_index space.Table) table

-- its offset
abbrev pub in_elem_offset : ElemKind → List Site
in_elem_offset elem.Passive = []
in_elem_offset elem.Declared = []
in_elem_offset (elem.Active table offset) = in_constant offset

-- the segment with its table changed
abbrev pub with_elem_table : Change → ElemKind → ElemKind
with_elem_table f elem.Passive = elem.Passive
with_elem_table f elem.Declared = elem.Declared
with_elem_table f (elem.Active table offset) = elem.Active (option_map (f.index space.Table) table) offset

-- the segment with its offset changed
abbrev pub with_elem_offset : Change → ElemKind → ElemKind
with_elem_offset f elem.Passive = elem.Passive
with_elem_offset f elem.Declared = elem.Declared
with_elem_offset f (elem.Active table offset) = elem.Active table (mapped_constant f offset)

-- its elements
abbrev pub in_elements : ElemPayload → List Site
in_elements (payload.Indices is) = flat_map (at_index space.Func) is
in_elements (payload.Exprs ty es) = flat_map in_constant es

-- the type of its expressions
abbrev pub in_element_type : ElemPayload → List Site
in_element_type (payload.Indices is) = []
in_element_type (payload.Exprs ty es) = check_sites (in_ref ty)

-- the segment with its elements changed
abbrev pub with_elements : Change → ElemPayload → ElemPayload
with_elements f (payload.Indices is) = payload.Indices (map (f.index space.Func) is)
with_elements f (payload.Exprs ty es) = payload.Exprs ty (map (mapped_constant f) es)

-- the segment with the type of its expressions changed
abbrev pub with_element_type : Change → ElemPayload → ElemPayload
with_element_type f (payload.Indices is) = payload.Indices is
with_element_type f (payload.Exprs ty es) = payload.Exprs (mapped_ref f.index ty) es

-- a data segment: its memory
abbrev pub in_data_memory : DataKind → List Site
in_data_memory data_kind.Passive = []
in_data_memory (data_kind.Active memory offset) = at_index space.Memory memory

-- its offset
abbrev pub in_data_offset : DataKind → List Site
in_data_offset data_kind.Passive = []
in_data_offset (data_kind.Active memory offset) = in_constant offset

-- the segment with its memory changed
abbrev pub with_data_memory : Change → DataKind → DataKind
with_data_memory f data_kind.Passive = data_kind.Passive
with_data_memory f (data_kind.Active memory offset) = data_kind.Active (f.index space.Memory memory) offset

-- the segment with its offset changed
abbrev pub with_data_offset : Change → DataKind → DataKind
with_data_offset f data_kind.Passive = data_kind.Passive
with_data_offset f (data_kind.Active memory offset) = data_kind.Active memory (mapped_constant f offset)

-- a `resume` handler: its tag
abbrev pub in_handler_tag : Handle → List Site
in_handler_tag (handle.OnLabel e l) = at_index space.Tag e
in_handler_tag (handle.OnSwitch e) = at_index space.Tag e

-- its label, if it has one
abbrev pub in_handler_label : Blocks → Handle → List Site
in_handler_label blocks (handle.OnLabel e l) = at_label blocks l
in_handler_label blocks (handle.OnSwitch e) = []

-- the handler with its tag changed
abbrev pub with_handler_tag : Change → Handle → Handle
with_handler_tag f (handle.OnLabel e l) = handle.OnLabel (f.index space.Tag e) l
with_handler_tag f (handle.OnSwitch e) = handle.OnSwitch (f.index space.Tag e)

-- the handler with its label changed
abbrev pub with_handler_label : Change → Blocks → Handle → Handle
with_handler_label f blocks (handle.OnLabel e l) = handle.OnLabel e (f.label blocks l)
with_handler_label f blocks (handle.OnSwitch e) = handle.OnSwitch e
