-- Function bodies that are stable: no check in them can fail, and resolving does not change them (text format: indices, type
-- uses, labels).
--
-- In a stable body each index is a number. A block has either an index or a short inline type, an indirect call has an
-- index alone, and no `else` or `end` repeats a label. This definition is a test that sees one instruction at a time. So
-- it does not find each such body: one with instructions on continuations or descriptors does not count as stable.
--
--   (func (type 0) (param i32) local.get 0 call 1)      stable
--   (func (type 0) call $f)                             not stable: an id
--   (func (type 0) block (type 1) (param i32) end)      not stable: whether both types match is checked
--   (func (type 0) block $l (result i32) .. end $l)     not stable: the label at `end` is checked
use Rattle.std.specs.Prelude.{Bool, true, false, ◌&&◌, is_none, List, Option, Some, None}
use Rattle.std.specs.List.{list_all}
use Rattle.wast_base.specs.Ids.{is_number}
use Rattle.wast_tree_nodes.specs.Types.{is_short}
use Rattle.wast_resolve.specs.Tree.{Index, ValType, HeapType, FunctionType, TryTable, TryTableCatch, TryTableCatchKind, BrTableIndices}
use Rattle.wast_resolve.specs.Tree.{CallIndirect, MemArgTarget, Instruction, FuncKind, ModuleField}
use Rattle.wast_resolve.specs.Tree.value
use Rattle.wast_resolve.specs.Tree.heap
use Rattle.wast_resolve.specs.Tree.caught
use Rattle.wast_resolve.specs.Tree.target
use Rattle.wast_resolve.specs.Tree.instr
use Rattle.wast_resolve.specs.Tree.func
use Rattle.wast_resolve.specs.Tree.field

-- whether the index in a heap type is a number, if there is one
abbrev pub is_stable_heap : HeapType → Bool
is_stable_heap (heap.Abstract shared ty) = true
is_stable_heap (heap.Concrete i) = is_number i
is_stable_heap (heap.Exact i) = is_number i

-- the same for a value type
abbrev pub is_stable_val : ValType → Bool
is_stable_val value.I32 = true
is_stable_val value.I64 = true
is_stable_val value.F32 = true
is_stable_val value.F64 = true
is_stable_val value.V128 = true
is_stable_val (value.Ref r) = is_stable_heap r.heap

-- whether an inline type is short, and its indices are numbers
abbrev pub is_stable_inline : FunctionType → Bool
is_stable_inline t = is_short t && list_all is_stable_val t.results

-- whether the type use of a block has an index alone, or such an inline type alone
abbrev pub is_stable_block : Option Index → Option FunctionType → Bool
is_stable_block (Some i) None = is_number i
is_stable_block (Some i) (Some t) = false
is_stable_block None (Some t) = is_stable_inline t
is_stable_block None None = false

-- whether the type use of an indirect call has an index alone
abbrev pub is_stable_use : Option Index → Option FunctionType → Bool
is_stable_use (Some i) None = is_number i
is_stable_use (Some i) (Some t) = false
is_stable_use None t = false

-- whether the table and the type use of an indirect call are numbers
abbrev pub is_stable_call : CallIndirect → Bool
is_stable_call c = is_number c.table && is_stable_use c.ty.index c.ty.inline

-- whether the memory or array of a memory argument is a number
abbrev pub is_stable_target : MemArgTarget → Bool
is_stable_target (target.Memory i) = is_number i
is_stable_target (target.Array i) = is_number i

-- whether the types of a `select` have no id
abbrev pub is_stable_select : Option (List ValType) → Bool
is_stable_select None = true
is_stable_select (Some ts) = list_all is_stable_val ts

-- whether the labels of `br_table` are numbers
abbrev pub is_stable_table : BrTableIndices → Bool
is_stable_table t = list_all is_number t.labels && is_number t.default

-- whether the tag of a catch clause is a number, if there is one
abbrev pub is_stable_caught : TryTableCatchKind → Bool
is_stable_caught (caught.Catch e) = is_number e
is_stable_caught (caught.CatchRef e) = is_number e
is_stable_caught caught.CatchAll = true
is_stable_caught caught.CatchAllRef = true

-- whether the tag and the label of a catch clause are numbers
abbrev pub is_stable_catch : TryTableCatch → Bool
is_stable_catch c = is_stable_caught c.kind && is_number c.label

-- whether the type and the catch clauses of `try_table` are stable
abbrev pub is_stable_try : TryTable → Bool
is_stable_try t = is_stable_block t.block.ty.index t.block.ty.inline && list_all is_stable_catch t.catches

-- whether two indices are numbers
abbrev pub are_numbers : Index → Index → Bool
are_numbers i j = is_number i && is_number j

-- whether an instruction is stable
abbrev pub is_stable : Instruction → Bool
is_stable (instr.Plain op) = true
is_stable (instr.Mem op m) = is_stable_target m.target
is_stable (instr.Lane op a) = true
is_stable (instr.MemLane op a) = is_stable_target a.memarg.target
is_stable (instr.block b) = is_stable_block b.ty.index b.ty.inline
is_stable (instr.loop_ b) = is_stable_block b.ty.index b.ty.inline
is_stable (instr.if_ b) = is_stable_block b.ty.index b.ty.inline
is_stable (instr.else_ label) = is_none label
is_stable (instr.try_ b) = is_stable_block b.ty.index b.ty.inline
is_stable (instr.try_table t) = is_stable_try t
is_stable (instr.end_ label) = is_none label
is_stable (instr.br_table t) = is_stable_table t
is_stable (instr.call_indirect c) = is_stable_call c
is_stable (instr.return_call_indirect c) = is_stable_call c
is_stable (instr.select t) = is_stable_select t.tys
is_stable (instr.i32_const n) = true
is_stable (instr.i64_const n) = true
is_stable (instr.f32_const n) = true
is_stable (instr.f64_const n) = true
is_stable (instr.ref_null t) = is_stable_heap t
is_stable (instr.array_new_fixed a) = is_number a.array
is_stable (instr.ref_test a) = is_stable_heap a.rt.heap
is_stable (instr.ref_cast a) = is_stable_heap a.rt.heap
is_stable (instr.v128_const c) = true
is_stable (instr.i8x16_shuffle lanes) = true
is_stable (instr.atomic_fence o) = true
is_stable (instr.catch e) = is_number e
is_stable (instr.throw e) = is_number e
is_stable (instr.rethrow l) = is_number l
is_stable (instr.br l) = is_number l
is_stable (instr.br_if l) = is_number l
is_stable (instr.call f) = is_number f
is_stable (instr.return_call f) = is_number f
is_stable (instr.call_ref t) = is_number t
is_stable (instr.return_call_ref t) = is_number t
is_stable (instr.delegate l) = is_number l
is_stable (instr.local_get x) = is_number x
is_stable (instr.local_set x) = is_number x
is_stable (instr.local_tee x) = is_number x
is_stable (instr.global_get g) = is_number g
is_stable (instr.global_set g) = is_number g
is_stable (instr.table_get a) = is_number a.dst
is_stable (instr.table_set a) = is_number a.dst
is_stable (instr.memory_size a) = is_number a.mem
is_stable (instr.memory_grow a) = is_number a.mem
is_stable (instr.ref_func f) = is_number f
is_stable (instr.br_on_null l) = is_number l
is_stable (instr.br_on_non_null l) = is_number l
is_stable (instr.struct_new t) = is_number t
is_stable (instr.struct_new_default t) = is_number t
is_stable (instr.struct_get a) = are_numbers a.owner a.field
is_stable (instr.struct_get_s a) = are_numbers a.owner a.field
is_stable (instr.struct_get_u a) = are_numbers a.owner a.field
is_stable (instr.struct_set a) = are_numbers a.owner a.field
is_stable (instr.array_new t) = is_number t
is_stable (instr.array_new_default t) = is_number t
is_stable (instr.array_new_data a) = are_numbers a.array a.data_idx
is_stable (instr.array_new_elem a) = are_numbers a.array a.elem_idx
is_stable (instr.array_get t) = is_number t
is_stable (instr.array_get_s t) = is_number t
is_stable (instr.array_get_u t) = is_number t
is_stable (instr.array_set t) = is_number t
is_stable (instr.array_fill a) = is_number a.array
is_stable (instr.array_copy a) = are_numbers a.dest_array a.src_array
is_stable (instr.array_init_data a) = are_numbers a.array a.segment
is_stable (instr.array_init_elem a) = are_numbers a.array a.segment
is_stable (instr.memory_init a) = are_numbers a.segment a.mem
is_stable (instr.data_drop d) = is_number d
is_stable (instr.memory_copy a) = are_numbers a.src a.dst
is_stable (instr.memory_fill a) = is_number a.mem
is_stable (instr.table_init a) = are_numbers a.elem a.table
is_stable (instr.elem_drop e) = is_number e
is_stable (instr.table_copy a) = are_numbers a.dst a.src
is_stable (instr.table_grow a) = is_number a.dst
is_stable (instr.table_size a) = is_number a.dst
is_stable (instr.table_fill a) = is_number a.dst
is_stable i = false

-- whether the body of a function is stable; an inline import has none
abbrev pub is_stable_kind : FuncKind → Bool
is_stable_kind (func.Import import exact) = true
is_stable_kind (func.Inline locals e) = list_all is_stable e.instrs

-- the same for a field, if it is a function
abbrev pub is_stable_field : ModuleField → Bool
is_stable_field (field.Func f) = is_stable_kind f.kind
is_stable_field x = true

-- whether each function of a list of fields has a stable body
abbrev pub has_stable_bodies : List ModuleField → Bool
has_stable_bodies fields = list_all is_stable_field fields
