-- Types and instructions of a resolved module as the validator sees them (validation: types, instructions).
--
-- A type index becomes the canonical index of the type: `cs` has it for each type of the module. What the validator does not cover has no
-- value here.
--
--   (ref null 3)   with canonical indices 0 1 2 0: nullable = true, heap = Defined 0
--   call 5         call 5
use Rattle.std.specs.Prelude.{ℕ, Bool, true, false, List, [], ◌∷◌, length, map, Option, Some, None, option_map, unwrap_or, slice_get}
use Rattle.wast_base.specs.declared.mem_ops.MemOp.{MemOp}
use Rattle.wast_base.specs.declared.lane_ops.MemLaneOp.{MemLaneOp}
use Rattle.wast_valid_tree.specs.Tree as tree
use Rattle.wast_valid_tree.specs.Tree.{FunctionType, Instruction}
use Rattle.wast_valid_tree.specs.Tree.index
use Rattle.wast_valid_tree.specs.Tree.heap
use Rattle.wast_valid_tree.specs.Tree.abstract
use Rattle.wast_valid_tree.specs.Tree.value
use Rattle.wast_valid_tree.specs.Tree.target
use Rattle.wast_valid_tree.specs.Tree.instr as instruction
use Rattle.wast_valid_machine.specs.declared.types.Heap.{Heap}
use Rattle.wast_valid_machine.specs.declared.types.Heap.TheVariants as heaps
use Rattle.wast_valid_machine.specs.declared.types.RefTy.{RefTy}
use Rattle.wast_valid_machine.specs.declared.types.Ty.{Ty}
use Rattle.wast_valid_machine.specs.declared.types.Ty.TheVariants as t
use Rattle.wast_valid_machine.specs.declared.state.Sig.{Sig}
use Rattle.wast_valid_machine.specs.declared.state.Sig.TheVariants as sig
use Rattle.wast_valid.specs.declared.instrs.MemUse.{MemUse}
use Rattle.wast_valid.specs.declared.instrs.Instr.{Instr}
use Rattle.wast_valid.specs.declared.instrs.Instr.TheVariants as i

-- the number of an index; a resolved module has no ids, and an id is 0
unfoldable pub number_of : tree.Index → ℕ
number_of (index.Num n span) = n
number_of (index.Id id) = 0

-- the canonical index of a type
unfoldable pub canonical : List ℕ → ℕ → ℕ
canonical cs n = unwrap_or (slice_get cs n) n

unfoldable pub type_of : List ℕ → tree.Index → ℕ
type_of cs x = canonical cs (number_of x)

-- an abstract heap type
unfoldable pub abstract_of : tree.AbstractHeapType → Option Heap
abstract_of abstract.Func = Some heaps.Funcs
abstract_of abstract.Extern = Some heaps.Externs
abstract_of abstract.Exn = Some heaps.Exns
abstract_of abstract.NoExn = Some heaps.NoExn
abstract_of abstract.Any = Some heaps.Any
abstract_of abstract.Eq = Some heaps.Eqs
abstract_of abstract.Struct = Some heaps.Structs
abstract_of abstract.Array = Some heaps.Arrays
abstract_of abstract.NoFunc = Some heaps.NoFunc
abstract_of abstract.NoExtern = Some heaps.NoExtern
abstract_of abstract.None = Some heaps.NoAny
abstract_of abstract.I31 = Some heaps.I31
abstract_of abstract.Cont = None
abstract_of abstract.NoCont = None

unfoldable pub unshared : Bool → tree.AbstractHeapType → Option Heap
unshared true ty = None
unshared false ty = abstract_of ty

-- a heap type, unless it is shared or exact
unfoldable pub heap_of : List ℕ → tree.HeapType → Option Heap
heap_of cs (heap.Abstract shared ty) = unshared shared ty
heap_of cs (heap.Concrete x) = Some (heaps.Defined (type_of cs x))
heap_of cs (heap.Exact x) = None

-- a reference type
abbrev pub with_null : Bool → Heap → RefTy
with_null nullable h = record { nullable = nullable; heap = h }

unfoldable pub ref_of : List ℕ → tree.RefType → Option RefTy
ref_of cs r = option_map (with_null r.nullable) (heap_of cs r.heap)

-- a value type
unfoldable pub ty_of : List ℕ → tree.ValType → Option Ty
ty_of cs value.I32 = Some t.I32
ty_of cs value.I64 = Some t.I64
ty_of cs value.F32 = Some t.F32
ty_of cs value.F64 = Some t.F64
ty_of cs value.V128 = Some t.V128
ty_of cs (value.Ref r) = option_map t.Ref (ref_of cs r)

-- the results of a block type without parameters
unfoldable pub sig_of_results : List ℕ → List tree.ValType → Option Sig
sig_of_results cs [] = Some sig.Empty
sig_of_results cs (r ∷ []) = option_map sig.One (ty_of cs r)
sig_of_results cs (r ∷ q ∷ rs) = None

-- the type of a block; a resolved block type has no parameters, and at most one result, if it has no index
unfoldable pub sig_of_use : List ℕ → Option tree.Index → Option FunctionType → Option Sig
sig_of_use cs (Some x) f = Some (sig.Func (type_of cs x))
sig_of_use cs None None = Some sig.Empty
sig_of_use cs None (Some f) = sig_of_results cs f.results

-- the type index of a function or of an indirect call; a resolved one has an index
unfoldable pub index_of_use : List ℕ → Option tree.Index → Option ℕ
index_of_use cs None = None
index_of_use cs (Some x) = Some (type_of cs x)

-- an instruction with an immediate, or `Unsupported` if the immediate has no value
unfoldable pub with_heap : Option Heap → Instr
with_heap None = i.Unsupported
with_heap (Some h) = i.ref_null h

unfoldable pub with_test : Option RefTy → Instr
with_test None = i.Unsupported
with_test (Some r) = i.ref_test r

unfoldable pub with_cast : Option RefTy → Instr
with_cast None = i.Unsupported
with_cast (Some r) = i.ref_cast r

unfoldable pub with_block : Option Sig → Instr
with_block None = i.Unsupported
with_block (Some b) = i.block b

unfoldable pub with_loop : Option Sig → Instr
with_loop None = i.Unsupported
with_loop (Some b) = i.loop_ b

unfoldable pub with_if : Option Sig → Instr
with_if None = i.Unsupported
with_if (Some b) = i.if_ b

unfoldable pub with_callee : Option ℕ → ℕ → Instr
with_callee None x = i.Unsupported
with_callee (Some n) x = i.call_indirect n x

unfoldable pub with_tail_callee : Option ℕ → ℕ → Instr
with_tail_callee None x = i.Unsupported
with_tail_callee (Some n) x = i.return_call_indirect n x

unfoldable pub with_type : Option Ty → Instr
with_type None = i.Unsupported
with_type (Some ty) = i.select_typed ty

unfoldable pub select_of : List ℕ → Option (List tree.ValType) → Instr
select_of cs None = i.select
select_of cs (Some []) = i.select_many 0
select_of cs (Some (ty ∷ [])) = with_type (ty_of cs ty)
select_of cs (Some (ty ∷ uy ∷ rest)) = i.select_many (length (ty ∷ uy ∷ rest))

-- a memory argument, if it is of a memory and has no ordering
unfoldable pub mem_use_of : tree.MemArg → tree.MemArgTarget → Option tree.MemArgOrdering → Option MemUse
mem_use_of m (target.Memory x) None = Some (record { memory = number_of x; align = m.align; offset = m.offset })
mem_use_of m x o = None

unfoldable pub mem_of : tree.MemArg → Option MemUse
mem_of m = mem_use_of m m.target m.ordering

unfoldable pub with_mem : MemOp → Option MemUse → Instr
with_mem op None = i.Unsupported
with_mem op (Some m) = i.Mem op m

unfoldable pub with_mem_lane : MemLaneOp → Option MemUse → ℕ → Instr
with_mem_lane op None l = i.Unsupported
with_mem_lane op (Some m) l = i.MemLane op m l

-- one instruction
unfoldable pub instr_of : List ℕ → Instruction → Instr
instr_of cs (instruction.Plain op) = i.Plain op
instr_of cs (instruction.Lane op a) = i.Lane op a.lane
instr_of cs (instruction.Mem op m) = with_mem op (mem_of m)
instr_of cs (instruction.MemLane op a) = with_mem_lane op (mem_of a.memarg) a.lane.lane
instr_of cs (instruction.br x) = i.br (number_of x)
instr_of cs (instruction.br_if x) = i.br_if (number_of x)
instr_of cs (instruction.call x) = i.call (number_of x)
instr_of cs (instruction.return_call x) = i.return_call (number_of x)
instr_of cs (instruction.call_ref x) = i.call_ref (type_of cs x)
instr_of cs (instruction.return_call_ref x) = i.return_call_ref (type_of cs x)
instr_of cs (instruction.local_get x) = i.local_get (number_of x)
instr_of cs (instruction.local_set x) = i.local_set (number_of x)
instr_of cs (instruction.local_tee x) = i.local_tee (number_of x)
instr_of cs (instruction.global_get x) = i.global_get (number_of x)
instr_of cs (instruction.global_set x) = i.global_set (number_of x)
instr_of cs (instruction.table_get a) = i.table_get (number_of a.dst)
instr_of cs (instruction.table_set a) = i.table_set (number_of a.dst)
instr_of cs (instruction.table_size a) = i.table_size (number_of a.dst)
instr_of cs (instruction.table_grow a) = i.table_grow (number_of a.dst)
instr_of cs (instruction.table_fill a) = i.table_fill (number_of a.dst)
instr_of cs (instruction.table_copy a) = i.table_copy (number_of a.dst) (number_of a.src)
instr_of cs (instruction.table_init a) = i.table_init (number_of a.table) (number_of a.elem)
instr_of cs (instruction.elem_drop x) = i.elem_drop (number_of x)
instr_of cs (instruction.memory_size a) = i.memory_size (number_of a.mem)
instr_of cs (instruction.memory_grow a) = i.memory_grow (number_of a.mem)
instr_of cs (instruction.memory_fill a) = i.memory_fill (number_of a.mem)
instr_of cs (instruction.memory_copy a) = i.memory_copy (number_of a.dst) (number_of a.src)
instr_of cs (instruction.memory_init a) = i.memory_init (number_of a.mem) (number_of a.segment)
instr_of cs (instruction.data_drop x) = i.data_drop (number_of x)
instr_of cs (instruction.ref_func x) = i.ref_func (number_of x)
instr_of cs (instruction.br_on_null x) = i.br_on_null (number_of x)
instr_of cs (instruction.br_on_non_null x) = i.br_on_non_null (number_of x)
instr_of cs (instruction.struct_new x) = i.struct_new (type_of cs x)
instr_of cs (instruction.struct_get a) = i.struct_get (type_of cs a.owner) (number_of a.field)
instr_of cs (instruction.block b) = with_block (sig_of_use cs b.ty.index b.ty.inline)
instr_of cs (instruction.loop_ b) = with_loop (sig_of_use cs b.ty.index b.ty.inline)
instr_of cs (instruction.if_ b) = with_if (sig_of_use cs b.ty.index b.ty.inline)
instr_of cs (instruction.else_ label) = i.else_
instr_of cs (instruction.end_ label) = i.end_
instr_of cs (instruction.br_table b) = i.br_table (map number_of b.labels) (number_of b.default)
instr_of cs (instruction.call_indirect c) = with_callee (index_of_use cs c.ty.index) (number_of c.table)
instr_of cs (instruction.return_call_indirect c) = with_tail_callee (index_of_use cs c.ty.index) (number_of c.table)
instr_of cs (instruction.select s) = select_of cs s.tys
instr_of cs (instruction.i32_const n) = i.Const t.I32
instr_of cs (instruction.i64_const n) = i.Const t.I64
instr_of cs (instruction.f32_const n) = i.Const t.F32
instr_of cs (instruction.f64_const n) = i.Const t.F64
instr_of cs (instruction.v128_const n) = i.Const t.V128
instr_of cs (instruction.ref_null h) = with_heap (heap_of cs h)
instr_of cs (instruction.ref_test a) = with_test (ref_of cs a.rt)
instr_of cs (instruction.ref_cast a) = with_cast (ref_of cs a.rt)
instr_of cs x = i.Unsupported
