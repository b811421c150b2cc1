-- Parts of a resolved module as values of the binary format: types, immediates, instructions and bodies (binary format:
-- types, instructions).
--
-- An index becomes its number. Ids, labels and names of parameters have no value here. A definition is total: an id
-- left in an index would become 0, but no such module may be encoded (`Encodable`).
--
--   (ref null 3)           nullable = true, heap_type = Concrete 3
--   i32.load align=4       the memory argument has align = 2, because the binary format stores the logarithm
--   call 5                 the entry of `call` in the opcode table, with the number 5
use Rattle.std.specs.Int.{w8, w16, w32, w64, w128, cast_signed, cast_unsigned, from_le_bytes, to_le_bytes, trailing_zeros}
use Rattle.std.specs.Prelude.{ℕ, ℤ, Bool, true, List, [], ◌∷◌, map, flat_map, Option, Some, None, unwrap_or, option_map}
use Rattle.wast_core_conv.specs.Tree as tree
use Rattle.wast_core_conv.specs.Tree.{Index, StructField, FunctionType, TypeUse, InnerTypeKind, TypeDef, ItemKind, F32, F64, TryTableCatch, TryTableCatchKind, Instruction, Expression, Local, FuncKind}
use Rattle.wast_core_conv.specs.Tree.index
use Rattle.wast_core_conv.specs.Tree.heap
use Rattle.wast_core_conv.specs.Tree.abstract
use Rattle.wast_core_conv.specs.Tree.value as val
use Rattle.wast_core_conv.specs.Tree.storage
use Rattle.wast_core_conv.specs.Tree.inner
use Rattle.wast_core_conv.specs.Tree.tag
use Rattle.wast_core_conv.specs.Tree.kind as item
use Rattle.wast_core_conv.specs.Tree.target
use Rattle.wast_core_conv.specs.Tree.caught
use Rattle.wast_core_conv.specs.Tree.ordering
use Rattle.wast_core_conv.specs.Tree.access
use Rattle.wast_core_conv.specs.Tree.handle
use Rattle.wast_core_conv.specs.Tree.v128
use Rattle.wast_core_conv.specs.Tree.instr as instruction
use Rattle.wast_core_conv.specs.Tree.func
use Rattle.wast_core_conv.specs.Tree.export
use Rattle.wasm_ops.specs.declared.ref_types.AbstractHeapType.{AbstractHeapType}
use Rattle.wasm_ops.specs.declared.ref_types.AbstractHeapType.TheVariants as heaps
use Rattle.wasm_ops.specs.declared.ref_types.HeapType.{HeapType}
use Rattle.wasm_ops.specs.declared.ref_types.HeapType.TheVariants as out_heap
use Rattle.wasm_ops.specs.declared.ref_types.RefType.{RefType}
use Rattle.wasm_ops.specs.declared.types.ValType.{ValType}
use Rattle.wasm_ops.specs.declared.types.ValType.TheVariants as out
use Rattle.wasm_ops.specs.declared.types.StorageType.{StorageType}
use Rattle.wasm_ops.specs.declared.types.StorageType.TheVariants as out_storage
use Rattle.wasm_ops.specs.declared.types.FieldType.{FieldType}
use Rattle.wasm_ops.specs.declared.types.StructType.{StructType}
use Rattle.wasm_ops.specs.declared.types.ArrayType.{ArrayType}
use Rattle.wasm_ops.specs.declared.types.FuncType.{FuncType}
use Rattle.wasm_ops.specs.declared.types.ContType.{ContType}
use Rattle.wasm_ops.specs.declared.types.CompositeInnerType.{CompositeInnerType}
use Rattle.wasm_ops.specs.declared.types.CompositeInnerType.TheVariants as composite
use Rattle.wasm_ops.specs.declared.types.SubType.{SubType}
use Rattle.wasm_ops.specs.declared.types.ExportKind.{ExportKind}
use Rattle.wasm_ops.specs.declared.types.ExportKind.TheVariants as kind
use Rattle.wasm_ops.specs.declared.entities.TableType.{TableType}
use Rattle.wasm_ops.specs.declared.entities.MemoryType.{MemoryType}
use Rattle.wasm_ops.specs.declared.entities.GlobalType.{GlobalType}
use Rattle.wasm_ops.specs.declared.entities.TagType.{TagType}
use Rattle.wasm_ops.specs.declared.entities.EntityType.{EntityType}
use Rattle.wasm_ops.specs.declared.entities.EntityType.TheVariants as entity
use Rattle.wasm_ops.specs.declared.memargs.MemArg.{MemArg}
use Rattle.wasm_ops.specs.declared.memargs.MemArgTarget.{MemArgTarget}
use Rattle.wasm_ops.specs.declared.memargs.MemArgTarget.TheVariants as out_target
use Rattle.wasm_ops.specs.declared.blocks.BlockType.{BlockType}
use Rattle.wasm_ops.specs.declared.blocks.BlockType.TheVariants as out_block
use Rattle.wasm_ops.specs.declared.blocks.Catch.{Catch}
use Rattle.wasm_ops.specs.declared.blocks.Catch.TheVariants as out_catch
use Rattle.wasm_ops.specs.declared.blocks.Handle.{Handle}
use Rattle.wasm_ops.specs.declared.blocks.Handle.TheVariants as out_handle
use Rattle.wasm_ops.specs.declared.casts.CastOp.TheVariants as cast
use Rattle.wasm_ops.specs.declared.casts.BrCastOp.TheVariants as branch
use Rattle.wasm_ops.specs.declared.memargs.Ordering.{Ordering}
use Rattle.wasm_ops.specs.declared.memargs.Ordering.TheVariants as out_ordering
use Rattle.wasm_ops.specs.declared.memargs.MemArgOrdering.{MemArgOrdering}
use Rattle.wasm_ops.specs.declared.memargs.MemArgOrdering.TheVariants as out_access
use Rattle.wasm_ops.specs.declared.opcodes.Opcode.TheVariants.{Byte}
use Rattle.wasm_ops.specs.declared.vectors.LanesOp.TheVariants as lanes
use Rattle.wasm_ops.specs.declared.control.BlockOp.TheVariants as opener
use Rattle.wasm_ops.specs.declared.control.Delimiter.TheVariants as delimiter
use Rattle.wast_base.specs.declared.index_ops.IndexOp.TheVariants as op
use Rattle.wast_base.specs.declared.index_ops.IndexPairOp.TheVariants as pair
use Rattle.wasm_ops.specs.CastInstrs.{cast_instr, br_cast_instr, fence_instr}
use Rattle.wasm_ops.specs.ConstantInstrs.{i32_const_instr, i64_const_instr, f32_const_instr, f64_const_instr, ref_null_instr}
use Rattle.wasm_ops.specs.ControlInstrs.{block_instr, delimiter_instr, br_table_instr, try_table_instr}
use Rattle.wasm_ops.specs.IndexInstrs.{index_instr, index_pair_instr}
use Rattle.wasm_ops.specs.MemoryInstrs.{mem_instr}
use Rattle.wasm_ops.specs.PlainInstrs.{plain_instr}
use Rattle.wasm_ops.specs.SelectInstrs.{select_instr}
use Rattle.wasm_ops.specs.Table.{Instr}
use Rattle.wasm_ops.specs.VectorInstrs.{lanes_instr, lane_instr, mem_lane_instr}
use Rattle.wasm_out.specs.Bodies.{Body}

-- The number of an index. A resolved module has no ids; an id would be 0.
abbrev pub index_value : Index → ℕ
index_value (index.Num n span) = n
index_value (index.Id id) = 0

-- An abstract heap type.
abbrev pub as_abstract_type : tree.AbstractHeapType → AbstractHeapType
as_abstract_type abstract.Func = heaps.Func
as_abstract_type abstract.Extern = heaps.Extern
as_abstract_type abstract.Exn = heaps.Exn
as_abstract_type abstract.NoExn = heaps.NoExn
as_abstract_type abstract.Any = heaps.Any
as_abstract_type abstract.Eq = heaps.Eq
as_abstract_type abstract.Struct = heaps.Struct
as_abstract_type abstract.Array = heaps.Array
as_abstract_type abstract.NoFunc = heaps.NoFunc
as_abstract_type abstract.NoExtern = heaps.NoExtern
as_abstract_type abstract.None = heaps.None
as_abstract_type abstract.I31 = heaps.I31
as_abstract_type abstract.Cont = heaps.Cont
as_abstract_type abstract.NoCont = heaps.NoCont

-- A heap type: an abstract one, or a type index.
abbrev pub as_heap_type : tree.HeapType → HeapType
as_heap_type (heap.Abstract shared ty) = out_heap.Abstract shared (as_abstract_type ty)
as_heap_type (heap.Concrete i) = out_heap.Concrete (index_value i)
as_heap_type (heap.Exact i) = out_heap.Exact (index_value i)

-- A reference type.
abbrev pub as_ref_type : tree.RefType → RefType
as_ref_type r = record { nullable = r.nullable; heap_type = as_heap_type r.heap }

-- A value type.
abbrev pub as_val_type : tree.ValType → ValType
as_val_type val.I32 = out.I32
as_val_type val.I64 = out.I64
as_val_type val.F32 = out.F32
as_val_type val.F64 = out.F64
as_val_type val.V128 = out.V128
as_val_type (val.Ref r) = out.Ref (as_ref_type r)

-- The type that a struct field or an array element is stored as.
abbrev pub as_storage_type : tree.StorageType → StorageType
as_storage_type storage.I8 = out_storage.I8
as_storage_type storage.I16 = out_storage.I16
as_storage_type (storage.Val t) = out_storage.Val (as_val_type t)

-- A field of a struct type.
abbrev pub as_field_type : StructField → FieldType
as_field_type f = record { element_type = as_storage_type f.ty; mutable = f.mutable }

-- A struct type.
abbrev pub as_struct_type : tree.StructType → StructType
as_struct_type t = record { fields = map as_field_type t.fields }

-- An array type.
abbrev pub as_array_type : tree.ArrayType → ArrayType
as_array_type t = record { 0 = record { element_type = as_storage_type t.ty; mutable = t.mutable } }

-- A function type: the types of its parameters and results, without ids.
abbrev pub as_func_type : FunctionType → FuncType
as_func_type t = record { params = map (λ p. as_val_type p.2) t.params; results = map as_val_type t.results }

-- A continuation type: the index of its function type.
abbrev pub as_cont_type : tree.ContType → ContType
as_cont_type t = record { 0 = index_value t.0 }

-- A composite type.
abbrev pub as_inner_type : InnerTypeKind → CompositeInnerType
as_inner_type (inner.Func t) = composite.Func (as_func_type t)
as_inner_type (inner.Struct t) = composite.Struct (as_struct_type t)
as_inner_type (inner.Array t) = composite.Array (as_array_type t)
as_inner_type (inner.Cont t) = composite.Cont (as_cont_type t)

-- Whether a type definition is final. Without `sub` it is.
abbrev pub is_final : Option Bool → Bool
is_final None = true
is_final (Some final) = final

-- A type definition: its composite type, its supertypes, and whether it is final.
abbrev pub as_sub_type : TypeDef → SubType
as_sub_type d = record {
  composite_type = record { inner = as_inner_type d.kind; shared = d.shared; descriptor = option_map index_value d.descriptor; describes = option_map index_value d.describes };
  is_final = is_final d.final_type;
  supertype_idxs = map index_value d.parents;
}

-- The type index of a type use. Without an index it is 0, and then it is never encoded.
abbrev pub type_index : TypeUse FunctionType → ℕ
type_index u = unwrap_or (option_map index_value u.index) 0

-- A table type.
abbrev pub as_table_type : tree.TableType → TableType
as_table_type t = record { element_type = as_ref_type t.elem; minimum = t.limits.min; maximum = t.limits.max; table64 = t.limits.is64; shared = t.shared }

-- A memory type.
abbrev pub as_memory_type : tree.MemoryType → MemoryType
as_memory_type t = record { minimum = t.limits.min; maximum = t.limits.max; memory64 = t.limits.is64; shared = t.shared; page_size_log2 = t.page_size_log2 }

-- A global type.
abbrev pub as_global_type : tree.GlobalType → GlobalType
as_global_type t = record { val_type = as_val_type t.ty; mutable = t.mutable; shared = t.shared }

-- A tag type: the index of its function type.
abbrev pub as_tag_type : tree.TagType → TagType
as_tag_type (tag.Exception u) = record { func_type_idx = type_index u }

-- The type of an imported item.
abbrev pub as_entity_type : ItemKind → EntityType
as_entity_type (item.Func u) = entity.Function (type_index u)
as_entity_type (item.FuncExact u) = entity.FunctionExact (type_index u)
as_entity_type (item.Table t) = entity.Table (as_table_type t)
as_entity_type (item.Memory t) = entity.Memory (as_memory_type t)
as_entity_type (item.Global t) = entity.Global (as_global_type t)
as_entity_type (item.Tag t) = entity.Tag (as_tag_type t)

-- A memory ordering.
abbrev pub as_ordering : tree.Ordering → Ordering
as_ordering ordering.SeqCst = out_ordering.SeqCst
as_ordering ordering.AcqRel = out_ordering.AcqRel

-- The ordering of a memory argument.
abbrev pub as_mem_arg_ordering : tree.MemArgOrdering → MemArgOrdering
as_mem_arg_ordering (access.Op o) = out_access.Op (as_ordering o)
as_mem_arg_ordering (access.Rmw o) = out_access.Rmw (as_ordering o)

-- The ordering of a fence. Without one in the source it is sequentially consistent.
abbrev pub fence_ordering : Option tree.Ordering → Ordering
fence_ordering None = out_ordering.SeqCst
fence_ordering (Some o) = as_ordering o

-- A handler of a `resume` instruction.
abbrev pub as_handle : tree.Handle → Handle
as_handle (handle.OnLabel e l) = out_handle.OnLabel (index_value e) (index_value l)
as_handle (handle.OnSwitch e) = out_handle.OnSwitch (index_value e)

-- The target of a memory argument: a memory, or the type of an array.
abbrev pub as_mem_arg_target : tree.MemArgTarget → MemArgTarget
as_mem_arg_target (target.Memory i) = out_target.Memory (index_value i)
as_mem_arg_target (target.Array i) = out_target.Array (index_value i)

-- A memory argument. Its alignment is the logarithm of the alignment in the AST.
abbrev pub as_mem_arg : tree.MemArg → MemArg
as_mem_arg m = record { align = trailing_zeros w64 m.align; target = as_mem_arg_target m.target; offset = m.offset; ordering = option_map as_mem_arg_ordering m.ordering }

-- The block type of a short inline type by its results: no result, or one.
abbrev pub short_block_type : List tree.ValType → BlockType
short_block_type [] = out_block.Empty
short_block_type (t ∷ ts) = out_block.Result (as_val_type t)

-- The block type of a short inline type, which has no parameters and at most one result.
abbrev pub short_type : Option FunctionType → BlockType
short_type None = out_block.Empty
short_type (Some t) = short_block_type t.results

-- The block type of a type use: its index, or else its short inline type.
abbrev pub use_as_block : Option Index → Option FunctionType → BlockType
use_as_block (Some i) inline = out_block.FunctionType (index_value i)
use_as_block None inline = short_type inline

-- The type of a block.
abbrev pub as_block_type : tree.BlockType → BlockType
as_block_type b = use_as_block b.ty.index b.ty.inline

-- What a catch clause of `try_table` catches, with the label that it branches to.
abbrev pub as_caught : TryTableCatchKind → ℕ → Catch
as_caught (caught.Catch e) label = out_catch.One (index_value e) label
as_caught (caught.CatchRef e) label = out_catch.OneRef (index_value e) label
as_caught caught.CatchAll label = out_catch.All label
as_caught caught.CatchAllRef label = out_catch.AllRef label

-- A catch clause of `try_table`.
abbrev pub as_catch : TryTableCatch → Catch
as_catch c = as_caught c.kind (index_value c.label)

-- The bytes of 8-bit lanes.
abbrev pub i8_bytes : List ℤ → List ℕ
i8_bytes lanes = map (cast_unsigned w8) lanes

-- The bytes of 16-bit lanes, each in little-endian order.
abbrev pub i16_bytes : List ℤ → List ℕ
i16_bytes lanes = flat_map (λ z. to_le_bytes w16 (cast_unsigned w16 z)) lanes

-- The bytes of 32-bit lanes, each in little-endian order.
abbrev pub i32_bytes : List ℤ → List ℕ
i32_bytes lanes = flat_map (λ z. to_le_bytes w32 (cast_unsigned w32 z)) lanes

-- The bytes of 64-bit lanes, each in little-endian order.
abbrev pub i64_bytes : List ℤ → List ℕ
i64_bytes lanes = flat_map (λ z. to_le_bytes w64 (cast_unsigned w64 z)) lanes

-- The bytes of 32-bit floats, by their bits.
abbrev pub f32_bytes : List F32 → List ℕ
f32_bytes lanes = flat_map (λ x. to_le_bytes w32 x.bits) lanes

-- The bytes of 64-bit floats, by their bits.
abbrev pub f64_bytes : List F64 → List ℕ
f64_bytes lanes = flat_map (λ x. to_le_bytes w64 x.bits) lanes

-- The 16 bytes of a vector.
abbrev pub lane_bytes : tree.V128Const → List ℕ
lane_bytes (v128.I8x16 lanes) = i8_bytes lanes
lane_bytes (v128.I16x8 lanes) = i16_bytes lanes
lane_bytes (v128.I32x4 lanes) = i32_bytes lanes
lane_bytes (v128.I64x2 lanes) = i64_bytes lanes
lane_bytes (v128.F32x4 lanes) = f32_bytes lanes
lane_bytes (v128.F64x2 lanes) = f64_bytes lanes

-- A vector as a 128-bit number.
abbrev pub as_v128 : tree.V128Const → ℤ
as_v128 c = cast_signed w128 (from_le_bytes w128 (lane_bytes c))

-- The value of an unsupported instruction. The opcode table has no entry with this opcode, so it is never encoded.
abbrev pub no_row : Instr
no_row = record { row = record { opcode = Byte 0xff; kinds = [] }; numbers = tt }

-- An instruction: its entry in the opcode table, with the numbers of its immediates.
abbrev pub as_instr : Instruction → Instr
as_instr (instruction.Plain o) = plain_instr o
as_instr (instruction.Mem o m) = mem_instr o (as_mem_arg m)
as_instr (instruction.Lane o a) = lane_instr o a.lane
as_instr (instruction.MemLane o a) = mem_lane_instr o (as_mem_arg a.memarg) a.lane.lane
as_instr (instruction.block b) = block_instr opener.Block (as_block_type b)
as_instr (instruction.loop_ b) = block_instr opener.Loop (as_block_type b)
as_instr (instruction.if_ b) = block_instr opener.If (as_block_type b)
as_instr (instruction.else_ label) = delimiter_instr delimiter.Else
as_instr (instruction.try_ b) = block_instr opener.Try (as_block_type b)
as_instr (instruction.try_table t) = try_table_instr (as_block_type t.block) (map as_catch t.catches)
as_instr (instruction.end_ label) = delimiter_instr delimiter.End
as_instr (instruction.br_table t) = br_table_instr (map index_value t.labels) (index_value t.default)
as_instr (instruction.call_indirect c) = index_pair_instr pair.CallIndirect (type_index c.ty) (index_value c.table)
as_instr (instruction.return_call_indirect c) = index_pair_instr pair.ReturnCallIndirect (type_index c.ty) (index_value c.table)
as_instr (instruction.select t) = select_instr (option_map (map as_val_type) t.tys)
as_instr (instruction.i32_const n) = i32_const_instr n
as_instr (instruction.i64_const n) = i64_const_instr n
as_instr (instruction.f32_const n) = f32_const_instr n.bits
as_instr (instruction.f64_const n) = f64_const_instr n.bits
as_instr (instruction.ref_null h) = ref_null_instr (as_heap_type h)
as_instr (instruction.array_new_fixed a) = index_pair_instr pair.ArrayNewFixed (index_value a.array) a.length
as_instr (instruction.ref_test a) = cast_instr cast.Test (as_ref_type a.rt)
as_instr (instruction.ref_cast a) = cast_instr cast.Cast (as_ref_type a.rt)
as_instr (instruction.br_on_cast a) = br_cast_instr branch.Succeeds (index_value a.label) (as_ref_type a.from_type) (as_ref_type a.to_type)
as_instr (instruction.br_on_cast_fail a) = br_cast_instr branch.Fails (index_value a.label) (as_ref_type a.from_type) (as_ref_type a.to_type)
as_instr (instruction.v128_const c) = lanes_instr lanes.Const (lane_bytes c)
as_instr (instruction.i8x16_shuffle s) = lanes_instr lanes.Shuffle s.lanes
as_instr (instruction.atomic_fence o) = fence_instr (fence_ordering o)
-- Written by tools/ops from here.
as_instr (instruction.catch i) = index_instr op.Catch (index_value i)
as_instr (instruction.throw i) = index_instr op.Throw (index_value i)
as_instr (instruction.rethrow l) = index_instr op.Rethrow (index_value l)
as_instr (instruction.br l) = index_instr op.Br (index_value l)
as_instr (instruction.br_if l) = index_instr op.BrIf (index_value l)
as_instr (instruction.call i) = index_instr op.Call (index_value i)
as_instr (instruction.return_call i) = index_instr op.ReturnCall (index_value i)
as_instr (instruction.call_ref i) = index_instr op.CallRef (index_value i)
as_instr (instruction.return_call_ref i) = index_instr op.ReturnCallRef (index_value i)
as_instr (instruction.delegate l) = index_instr op.Delegate (index_value l)
as_instr (instruction.local_get i) = index_instr op.LocalGet (index_value i)
as_instr (instruction.local_set i) = index_instr op.LocalSet (index_value i)
as_instr (instruction.local_tee i) = index_instr op.LocalTee (index_value i)
as_instr (instruction.global_get i) = index_instr op.GlobalGet (index_value i)
as_instr (instruction.global_set i) = index_instr op.GlobalSet (index_value i)
as_instr (instruction.table_get a) = index_instr op.TableGet (index_value a.dst)
as_instr (instruction.table_set a) = index_instr op.TableSet (index_value a.dst)
as_instr (instruction.memory_size a) = index_instr op.MemorySize (index_value a.mem)
as_instr (instruction.memory_grow a) = index_instr op.MemoryGrow (index_value a.mem)
as_instr (instruction.ref_func i) = index_instr op.RefFunc (index_value i)
as_instr (instruction.br_on_null l) = index_instr op.BrOnNull (index_value l)
as_instr (instruction.br_on_non_null l) = index_instr op.BrOnNonNull (index_value l)
as_instr (instruction.struct_new i) = index_instr op.StructNew (index_value i)
as_instr (instruction.struct_new_default i) = index_instr op.StructNewDefault (index_value i)
as_instr (instruction.struct_get a) = index_pair_instr pair.StructGet (index_value a.owner) (index_value a.field)
as_instr (instruction.struct_get_s a) = index_pair_instr pair.StructGetS (index_value a.owner) (index_value a.field)
as_instr (instruction.struct_get_u a) = index_pair_instr pair.StructGetU (index_value a.owner) (index_value a.field)
as_instr (instruction.struct_set a) = index_pair_instr pair.StructSet (index_value a.owner) (index_value a.field)
as_instr (instruction.array_new i) = index_instr op.ArrayNew (index_value i)
as_instr (instruction.array_new_default i) = index_instr op.ArrayNewDefault (index_value i)
as_instr (instruction.array_new_data a) = index_pair_instr pair.ArrayNewData (index_value a.array) (index_value a.data_idx)
as_instr (instruction.array_new_elem a) = index_pair_instr pair.ArrayNewElem (index_value a.array) (index_value a.elem_idx)
as_instr (instruction.array_get i) = index_instr op.ArrayGet (index_value i)
as_instr (instruction.array_get_s i) = index_instr op.ArrayGetS (index_value i)
as_instr (instruction.array_get_u i) = index_instr op.ArrayGetU (index_value i)
as_instr (instruction.array_set i) = index_instr op.ArraySet (index_value i)
as_instr (instruction.array_fill a) = index_instr op.ArrayFill (index_value a.array)
as_instr (instruction.array_copy a) = index_pair_instr pair.ArrayCopy (index_value a.dest_array) (index_value a.src_array)
as_instr (instruction.array_init_data a) = index_pair_instr pair.ArrayInitData (index_value a.array) (index_value a.segment)
as_instr (instruction.array_init_elem a) = index_pair_instr pair.ArrayInitElem (index_value a.array) (index_value a.segment)
as_instr (instruction.memory_init a) = index_pair_instr pair.MemoryInit (index_value a.segment) (index_value a.mem)
as_instr (instruction.data_drop i) = index_instr op.DataDrop (index_value i)
as_instr (instruction.memory_copy a) = index_pair_instr pair.MemoryCopy (index_value a.dst) (index_value a.src)
as_instr (instruction.memory_fill a) = index_instr op.MemoryFill (index_value a.mem)
as_instr (instruction.table_init a) = index_pair_instr pair.TableInit (index_value a.elem) (index_value a.table)
as_instr (instruction.elem_drop i) = index_instr op.ElemDrop (index_value i)
as_instr (instruction.table_copy a) = index_pair_instr pair.TableCopy (index_value a.dst) (index_value a.src)
as_instr (instruction.table_grow a) = index_instr op.TableGrow (index_value a.dst)
as_instr (instruction.table_size a) = index_instr op.TableSize (index_value a.dst)
as_instr (instruction.table_fill a) = index_instr op.TableFill (index_value a.dst)
-- To here.
as_instr i = no_row

-- The instructions of a constant expression.
abbrev pub as_expression : Expression → List Instr
as_expression e = map as_instr e.instrs

-- A body with these locals and instructions.
abbrev pub body_of : List Local → List Instruction → Body
body_of locals instrs = record { locals = map (λ l. as_val_type l.ty) locals; instrs = map as_instr instrs }

-- The body of a function. An inline import has none; it is desugared before encoding.
abbrev pub as_body : FuncKind → Body
as_body (func.Import import exact) = body_of [] []
as_body (func.Inline locals e) = body_of locals e.instrs

-- The kind of an exported item.
abbrev pub as_export_kind : tree.ExportKind → ExportKind
as_export_kind export.Func = kind.Func
as_export_kind export.Table = kind.Table
as_export_kind export.Memory = kind.Memory
as_export_kind export.Global = kind.Global
as_export_kind export.Tag = kind.Tag
