-- The map over the tree: the part that a change maps each part to (text format: indices, type uses, identifiers).
--
-- A change has one function for each kind of index, one for type uses, and two for ids. Everything else in the tree
-- is kept.
--
--   mapped_field f (start $f)      (start 0), if f.index func $f is 0
use Rattle.std.specs.Prelude.{⊤, ◌≡◌, List, [], ◌∷◌, ◌++◌, map, Option, option_map}
use Rattle.wast_base.specs.Blocks.{Blocks, without_innermost}
use Rattle.wast_base.specs.Ids.{mark_of_option}
use Rattle.wast_tree_map.specs.Tree.{Id, Index, NameAnnotation, Space, RefType, HeapType, ValType, StorageType, StructField, StructType, ArrayType, FunctionType, TypeUse, InnerTypeKind, TypeDef, Rec, BlockType, BrTableIndices, TryTable, TryTableCatch, TryTableCatchKind, TableArg, MemoryArg, MemoryInit, MemoryCopy, TableInit, TableCopy, CallIndirect, SelectTypes, MemArg, MemArgTarget, StructAccess, Handle, ResumeTable, Instruction, Expression, TableType, GlobalType, TagType, Imports, ImportItems, ItemSig, ItemKind, Local, FuncKind, Func, Table, TableKind, Memory, Global, GlobalKind, Tag, Elem, ElemKind, ElemPayload, Data, DataKind, Export, ModuleField}
use Rattle.wast_tree_map.specs.Tree.space
use Rattle.wast_tree_map.specs.Tree.heap
use Rattle.wast_tree_map.specs.Tree.value
use Rattle.wast_tree_map.specs.Tree.storage
use Rattle.wast_tree_map.specs.Tree.inner
use Rattle.wast_tree_map.specs.Tree.ty
use Rattle.wast_tree_map.specs.Tree.target
use Rattle.wast_tree_map.specs.Tree.caught
use Rattle.wast_tree_map.specs.Tree.handle
use Rattle.wast_tree_map.specs.Tree.instr
use Rattle.wast_tree_map.specs.Tree.func
use Rattle.wast_tree_map.specs.Tree.tag
use Rattle.wast_tree_map.specs.Tree.kind
use Rattle.wast_tree_map.specs.Tree.import_items
use Rattle.wast_tree_map.specs.Tree.table
use Rattle.wast_tree_map.specs.Tree.global
use Rattle.wast_tree_map.specs.Tree.elem
use Rattle.wast_tree_map.specs.Tree.payload
use Rattle.wast_tree_map.specs.Tree.data_kind
use Rattle.wast_tree_map.specs.Tree.field
use Rattle.wast_tree_nodes.specs.Sites.{Locals, BodyContext, constant_context, context_after, param_marks, local_marks, body_here, exported_space, Check, ItemIndex, InnerIndex, PlainId, Clause, Covered, Where, OfItem, OfCall, OfBlock, Site, Asked, Used, Declared, LocalAt, FieldAt, LabelAt, Repeated, Begins, Ends}

-- The new index of an index, by its index space.
abbrev pub Indices : Type 0
Indices = Space → Index → Index

-- The new id of an id that may be missing.
abbrev pub Ids : Type 0
Ids = Option Id → Option Id

-- A change: the new value of each index, type use and id.
pub record Change : Type 0 where
  pub index : Indices
  -- A type use with its index and its inline type, by its position.
  pub used : Where → TypeUse FunctionType → TypeUse FunctionType
  -- The index of a local, with the locals in scope.
  pub local : Locals → Index → Index
  -- The index of a struct field, with the index of its type.
  pub field : Index → Index → Index
  -- A label, with the enclosing blocks.
  pub label : Blocks → Index → Index
  -- The id of an item.
  pub id : Ids
  -- Any other id: of a parameter, a struct field, a local or a label, of a repeated label, and of a signature that an
  -- import shares among no names.
  pub own : Ids

-- The locals of a body, if its function is mapped.
abbrev pub mapped_locals : Change → Locals → Locals
mapped_locals f l = record l { owner = option_map (f.used OfItem) l.owner }

-- The change that keeps everything.
abbrev pub no_change : Change
no_change = record { index = λ s i. i; used = λ w u. u; local = λ l i. i; field = λ o i. i; label = λ b i. i; id = λ o. o; own = λ o. o }

-- The composition of two changes.
abbrev pub compose : Change → Change → Change
compose h g = record {
  index = λ s i. g.index s (h.index s i);
  used = λ w u. g.used w (h.used w u);
  local = λ l i. g.local (mapped_locals h l) (h.local l i);
  field = λ o i. g.field (h.index space.Ty o) (h.field o i);
  label = λ b i. g.label b (h.label b i);
  id = λ o. g.id (h.id o);
  own = λ o. g.own (h.own o);
}

-- A heap type. The types follow.
abbrev pub mapped_heap : Indices → HeapType → HeapType
mapped_heap f (heap.Abstract shared ty) = heap.Abstract shared ty
mapped_heap f (heap.Concrete i) = heap.Concrete (f space.Ty i)
mapped_heap f (heap.Exact i) = heap.Exact (f space.Ty i)

-- A reference type.
abbrev pub mapped_ref : Indices → RefType → RefType
mapped_ref f r = record r { heap = mapped_heap f r.heap }

-- A value type.
abbrev pub mapped_val : Indices → ValType → ValType
mapped_val f value.I32 = value.I32
mapped_val f value.I64 = value.I64
mapped_val f value.F32 = value.F32
mapped_val f value.F64 = value.F64
mapped_val f value.V128 = value.V128
mapped_val f (value.Ref r) = value.Ref (mapped_ref f r)

-- The type of a struct field or an array element in storage.
abbrev pub mapped_storage : Indices → StorageType → StorageType
mapped_storage f storage.I8 = storage.I8
mapped_storage f storage.I16 = storage.I16
mapped_storage f (storage.Val t) = storage.Val (mapped_val f t)

-- A parameter with a change of its id. The next definition keeps the id, as for each part of a type below.
abbrev pub named_param : Ids → Indices → Option Id × Option NameAnnotation × ValType → Option Id × Option NameAnnotation × ValType
named_param own f p = (own p.0, p.1, mapped_val f p.2)

abbrev pub mapped_param : Indices → Option Id × Option NameAnnotation × ValType → Option Id × Option NameAnnotation × ValType
mapped_param f p = named_param (λ o. o) f p

-- A function type.
abbrev pub named_signature : Ids → Indices → FunctionType → FunctionType
named_signature own f t = record { params = map (named_param own f) t.params; results = map (mapped_val f) t.results }

abbrev pub mapped_signature : Indices → FunctionType → FunctionType
mapped_signature f t = named_signature (λ o. o) f t

-- A struct field.
abbrev pub named_struct_field : Ids → Indices → StructField → StructField
named_struct_field own f x = record x { id = own x.id; ty = mapped_storage f x.ty }

abbrev pub mapped_struct_field : Indices → StructField → StructField
mapped_struct_field f x = named_struct_field (λ o. o) f x

-- A struct type.
abbrev pub named_struct : Ids → Indices → StructType → StructType
named_struct own f t = record { fields = map (named_struct_field own f) t.fields }

abbrev pub mapped_struct : Indices → StructType → StructType
mapped_struct f t = named_struct (λ o. o) f t

-- An array type.
abbrev pub mapped_array : Indices → ArrayType → ArrayType
mapped_array f t = record t { ty = mapped_storage f t.ty }

-- A composite type.
abbrev pub named_inner : Ids → Indices → InnerTypeKind → InnerTypeKind
named_inner own f (inner.Func t) = inner.Func (named_signature own f t)
named_inner own f (inner.Struct t) = inner.Struct (named_struct own f t)
named_inner own f (inner.Array t) = inner.Array (mapped_array f t)
named_inner own f (inner.Cont t) = inner.Cont (record { 0 = f space.Ty t.0 })

abbrev pub mapped_inner : Indices → InnerTypeKind → InnerTypeKind
mapped_inner f t = named_inner (λ o. o) f t

-- A type definition, without its id.
abbrev pub named_def : Ids → Indices → TypeDef → TypeDef
named_def own f d = record d {
  parents = map (f space.Ty) d.parents;
  descriptor = option_map (f space.Ty) d.descriptor;
  describes = option_map (f space.Ty) d.describes;
  kind = named_inner own f d.kind;
}

abbrev pub mapped_def : Indices → TypeDef → TypeDef
mapped_def f d = named_def (λ o. o) f d

-- A type definition. It is an item.
abbrev pub mapped_type : Change → ty.«Type» → ty.«Type»
mapped_type f t = record t { id = f.id t.id; def = named_def f.own f.index t.def }

-- The types of a `rec` group.
abbrev pub mapped_rec : Change → Rec → Rec
mapped_rec f r = record r { types = map (mapped_type f) r.types }

-- A table type.
abbrev pub mapped_table_type : Indices → TableType → TableType
mapped_table_type f t = record t { elem = mapped_ref f t.elem }

-- A global type.
abbrev pub mapped_global_type : Indices → GlobalType → GlobalType
mapped_global_type f t = record t { ty = mapped_val f t.ty }

-- A tag type.
abbrev pub mapped_tag_type : Change → TagType → TagType
mapped_tag_type f (tag.Exception u) = tag.Exception (f.used OfItem u)

-- The table or the memory of an instruction.
abbrev pub mapped_table_arg : Indices → TableArg → TableArg
mapped_table_arg f a = record { dst = f space.Table a.dst }

-- The memory of an instruction, if it has one.
abbrev pub mapped_memory_arg : Indices → MemoryArg → MemoryArg
mapped_memory_arg f a = record { mem = f space.Memory a.mem }

-- The data segment and the memory of `memory.init`.
abbrev pub mapped_memory_init : Indices → MemoryInit → MemoryInit
mapped_memory_init f a = record { segment = f space.Data a.segment; mem = f space.Memory a.mem }

-- The two memories of `memory.copy`.
abbrev pub mapped_memory_copy : Indices → MemoryCopy → MemoryCopy
mapped_memory_copy f a = record { src = f space.Memory a.src; dst = f space.Memory a.dst }

-- The element segment and the table of `table.init`.
abbrev pub mapped_table_init : Indices → TableInit → TableInit
mapped_table_init f a = record { table = f space.Table a.table; elem = f space.Elem a.elem }

-- The two tables of `table.copy`.
abbrev pub mapped_table_copy : Indices → TableCopy → TableCopy
mapped_table_copy f a = record { dst = f space.Table a.dst; src = f space.Table a.src }

-- The memory or array of a memory argument.
abbrev pub mapped_target : Indices → MemArgTarget → MemArgTarget
mapped_target f (target.Memory i) = target.Memory (f space.Memory i)
mapped_target f (target.Array i) = target.Array (f space.Ty i)

-- A memory argument.
abbrev pub mapped_mem_arg : Indices → MemArg → MemArg
mapped_mem_arg f m = record m { target = mapped_target f m.target }

-- The types of `select`.
abbrev pub mapped_select : Indices → SelectTypes → SelectTypes
mapped_select f t = record { tys = option_map (map (mapped_val f)) t.tys }

-- The table and the type use of an indirect call.
abbrev pub mapped_indirect : Change → CallIndirect → CallIndirect
mapped_indirect f c = record { table = f.index space.Table c.table; ty = f.used OfCall c.ty }

-- A block type.
abbrev pub mapped_block : Change → BlockType → BlockType
mapped_block f b = record b { label = f.own b.label; ty = f.used OfBlock b.ty }

-- The kind of a catch clause, with its tag.
abbrev pub mapped_caught : Indices → TryTableCatchKind → TryTableCatchKind
mapped_caught f (caught.Catch e) = caught.Catch (f space.Tag e)
mapped_caught f (caught.CatchRef e) = caught.CatchRef (f space.Tag e)
mapped_caught f caught.CatchAll = caught.CatchAll
mapped_caught f caught.CatchAllRef = caught.CatchAllRef

-- A catch clause, with its label.
abbrev pub mapped_catch : Change → Blocks → TryTableCatch → TryTableCatch
mapped_catch f blocks c = record { kind = mapped_caught f.index c.kind; label = f.label blocks c.label }

-- The type and the clauses of `try_table`.
abbrev pub mapped_try_table : Change → Blocks → TryTable → TryTable
mapped_try_table f blocks t = record { block = mapped_block f t.block; catches = map (mapped_catch f blocks) t.catches }

-- The labels of `br_table`.
abbrev pub mapped_br_table : Change → Blocks → BrTableIndices → BrTableIndices
mapped_br_table f blocks t = record { labels = map (f.label blocks) t.labels; default = f.label blocks t.default }

-- The type and the field of a struct access.
abbrev pub mapped_access : Change → StructAccess → StructAccess
mapped_access f a = record { owner = f.index space.Ty a.owner; field = f.field a.owner a.field }

-- A handler of a resume instruction.
abbrev pub mapped_handle : Change → Blocks → Handle → Handle
mapped_handle f blocks (handle.OnLabel e l) = handle.OnLabel (f.index space.Tag e) (f.label blocks l)
mapped_handle f blocks (handle.OnSwitch e) = handle.OnSwitch (f.index space.Tag e)

-- The handlers of a resume instruction.
abbrev pub mapped_handlers : Change → Blocks → ResumeTable → ResumeTable
mapped_handlers f blocks t = record { handlers = map (mapped_handle f blocks) t.handlers }

-- An instruction, by its position. The bodies follow.
abbrev pub mapped_instr : Change → BodyContext → Instruction → Instruction
mapped_instr f h (instr.Plain op) = instr.Plain op
mapped_instr f h (instr.Mem op m) = instr.Mem op (mapped_mem_arg f.index m)
mapped_instr f h (instr.Lane op a) = instr.Lane op a
mapped_instr f h (instr.MemLane op a) = instr.MemLane op (record a { memarg = mapped_mem_arg f.index a.memarg })
mapped_instr f h (instr.block b) = instr.block (mapped_block f b)
mapped_instr f h (instr.loop_ b) = instr.loop_ (mapped_block f b)
mapped_instr f h (instr.if_ b) = instr.if_ (mapped_block f b)
mapped_instr f h (instr.else_ label) = instr.else_ (f.own label)
mapped_instr f h (instr.try_ b) = instr.try_ (mapped_block f b)
mapped_instr f h (instr.try_table t) = instr.try_table (mapped_try_table f h.blocks t)
mapped_instr f h (instr.end_ label) = instr.end_ (f.own label)
mapped_instr f h (instr.br_table t) = instr.br_table (mapped_br_table f h.blocks t)
mapped_instr f h (instr.call_indirect c) = instr.call_indirect (mapped_indirect f c)
mapped_instr f h (instr.return_call_indirect c) = instr.return_call_indirect (mapped_indirect f c)
mapped_instr f h (instr.select a) = instr.select (mapped_select f.index a)
mapped_instr f h (instr.i32_const n) = instr.i32_const n
mapped_instr f h (instr.i64_const n) = instr.i64_const n
mapped_instr f h (instr.f32_const n) = instr.f32_const n
mapped_instr f h (instr.f64_const n) = instr.f64_const n
mapped_instr f h (instr.ref_null t) = instr.ref_null (mapped_heap f.index t)
mapped_instr f h (instr.array_new_fixed a) = instr.array_new_fixed (record a { array = f.index space.Ty a.array })
mapped_instr f h (instr.ref_test a) = instr.ref_test (record { rt = mapped_ref f.index a.rt })
mapped_instr f h (instr.ref_cast a) = instr.ref_cast (record { rt = mapped_ref f.index a.rt })
mapped_instr f h (instr.ref_cast_desc_eq a) = instr.ref_cast_desc_eq (record { rt = mapped_ref f.index a.rt })
mapped_instr f h (instr.br_on_cast a) = instr.br_on_cast (record { label = f.label h.blocks a.label; from_type = mapped_ref f.index a.from_type; to_type = mapped_ref f.index a.to_type })
mapped_instr f h (instr.br_on_cast_fail a) = instr.br_on_cast_fail (record { label = f.label h.blocks a.label; from_type = mapped_ref f.index a.from_type; to_type = mapped_ref f.index a.to_type })
mapped_instr f h (instr.br_on_cast_desc_eq a) = instr.br_on_cast_desc_eq (record { label = f.label h.blocks a.label; from_type = mapped_ref f.index a.from_type; to_type = mapped_ref f.index a.to_type })
mapped_instr f h (instr.br_on_cast_desc_eq_fail a) = instr.br_on_cast_desc_eq_fail (record { label = f.label h.blocks a.label; from_type = mapped_ref f.index a.from_type; to_type = mapped_ref f.index a.to_type })
mapped_instr f h (instr.v128_const c) = instr.v128_const c
mapped_instr f h (instr.i8x16_shuffle lanes) = instr.i8x16_shuffle lanes
mapped_instr f h (instr.atomic_fence o) = instr.atomic_fence o
mapped_instr f h (instr.GlobalAtomic a) = instr.GlobalAtomic (record a { inner = f.index space.Global a.inner })
mapped_instr f h (instr.TableAtomic a) = instr.TableAtomic (record a { inner = mapped_table_arg f.index a.inner })
mapped_instr f h (instr.StructAtomic a) = instr.StructAtomic (record a { inner = mapped_access f a.inner })
mapped_instr f h (instr.ArrayAtomic a) = instr.ArrayAtomic (record a { inner = f.index space.Ty a.inner })
mapped_instr f h (instr.resume a) = instr.resume (record { type_index = f.index space.Ty a.type_index; table = mapped_handlers f h.blocks a.table })
mapped_instr f h (instr.resume_throw a) = instr.resume_throw (record { type_index = f.index space.Ty a.type_index; tag_index = f.index space.Tag a.tag_index; table = mapped_handlers f h.blocks a.table })
mapped_instr f h (instr.resume_throw_ref a) = instr.resume_throw_ref (record { type_index = f.index space.Ty a.type_index; table = mapped_handlers f h.blocks a.table })
-- Written by tools/ops from here.
mapped_instr f h (instr.catch i) = instr.catch (f.index space.Tag i)
mapped_instr f h (instr.throw i) = instr.throw (f.index space.Tag i)
mapped_instr f h (instr.rethrow l) = instr.rethrow (f.label h.blocks l)
mapped_instr f h (instr.br l) = instr.br (f.label h.blocks l)
mapped_instr f h (instr.br_if l) = instr.br_if (f.label h.blocks l)
mapped_instr f h (instr.call i) = instr.call (f.index space.Func i)
mapped_instr f h (instr.return_call i) = instr.return_call (f.index space.Func i)
mapped_instr f h (instr.call_ref i) = instr.call_ref (f.index space.Ty i)
mapped_instr f h (instr.return_call_ref i) = instr.return_call_ref (f.index space.Ty i)
mapped_instr f h (instr.delegate l) = instr.delegate (f.label (without_innermost h.blocks) l)
mapped_instr f h (instr.local_get i) = instr.local_get (f.local h.locals i)
mapped_instr f h (instr.local_set i) = instr.local_set (f.local h.locals i)
mapped_instr f h (instr.local_tee i) = instr.local_tee (f.local h.locals i)
mapped_instr f h (instr.global_get i) = instr.global_get (f.index space.Global i)
mapped_instr f h (instr.global_set i) = instr.global_set (f.index space.Global i)
mapped_instr f h (instr.table_get a) = instr.table_get (mapped_table_arg f.index a)
mapped_instr f h (instr.table_set a) = instr.table_set (mapped_table_arg f.index a)
mapped_instr f h (instr.memory_size a) = instr.memory_size (mapped_memory_arg f.index a)
mapped_instr f h (instr.memory_grow a) = instr.memory_grow (mapped_memory_arg f.index a)
mapped_instr f h (instr.ref_func i) = instr.ref_func (f.index space.Func i)
mapped_instr f h (instr.br_on_null l) = instr.br_on_null (f.label h.blocks l)
mapped_instr f h (instr.br_on_non_null l) = instr.br_on_non_null (f.label h.blocks l)
mapped_instr f h (instr.struct_new i) = instr.struct_new (f.index space.Ty i)
mapped_instr f h (instr.struct_new_default i) = instr.struct_new_default (f.index space.Ty i)
mapped_instr f h (instr.struct_get a) = instr.struct_get (mapped_access f a)
mapped_instr f h (instr.struct_get_s a) = instr.struct_get_s (mapped_access f a)
mapped_instr f h (instr.struct_get_u a) = instr.struct_get_u (mapped_access f a)
mapped_instr f h (instr.struct_set a) = instr.struct_set (mapped_access f a)
mapped_instr f h (instr.array_new i) = instr.array_new (f.index space.Ty i)
mapped_instr f h (instr.array_new_default i) = instr.array_new_default (f.index space.Ty i)
mapped_instr f h (instr.array_new_data a) = instr.array_new_data (record { array = f.index space.Ty a.array; data_idx = f.index space.Data a.data_idx })
mapped_instr f h (instr.array_new_elem a) = instr.array_new_elem (record { array = f.index space.Ty a.array; elem_idx = f.index space.Elem a.elem_idx })
mapped_instr f h (instr.array_get i) = instr.array_get (f.index space.Ty i)
mapped_instr f h (instr.array_get_s i) = instr.array_get_s (f.index space.Ty i)
mapped_instr f h (instr.array_get_u i) = instr.array_get_u (f.index space.Ty i)
mapped_instr f h (instr.array_set i) = instr.array_set (f.index space.Ty i)
mapped_instr f h (instr.array_fill a) = instr.array_fill (record { array = f.index space.Ty a.array })
mapped_instr f h (instr.array_copy a) = instr.array_copy (record { dest_array = f.index space.Ty a.dest_array; src_array = f.index space.Ty a.src_array })
mapped_instr f h (instr.array_init_data a) = instr.array_init_data (record { array = f.index space.Ty a.array; segment = f.index space.Data a.segment })
mapped_instr f h (instr.array_init_elem a) = instr.array_init_elem (record { array = f.index space.Ty a.array; segment = f.index space.Elem a.segment })
mapped_instr f h (instr.memory_init a) = instr.memory_init (mapped_memory_init f.index a)
mapped_instr f h (instr.data_drop i) = instr.data_drop (f.index space.Data i)
mapped_instr f h (instr.memory_copy a) = instr.memory_copy (mapped_memory_copy f.index a)
mapped_instr f h (instr.memory_fill a) = instr.memory_fill (mapped_memory_arg f.index a)
mapped_instr f h (instr.table_init a) = instr.table_init (mapped_table_init f.index a)
mapped_instr f h (instr.elem_drop i) = instr.elem_drop (f.index space.Elem i)
mapped_instr f h (instr.table_copy a) = instr.table_copy (mapped_table_copy f.index a)
mapped_instr f h (instr.table_grow a) = instr.table_grow (mapped_table_arg f.index a)
mapped_instr f h (instr.table_size a) = instr.table_size (mapped_table_arg f.index a)
mapped_instr f h (instr.table_fill a) = instr.table_fill (mapped_table_arg f.index a)
mapped_instr f h (instr.struct_new_desc i) = instr.struct_new_desc (f.index space.Ty i)
mapped_instr f h (instr.struct_new_default_desc i) = instr.struct_new_default_desc (f.index space.Ty i)
mapped_instr f h (instr.ref_get_desc i) = instr.ref_get_desc (f.index space.Ty i)
mapped_instr f h (instr.cont_new i) = instr.cont_new (f.index space.Ty i)
mapped_instr f h (instr.cont_bind a) = instr.cont_bind (record { argument_index = f.index space.Ty a.argument_index; result_index = f.index space.Ty a.result_index })
mapped_instr f h (instr.suspend i) = instr.suspend (f.index space.Tag i)
mapped_instr f h (instr.switch a) = instr.switch (record { type_index = f.index space.Ty a.type_index; tag_index = f.index space.Tag a.tag_index })
mapped_instr f h (instr.memory_discard a) = instr.memory_discard (mapped_memory_arg f.index a)
-- To here.
mapped_instr f h (instr.Beyond name) = instr.Beyond name

-- The instructions of a list, each after those before it.
abbrev pub mapped_instrs : Change → BodyContext → List Instruction → List Instruction
mapped_instrs f h [] = []
mapped_instrs f h (i ∷ is) = mapped_instr f h i ∷ mapped_instrs f (context_after h i) is

-- An expression, by its position.
abbrev pub mapped_expression : Change → BodyContext → Expression → Expression
mapped_expression f h e = record e { instrs = mapped_instrs f h e.instrs }

-- A constant expression.
abbrev pub mapped_constant : Change → Expression → Expression
mapped_constant f e = mapped_expression f constant_context e

-- A local. The fields follow.
abbrev pub mapped_local : Change → Local → Local
mapped_local f l = record l { id = f.own l.id; ty = mapped_val f.index l.ty }

-- The body or the inline import of a function.
abbrev pub mapped_func_kind : Change → TypeUse FunctionType → FuncKind → FuncKind
mapped_func_kind f u (func.Import import exact) = func.Import import exact
mapped_func_kind f u (func.Inline locals e) = func.Inline (map (mapped_local f) locals) (mapped_expression f (body_here u (param_marks u.inline ++ local_marks locals)) e)

-- A function.
abbrev pub mapped_func : Change → Func → Func
mapped_func f x = record x { id = f.id x.id; kind = mapped_func_kind f x.ty x.kind; ty = f.used OfItem x.ty }

-- The type of an import.
abbrev pub mapped_item_kind : Change → ItemKind → ItemKind
mapped_item_kind f (kind.Func u) = kind.Func (f.used OfItem u)
mapped_item_kind f (kind.FuncExact u) = kind.FuncExact (f.used OfItem u)
mapped_item_kind f (kind.Table t) = kind.Table (mapped_table_type f.index t)
mapped_item_kind f (kind.Memory t) = kind.Memory t
mapped_item_kind f (kind.Global t) = kind.Global (mapped_global_type f.index t)
mapped_item_kind f (kind.Tag t) = kind.Tag (mapped_tag_type f t)

-- An imported item.
abbrev pub mapped_sig : Change → ItemSig → ItemSig
mapped_sig f s = record s { id = f.id s.id; kind = mapped_item_kind f s.kind }

-- The id of a signature that names share. It is the id of each item, or of no item if there are no names.
abbrev pub mapped_shared_id : {N : Type 0} → Change → List N → Option Id → Option Id
mapped_shared_id f [] id = f.own id
mapped_shared_id f (name ∷ names) id = f.id id

-- The items of an import.
abbrev pub mapped_import_items : Change → ImportItems → ImportItems
mapped_import_items f (import_items.Single source name sig) = import_items.Single source name (mapped_sig f sig)
mapped_import_items f (import_items.Group1 source items) = import_items.Group1 source (map (λ p. (p.0, mapped_sig f p.1)) items)
mapped_import_items f (import_items.Group2 source sig names) = import_items.Group2 source (record sig { id = mapped_shared_id f names sig.id; kind = mapped_item_kind f sig.kind }) names

-- An import.
abbrev pub mapped_import : Change → Imports → Imports
mapped_import f i = record i { items = mapped_import_items f i.items }

-- The content of an element segment.
abbrev pub mapped_payload : Change → ElemPayload → ElemPayload
mapped_payload f (payload.Indices is) = payload.Indices (map (f.index space.Func) is)
mapped_payload f (payload.Exprs ty es) = payload.Exprs (mapped_ref f.index ty) (map (mapped_constant f) es)

-- The content of a table.
abbrev pub mapped_table_kind : Change → TableKind → TableKind
mapped_table_kind f (table.Import import ty) = table.Import import (mapped_table_type f.index ty)
mapped_table_kind f (table.Normal ty init) = table.Normal (mapped_table_type f.index ty) (option_map (mapped_constant f) init)
mapped_table_kind f (table.Inline ty is64 shared elements) = table.Inline (mapped_ref f.index ty) is64 shared (mapped_payload f elements)

-- A table.
abbrev pub mapped_table : Change → Table → Table
mapped_table f t = record t { id = f.id t.id; kind = mapped_table_kind f t.kind }

-- A memory.
abbrev pub mapped_memory : Change → Memory → Memory
mapped_memory f m = record m { id = f.id m.id }

-- The value of a global.
abbrev pub mapped_global_kind : Change → GlobalKind → GlobalKind
mapped_global_kind f (global.Import import) = global.Import import
mapped_global_kind f (global.Inline e) = global.Inline (mapped_constant f e)

-- A global.
abbrev pub mapped_global : Change → Global → Global
mapped_global f g = record g { id = f.id g.id; ty = mapped_global_type f.index g.ty; kind = mapped_global_kind f g.kind }

-- A tag.
abbrev pub mapped_tag : Change → Tag → Tag
mapped_tag f t = record t { id = f.id t.id; ty = mapped_tag_type f t.ty }

-- The mode of an element segment.
abbrev pub mapped_elem_kind : Change → ElemKind → ElemKind
mapped_elem_kind f elem.Passive = elem.Passive
mapped_elem_kind f elem.Declared = elem.Declared
mapped_elem_kind f (elem.Active table offset) = elem.Active (option_map (f.index space.Table) table) (mapped_constant f offset)

-- An element segment.
abbrev pub mapped_elem : Change → Elem → Elem
mapped_elem f e = record e { id = f.id e.id; kind = mapped_elem_kind f e.kind; payload = mapped_payload f e.payload }

-- The mode of a data segment.
abbrev pub mapped_data_kind : Change → DataKind → DataKind
mapped_data_kind f data_kind.Passive = data_kind.Passive
mapped_data_kind f (data_kind.Active memory offset) = data_kind.Active (f.index space.Memory memory) (mapped_constant f offset)

-- A data segment.
abbrev pub mapped_data : Change → Data → Data
mapped_data f d = record d { id = f.id d.id; kind = mapped_data_kind f d.kind }

-- An export.
abbrev pub mapped_export : Change → Export → Export
mapped_export f e = record e { item = f.index (exported_space e.kind) e.item }

-- A module field.
abbrev pub mapped_field : Change → ModuleField → ModuleField
mapped_field f (field.Ty t) = field.Ty (mapped_type f t)
mapped_field f (field.Rec r) = field.Rec (mapped_rec f r)
mapped_field f (field.Import i) = field.Import (mapped_import f i)
mapped_field f (field.Func x) = field.Func (mapped_func f x)
mapped_field f (field.Table t) = field.Table (mapped_table f t)
mapped_field f (field.Memory m) = field.Memory (mapped_memory f m)
mapped_field f (field.Global g) = field.Global (mapped_global f g)
mapped_field f (field.Export e) = field.Export (mapped_export f e)
mapped_field f (field.Start i) = field.Start (f.index space.Func i)
mapped_field f (field.Elem e) = field.Elem (mapped_elem f e)
mapped_field f (field.Data d) = field.Data (mapped_data f d)
mapped_field f (field.Tag t) = field.Tag (mapped_tag f t)
mapped_field f (field.Custom c) = field.Custom c

-- A check of a mapped part.
abbrev pub mapped_ask : Indices → Check → Check
mapped_ask f (ItemIndex s i) = ItemIndex s (f s i)
mapped_ask f (InnerIndex i) = InnerIndex i
mapped_ask f (PlainId m) = PlainId m
mapped_ask f (Clause n holds) = Clause n holds
mapped_ask f (Covered form holds) = Covered form holds

-- A site of a mapped part.
abbrev pub mapped_site : Change → Site → Site
mapped_site f (Asked a) = Asked (mapped_ask f.index a)
mapped_site f (Used w u) = Used w (f.used w u)
mapped_site f (Declared before m) = Declared before m
mapped_site f (LocalAt locals i) = LocalAt (mapped_locals f locals) (f.local locals i)
mapped_site f (FieldAt owner i) = FieldAt (f.index space.Ty owner) (f.field owner i)
mapped_site f (LabelAt blocks i) = LabelAt blocks (f.label blocks i)
mapped_site f (Repeated blocks m) = Repeated blocks m
mapped_site f (Begins blocks m) = Begins blocks m
mapped_site f Ends = Ends

-- The change keeps the ids within items: those of the parameters in the type use of an item, which its body can use,
-- and others.
pub record KeepsMarks (f : Change) : Type 0 where
  pub params : (u : TypeUse FunctionType) → param_marks (f.used OfItem u).inline ≡ param_marks u.inline
  pub owns : (o : Option Id) → mark_of_option (f.own o) ≡ mark_of_option o

-- For a check, two changes one after another are a third.
abbrev pub JoinsAsk : Indices → Indices → Indices → Check → Type 0
JoinsAsk h g f (ItemIndex s i) = g s (h s i) ≡ f s i
JoinsAsk h g f (InnerIndex i) = ⊤
JoinsAsk h g f (PlainId m) = ⊤
JoinsAsk h g f (Clause n holds) = ⊤
JoinsAsk h g f (Covered form holds) = ⊤

-- At a site, two changes one after another are a third.
abbrev pub Joins : Change → Change → Change → Site → Type 0
Joins h g f (Asked a) = JoinsAsk h.index g.index f.index a
Joins h g f (Used w u) = g.used w (h.used w u) ≡ f.used w u
Joins h g f (Declared before m) = ⊤
Joins h g f (LocalAt locals i) = g.local (mapped_locals h locals) (h.local locals i) ≡ f.local locals i
Joins h g f (FieldAt owner i) = (g.index space.Ty (h.index space.Ty owner) ≡ f.index space.Ty owner) × (g.field (h.index space.Ty owner) (h.field owner i) ≡ f.field owner i)
Joins h g f (LabelAt blocks i) = g.label blocks (h.label blocks i) ≡ f.label blocks i
Joins h g f (Repeated blocks m) = ⊤
Joins h g f (Begins blocks m) = ⊤
Joins h g f Ends = ⊤

-- The same at the ids of items and at all others, and the first change keeps the ids within items.
pub record AreJoint (h g f : Change) : Type 0 where
  pub keeps : KeepsMarks h
  pub ids : (o : Option Id) → g.id (h.id o) ≡ f.id o
  pub owns : (o : Option Id) → g.own (h.own o) ≡ f.own o

-- A property holds at each site of a list.
abbrev pub Each : {S : Type 0} → (S → Type 0) → List S → Type 0
Each p [] = ⊤
Each p (x ∷ xs) = p x × Each p xs
