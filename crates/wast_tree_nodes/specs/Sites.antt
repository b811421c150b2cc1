-- Everything in a module that is checked or looked up, other than its items, as one list of sites (text format: identifiers,
-- indices).
--
-- A site is an index with its index space, an index of a local with the locals in scope, or a label with the enclosing
-- blocks. It is also a type use, a struct field access, a rule of well-formedness, or an unsupported construct. The list is
-- in the order in which errors are reported. All questions about a module are functions of one site (which check does it
-- make? is it resolved? may it be encoded?), so a new instruction adds one line here and none to those.
--
--   (export "a" (func $f))       one site: an index of the space `func`, the id $f
--   (start 3)                    one site: an index of the space `func`, the number 3
use Rattle.std.specs.Prelude.{ℕ, Bool, true, false, not, is_none, List, [], ◌∷◌, ◌++◌, map, Option, Some, None, flat_map}
use Rattle.wast_tree_nodes.specs.Tree.{Id, Index, NameAnnotation, Space, RefType, HeapType, ValType, StorageType, StructField, StructType, ArrayType, FunctionType, TypeUse, InnerTypeKind, TypeDef, Rec, BlockType, BrTableIndices, TryTable, TryTableCatch, TryTableCatchKind, MemArg, MemArgTarget, CallIndirect, SelectTypes, StructAccess, Ordering, Handle, ResumeTable, AbstractHeapType, Form, Instruction, Expression, Local, FuncKind, Func, TableType, GlobalType, TagType, ItemKind, ItemSig, ImportItems, TableKind, MemoryKind, GlobalKind, Global, ExportKind, ElemKind, ElemPayload, Elem, DataKind, Custom, Dylink0Subsection, ModuleField}
use Rattle.wast_tree_nodes.specs.Tree.space
use Rattle.wast_tree_nodes.specs.Tree.form
use Rattle.wast_tree_nodes.specs.Tree.abstract
use Rattle.wast_tree_nodes.specs.Tree.heap
use Rattle.wast_tree_nodes.specs.Tree.value
use Rattle.wast_tree_nodes.specs.Tree.storage
use Rattle.wast_tree_nodes.specs.Tree.inner
use Rattle.wast_tree_nodes.specs.Tree.ty
use Rattle.wast_tree_nodes.specs.Tree.target
use Rattle.wast_tree_nodes.specs.Tree.caught
use Rattle.wast_tree_nodes.specs.Tree.ordering
use Rattle.wast_tree_nodes.specs.Tree.handle
use Rattle.wast_tree_nodes.specs.Tree.instr
use Rattle.wast_tree_nodes.specs.Tree.func
use Rattle.wast_tree_nodes.specs.Tree.tag
use Rattle.wast_tree_nodes.specs.Tree.import_items
use Rattle.wast_tree_nodes.specs.Tree.kind
use Rattle.wast_tree_nodes.specs.Tree.table
use Rattle.wast_tree_nodes.specs.Tree.memory
use Rattle.wast_tree_nodes.specs.Tree.global
use Rattle.wast_tree_nodes.specs.Tree.elem
use Rattle.wast_tree_nodes.specs.Tree.payload
use Rattle.wast_tree_nodes.specs.Tree.data_kind
use Rattle.wast_tree_nodes.specs.Tree.export
use Rattle.wast_tree_nodes.specs.Tree.custom
use Rattle.wast_tree_nodes.specs.Tree.dylink
use Rattle.wast_tree_nodes.specs.Tree.field
use Rattle.std.specs.Int.{is_power_of_two}
use Rattle.wast_base.specs.Blocks.{Blocks, without_innermost, is_balanced}
use Rattle.wast_base.specs.Ids.{Name, Mark, mark_of, mark_of_option}
use Rattle.wast_base.specs.Spaces.{name_if}
use Rattle.wast_tree_nodes.specs.Clauses.{hints_stand, is_page_exponent, is_segment_type_allowed}
use Rattle.wast_tree_nodes.specs.Instrs.{block_effects}
pub use Rattle.wast_tree_nodes.specs.Types.{Where, OfItem, OfCall, OfBlock}

-- one thing that is checked, without its surroundings
pub data Check : Type 0 where
  -- an index, a number or an id, of this index space
  ItemIndex : Space → Index → Check
  -- an index, a number or an id, of a part of an item: a local, a label or a struct field
  InnerIndex : Index → Check
  -- an id that is not checked
  PlainId : Mark → Check
  -- the rule of well-formedness with this number, and whether it holds here
  Clause : ℕ → Bool → Check
  -- an unsupported form, and whether this part of the module is free of it
  Covered : Form → Bool → Check

-- The parameters and locals of a body: the type use of its function, and the names of the parameters and locals that the
-- function declares. The type at the index may have more parameters. A constant expression has no locals.
pub record Locals : Type 0 where
  pub owner : Option (TypeUse FunctionType)
  pub names : List (Option Name)

-- a check with what it needs of its surroundings
pub data Site : Type 0 where
  -- a check that needs only the identifier context of the module
  Asked : Check → Site
  -- a type use: its index, its inline type, and whether the two match
  Used : Where → TypeUse FunctionType → Site
  -- a parameter or a local, with its id if it has one, after those with these names
  Declared : List (Option Name) → Option Mark → Site
  -- an index of a local, among these
  LocalAt : Locals → Index → Site
  -- an index of a struct type, and an index of a field of that struct
  FieldAt : Index → Index → Site
  -- an index of a label, among these enclosing blocks
  LabelAt : Blocks → Index → Site
  -- a label that an `else` or an `end` repeats, within these enclosing blocks
  Repeated : Blocks → Option Mark → Site
  -- the begin of a block, with its label if it has one, within these enclosing blocks
  Begins : Blocks → Option Mark → Site
  -- the end of the innermost block
  Ends : Site

-- the surroundings of an instruction in its body: the parameters and locals, and the enclosing blocks
pub record BodyContext : Type 0 where
  pub locals : Locals
  pub blocks : Blocks

-- the surroundings of a constant expression: no parameters, locals or enclosing blocks
abbrev pub constant_context : BodyContext
constant_context = record { locals = record { owner = None; names = [] }; blocks = [] }

-- the surroundings after a site; only the begin and the end of a block change them
abbrev pub context_after_site : BodyContext → Site → BodyContext
context_after_site h (Asked a) = h
context_after_site h (Used w u) = h
context_after_site h (Declared before m) = h
context_after_site h (LocalAt locals i) = h
context_after_site h (FieldAt owner i) = h
context_after_site h (LabelAt blocks i) = h
context_after_site h (Repeated blocks m) = h
context_after_site h (Begins blocks m) = record h { blocks = name_if m ∷ h.blocks }
context_after_site h Ends = record h { blocks = without_innermost h.blocks }

-- the surroundings after these sites
abbrev pub after_all : BodyContext → List Site → BodyContext
after_all h [] = h
after_all h (s ∷ ss) = after_all (context_after_site h s) ss

-- checks as sites
abbrev pub check_sites : List Check → List Site
check_sites asks = map Asked asks

-- The rest of the file has a definition for each part of the AST. This one is for an optional part.
abbrev pub if_there : {S A : Type 0} → (A → List S) → Option A → List S
if_there f None = []
if_there f (Some x) = f x

-- an index of an index space
abbrev pub in_index : Space → Index → List Check
in_index s i = ItemIndex s i ∷ []

-- the same as a site
abbrev pub at_index : Space → Index → List Site
at_index s i = check_sites (in_index s i)

-- an id
abbrev pub in_id : Id → List Check
in_id id = PlainId (mark_of id) ∷ []

-- an unsupported form that this part of the module has
abbrev pub uncovered_check : Form → List Check
uncovered_check f = Covered f false ∷ []

-- whether an abstract heap type is of continuations
abbrev pub is_continuation : AbstractHeapType → Bool
is_continuation abstract.Cont = true
is_continuation abstract.NoCont = true
is_continuation ty = false

-- a heap type: whether it is shared or of continuations; or its index, and whether it is exact
abbrev pub in_heap : HeapType → List Check
in_heap (heap.Abstract shared ty) = Covered form.Shared (not shared) ∷ Covered form.StackSwitching (not (is_continuation ty)) ∷ []
in_heap (heap.Concrete i) = in_index space.Ty i
in_heap (heap.Exact i) = in_index space.Ty i ++ uncovered_check form.Descriptor

-- a reference type
abbrev pub in_ref : RefType → List Check
in_ref r = in_heap r.heap

-- a value type
abbrev pub in_val : ValType → List Check
in_val value.I32 = []
in_val value.I64 = []
in_val value.F32 = []
in_val value.F64 = []
in_val value.V128 = []
in_val (value.Ref r) = in_ref r

-- the type of a struct field or an array element
abbrev pub in_storage : StorageType → List Check
in_storage storage.I8 = []
in_storage storage.I16 = []
in_storage (storage.Val t) = in_val t

-- a parameter: its id, and its type
abbrev pub in_param : Option Id × Option NameAnnotation × ValType → List Check
in_param p = if_there in_id p.0 ++ in_val p.2

-- a function type: its parameters, and then its results
abbrev pub in_signature : FunctionType → List Check
in_signature t = flat_map in_param t.params ++ flat_map in_val t.results

-- a field of a struct: its id, and its type
abbrev pub in_struct_field : StructField → List Check
in_struct_field f = if_there in_id f.id ++ in_storage f.ty

-- a struct type
abbrev pub in_struct : StructType → List Check
in_struct t = flat_map in_struct_field t.fields

-- an array type
abbrev pub in_array : ArrayType → List Check
in_array t = in_storage t.ty

-- a composite type; a continuation type has the index of a function type
abbrev pub in_inner : InnerTypeKind → List Check
in_inner (inner.Func t) = in_signature t
in_inner (inner.Struct t) = in_struct t
in_inner (inner.Array t) = in_array t
in_inner (inner.Cont t) = in_index space.Ty t.0 ++ uncovered_check form.StackSwitching

-- a `descriptor` or `describes` clause
abbrev pub in_descriptor : Index → List Check
in_descriptor i = in_index space.Ty i ++ uncovered_check form.Descriptor

-- the definition of a type: its supertypes, `descriptor`, `describes`, the composite type, and whether it is shared
abbrev pub in_def : TypeDef → List Check
in_def d =
    flat_map (in_index space.Ty) d.parents
    ++ (if_there in_descriptor d.descriptor ++ (if_there in_descriptor d.describes ++ (in_inner d.kind ++ Covered form.Shared (not d.shared) ∷ [])))

-- a type
abbrev pub in_type : ty.«Type» → List Check
in_type t = in_def t.def

-- the types of a group, in order
abbrev pub in_rec : Rec → List Check
in_rec r = flat_map in_type r.types

-- a type use: its index, and then its inline type
abbrev pub in_type_use : TypeUse FunctionType → List Check
in_type_use u = if_there (in_index space.Ty) u.index ++ if_there in_signature u.inline

-- the memory or array of a memory argument
abbrev pub in_target : MemArgTarget → List Check
in_target (target.Memory i) = in_index space.Memory i
in_target (target.Array i) = in_index space.Ty i ++ uncovered_check form.ArrayMemArg

-- a memory argument: its memory or array type, rule 1 (its alignment is a power of two), and whether it has an ordering
abbrev pub in_mem_arg : MemArg → List Check
in_mem_arg m = in_target m.target ++ Clause 1 (is_power_of_two m.align) ∷ Covered form.Ordering (is_none m.ordering) ∷ []

-- two indices, in this order
abbrev pub in_pair : Space → Index → Space → Index → List Check
in_pair s i t j = in_index s i ++ in_index t j

-- the result types of `select`
abbrev pub in_select : SelectTypes → List Check
in_select t = if_there (flat_map in_val) t.tys

-- a type use is a site as a whole
abbrev pub in_use : Where → TypeUse FunctionType → List Site
in_use w u = Used w u ∷ []

-- an indirect call: its table, and then its type
abbrev pub in_indirect : CallIndirect → List Site
in_indirect c = at_index space.Table c.table ++ in_use OfCall c.ty

-- an index of a label
abbrev pub at_label : Blocks → Index → List Site
at_label blocks l = LabelAt blocks l ∷ []

-- a block: its type, and then its begin
abbrev pub in_block : Blocks → BlockType → List Site
in_block blocks b = in_use OfBlock b.ty ++ Begins blocks (mark_of_option b.label) ∷ []

-- the tag of a catch clause
abbrev pub in_caught : TryTableCatchKind → List Check
in_caught (caught.Catch e) = in_index space.Tag e
in_caught (caught.CatchRef e) = in_index space.Tag e
in_caught caught.CatchAll = []
in_caught caught.CatchAllRef = []

-- a catch clause: its tag, and then its label, which is looked up outside of the block
abbrev pub in_catch : Blocks → TryTableCatch → List Site
in_catch blocks c = check_sites (in_caught c.kind) ++ at_label blocks c.label

-- `try_table`: its type, its catch clauses, and then its begin
abbrev pub in_try_table : Blocks → TryTable → List Site
in_try_table blocks t = in_use OfBlock t.block.ty ++ (flat_map (in_catch blocks) t.catches ++ Begins blocks (mark_of_option t.block.label) ∷ [])

-- the labels of `br_table`, and then its default
abbrev pub in_br_table : Blocks → BrTableIndices → List Site
in_br_table blocks t = flat_map (at_label blocks) t.labels ++ at_label blocks t.default

-- an access to a struct field: the type and the field
abbrev pub in_access : StructAccess → List Site
in_access a = FieldAt a.owner a.field ∷ []

-- a branch on a cast: its label, the target type, and the operand type
abbrev pub in_cast : Blocks → Index → (to from : RefType) → List Site
in_cast blocks l to from = at_label blocks l ++ check_sites (in_ref to ++ in_ref from)

-- a handler of `resume`: its tag, and then its label if it has one
abbrev pub in_handle : Blocks → Handle → List Site
in_handle blocks (handle.OnLabel e l) = at_index space.Tag e ++ at_label blocks l
in_handle blocks (handle.OnSwitch e) = at_index space.Tag e

-- the handlers of `resume`
abbrev pub in_handlers : Blocks → ResumeTable → List Site
in_handlers blocks t = flat_map (in_handle blocks) t.handlers ++ check_sites (uncovered_check form.StackSwitching)

-- Whether a fence is sequentially consistent, as one without an ordering is.
abbrev pub is_sequential : Option Ordering → Bool
is_sequential None = true
is_sequential (Some ordering.SeqCst) = true
is_sequential (Some ordering.AcqRel) = false

-- an instruction within its surroundings; the label of `delegate` is looked up after the end of its block
abbrev pub in_instr : BodyContext → Instruction → List Site
in_instr h (instr.Plain op) = []
in_instr h (instr.Mem op m) = check_sites (in_mem_arg m)
in_instr h (instr.Lane op a) = []
in_instr h (instr.MemLane op a) = check_sites (in_mem_arg a.memarg)
in_instr h (instr.block b) = in_block h.blocks b
in_instr h (instr.loop_ b) = in_block h.blocks b
in_instr h (instr.if_ b) = in_block h.blocks b
in_instr h (instr.else_ label) = Repeated h.blocks (mark_of_option label) ∷ []
in_instr h (instr.try_ b) = in_block h.blocks b
in_instr h (instr.try_table t) = in_try_table h.blocks t
in_instr h (instr.end_ label) = Repeated h.blocks (mark_of_option label) ∷ Ends ∷ []
in_instr h (instr.br_table t) = in_br_table h.blocks t
in_instr h (instr.call_indirect c) = in_indirect c
in_instr h (instr.return_call_indirect c) = in_indirect c
in_instr h (instr.select t) = check_sites (in_select t)
in_instr h (instr.i32_const n) = []
in_instr h (instr.i64_const n) = []
in_instr h (instr.f32_const n) = []
in_instr h (instr.f64_const n) = []
in_instr h (instr.ref_null t) = check_sites (in_heap t)
in_instr h (instr.array_new_fixed a) = at_index space.Ty a.array
in_instr h (instr.ref_test a) = check_sites (in_ref a.rt)
in_instr h (instr.ref_cast a) = check_sites (in_ref a.rt)
in_instr h (instr.ref_cast_desc_eq a) = check_sites (in_ref a.rt ++ uncovered_check form.Descriptor)
in_instr h (instr.br_on_cast a) = in_cast h.blocks a.label a.to_type a.from_type
in_instr h (instr.br_on_cast_fail a) = in_cast h.blocks a.label a.to_type a.from_type
in_instr h (instr.br_on_cast_desc_eq a) = in_cast h.blocks a.label a.to_type a.from_type ++ check_sites (uncovered_check form.Descriptor)
in_instr h (instr.br_on_cast_desc_eq_fail a) = in_cast h.blocks a.label a.to_type a.from_type ++ check_sites (uncovered_check form.Descriptor)
in_instr h (instr.v128_const c) = []
in_instr h (instr.i8x16_shuffle lanes) = []
in_instr h (instr.atomic_fence o) = check_sites (Covered form.Ordering (is_sequential o) ∷ [])
in_instr h (instr.GlobalAtomic a) = check_sites (in_index space.Global a.inner ++ uncovered_check form.Atomic)
in_instr h (instr.TableAtomic a) = check_sites (in_index space.Table a.inner.dst ++ uncovered_check form.Atomic)
in_instr h (instr.StructAtomic a) = in_access a.inner ++ check_sites (uncovered_check form.Atomic)
in_instr h (instr.ArrayAtomic a) = check_sites (in_index space.Ty a.inner ++ uncovered_check form.Atomic)
in_instr h (instr.resume a) = at_index space.Ty a.type_index ++ in_handlers h.blocks a.table
in_instr h (instr.resume_throw a) = check_sites (in_pair space.Ty a.type_index space.Tag a.tag_index) ++ in_handlers h.blocks a.table
in_instr h (instr.resume_throw_ref a) = at_index space.Ty a.type_index ++ in_handlers h.blocks a.table
-- Written by tools/ops from here.
in_instr h (instr.catch e) = at_index space.Tag e
in_instr h (instr.throw e) = at_index space.Tag e
in_instr h (instr.rethrow l) = at_label h.blocks l
in_instr h (instr.br l) = at_label h.blocks l
in_instr h (instr.br_if l) = at_label h.blocks l
in_instr h (instr.call f) = at_index space.Func f
in_instr h (instr.return_call f) = at_index space.Func f
in_instr h (instr.call_ref t) = at_index space.Ty t
in_instr h (instr.return_call_ref t) = at_index space.Ty t
in_instr h (instr.delegate l) = Ends ∷ at_label (without_innermost h.blocks) l
in_instr h (instr.local_get x) = LocalAt h.locals x ∷ []
in_instr h (instr.local_set x) = LocalAt h.locals x ∷ []
in_instr h (instr.local_tee x) = LocalAt h.locals x ∷ []
in_instr h (instr.global_get g) = at_index space.Global g
in_instr h (instr.global_set g) = at_index space.Global g
in_instr h (instr.table_get a) = at_index space.Table a.dst
in_instr h (instr.table_set a) = at_index space.Table a.dst
in_instr h (instr.memory_size a) = at_index space.Memory a.mem
in_instr h (instr.memory_grow a) = at_index space.Memory a.mem
in_instr h (instr.ref_func f) = at_index space.Func f
in_instr h (instr.br_on_null l) = at_label h.blocks l
in_instr h (instr.br_on_non_null l) = at_label h.blocks l
in_instr h (instr.struct_new t) = at_index space.Ty t
in_instr h (instr.struct_new_default t) = at_index space.Ty t
in_instr h (instr.struct_get a) = in_access a
in_instr h (instr.struct_get_s a) = in_access a
in_instr h (instr.struct_get_u a) = in_access a
in_instr h (instr.struct_set a) = in_access a
in_instr h (instr.array_new t) = at_index space.Ty t
in_instr h (instr.array_new_default t) = at_index space.Ty t
in_instr h (instr.array_new_data a) = check_sites (in_pair space.Ty a.array space.Data a.data_idx)
in_instr h (instr.array_new_elem a) = check_sites (in_pair space.Ty a.array space.Elem a.elem_idx)
in_instr h (instr.array_get t) = at_index space.Ty t
in_instr h (instr.array_get_s t) = at_index space.Ty t
in_instr h (instr.array_get_u t) = at_index space.Ty t
in_instr h (instr.array_set t) = at_index space.Ty t
in_instr h (instr.array_fill a) = at_index space.Ty a.array
in_instr h (instr.array_copy a) = check_sites (in_pair space.Ty a.dest_array space.Ty a.src_array)
in_instr h (instr.array_init_data a) = check_sites (in_pair space.Ty a.array space.Data a.segment)
in_instr h (instr.array_init_elem a) = check_sites (in_pair space.Ty a.array space.Elem a.segment)
in_instr h (instr.memory_init a) = check_sites (in_pair space.Data a.segment space.Memory a.mem)
in_instr h (instr.data_drop d) = at_index space.Data d
in_instr h (instr.memory_copy a) = check_sites (in_pair space.Memory a.src space.Memory a.dst)
in_instr h (instr.memory_fill a) = at_index space.Memory a.mem
in_instr h (instr.table_init a) = check_sites (in_pair space.Elem a.elem space.Table a.table)
in_instr h (instr.elem_drop e) = at_index space.Elem e
in_instr h (instr.table_copy a) = check_sites (in_pair space.Table a.dst space.Table a.src)
in_instr h (instr.table_grow a) = at_index space.Table a.dst
in_instr h (instr.table_size a) = at_index space.Table a.dst
in_instr h (instr.table_fill a) = at_index space.Table a.dst
in_instr h (instr.struct_new_desc t) = check_sites (in_index space.Ty t ++ uncovered_check form.Descriptor)
in_instr h (instr.struct_new_default_desc t) = check_sites (in_index space.Ty t ++ uncovered_check form.Descriptor)
in_instr h (instr.ref_get_desc t) = check_sites (in_index space.Ty t ++ uncovered_check form.Descriptor)
in_instr h (instr.cont_new t) = check_sites (in_index space.Ty t ++ uncovered_check form.StackSwitching)
in_instr h (instr.cont_bind a) = check_sites (in_pair space.Ty a.argument_index space.Ty a.result_index ++ uncovered_check form.StackSwitching)
in_instr h (instr.suspend e) = check_sites (in_index space.Tag e ++ uncovered_check form.StackSwitching)
in_instr h (instr.switch a) = check_sites (in_pair space.Ty a.type_index space.Tag a.tag_index ++ uncovered_check form.StackSwitching)
in_instr h (instr.memory_discard a) = check_sites (in_index space.Memory a.mem ++ uncovered_check form.Beyond)
-- To here.
in_instr h (instr.Beyond name) = check_sites (uncovered_check form.Beyond)

-- the surroundings of the next instruction
abbrev pub context_after : BodyContext → Instruction → BodyContext
context_after h i = after_all h (in_instr h i)

-- instructions, each in the surroundings that those before it leave
abbrev pub in_instrs : BodyContext → List Instruction → List Site
in_instrs h [] = []
in_instrs h (i ∷ is) = in_instr h i ++ in_instrs (context_after h i) is

-- the body of a function: its instructions, and rule 2 (its branch hints are on them)
abbrev pub in_expression : BodyContext → Expression → List Site
in_expression h e = in_instrs h e.instrs ++ Asked (Clause 2 (hints_stand e)) ∷ []

-- a local: its type, and its id
abbrev pub in_local : Local → List Check
in_local l = in_val l.ty ++ if_there in_id l.id

-- the ids of the parameters of an inline type
abbrev pub param_marks : Option FunctionType → List (Option Mark)
param_marks None = []
param_marks (Some t) = map (λ p. mark_of_option p.0) t.params

-- the ids of locals
abbrev pub local_marks : List Local → List (Option Mark)
local_marks locals = map (λ l. mark_of_option l.id) locals

-- declarations after these names, each after those before it
abbrev pub declaration_sites : List (Option Name) → List (Option Mark) → List Site
declaration_sites before [] = []
declaration_sites before (m ∷ ms) = Declared before m ∷ declaration_sites (before ++ name_if m ∷ []) ms

-- the surroundings of the first instruction of a function with this type use and these declarations
abbrev pub body_here : TypeUse FunctionType → List (Option Mark) → BodyContext
body_here u marks = record { locals = record { owner = Some u; names = map name_if marks }; blocks = [] }

-- after the type use: the types of the locals, the declarations, and the body; or whether an inline import is exact
abbrev pub in_func_kind : TypeUse FunctionType → FuncKind → List Site
in_func_kind u (func.Import import exact) = Asked (Covered form.Descriptor (not exact)) ∷ []
in_func_kind u (func.Inline locals e) =
    let marks = param_marks u.inline ++ local_marks locals in
    check_sites (flat_map in_local locals) ++ (declaration_sites [] marks ++ in_expression (body_here u marks) e)

-- a function: its type use, and then its locals and body or its inline import
abbrev pub in_func : Func → List Site
in_func f = in_use OfItem f.ty ++ in_func_kind f.ty f.kind

-- a table type, and whether it is shared
abbrev pub in_table_type : TableType → List Check
in_table_type t = in_ref t.elem ++ Covered form.Shared (not t.shared) ∷ []

-- a global type, and whether it is shared
abbrev pub in_global_type : GlobalType → List Check
in_global_type t = in_val t.ty ++ Covered form.Shared (not t.shared) ∷ []

-- a tag type
abbrev pub in_tag_type : TagType → List Site
in_tag_type (tag.Exception u) = in_use OfItem u

-- the type of an imported item
abbrev pub in_item_kind : ItemKind → List Site
in_item_kind (kind.Func u) = in_use OfItem u
in_item_kind (kind.FuncExact u) = in_use OfItem u ++ check_sites (uncovered_check form.Descriptor)
in_item_kind (kind.Table t) = check_sites (in_table_type t)
in_item_kind (kind.Memory t) = []
in_item_kind (kind.Global t) = check_sites (in_global_type t)
in_item_kind (kind.Tag t) = in_tag_type t

-- a signature: its kind and type
abbrev pub in_sig : ItemSig → List Site
in_sig sig = in_item_kind sig.kind

-- The id of a signature that names share. Each item has it. If there is no name, no item has it, and it is an id that is not
-- checked.
abbrev pub in_shared_id : {N : Type 0} → List N → Option Id → List Check
in_shared_id [] id = if_there in_id id
in_shared_id (name ∷ names) id = []

-- an import: each signature in the source, an id that no item has, and whether it is a group
abbrev pub in_import : ImportItems → List Site
in_import (import_items.Single source name sig) = in_sig sig
in_import (import_items.Group1 source items) = flat_map (λ p. in_sig p.1) items ++ check_sites (uncovered_check form.CompactImports)
in_import (import_items.Group2 source sig names) = in_sig sig ++ check_sites (in_shared_id names sig.id ++ uncovered_check form.CompactImports)

-- A constant expression: its instructions, and rule 5 (its blocks are balanced). Its branch hints are not checked, because the
-- encoder does not write them.
abbrev pub in_constant : Expression → List Site
in_constant e = in_instrs constant_context e.instrs ++ Asked (Clause 5 (is_balanced (block_effects e.instrs))) ∷ []

-- the elements of a segment: functions; or expressions, and then their type
abbrev pub in_payload : ElemPayload → List Site
in_payload (payload.Indices is) = flat_map (at_index space.Func) is
in_payload (payload.Exprs ty es) = flat_map in_constant es ++ check_sites (in_ref ty)

-- a table: its type, and then its initial value; or the type of its inline elements, and then these
abbrev pub in_table_kind : TableKind → List Site
in_table_kind (table.Import import ty) = check_sites (in_table_type ty)
in_table_kind (table.Normal ty init) = check_sites (in_table_type ty) ++ if_there in_constant init
in_table_kind (table.Inline ty is64 shared elements) = check_sites (in_ref ty) ++ (in_payload elements ++ Asked (Covered form.Shared (not shared)) ∷ [])

-- a memory: rule 3 for its page size, if it has inline data
abbrev pub in_memory_kind : MemoryKind → List Site
in_memory_kind (memory.Import import ty) = []
in_memory_kind (memory.Normal ty) = []
in_memory_kind (memory.Inline is64 pieces exponent) = Asked (Clause 3 (is_page_exponent exponent)) ∷ []

-- the value of a global
abbrev pub in_global_kind : GlobalKind → List Site
in_global_kind (global.Import import) = []
in_global_kind (global.Inline e) = in_constant e

-- a global: its type, and then its initial value
abbrev pub in_global : Global → List Site
in_global g = check_sites (in_global_type g.ty) ++ in_global_kind g.kind

-- an active element segment: its table, if there is one, and its offset
abbrev pub in_elem_kind : ElemKind → List Site
in_elem_kind elem.Passive = []
in_elem_kind elem.Declared = []
in_elem_kind (elem.Active table offset) = if_there (at_index space.Table) table ++ in_constant offset

-- an element segment: its table and offset, its elements, and rule 4 (its type is allowed without a table)
abbrev pub in_elem : Elem → List Site
in_elem e = in_elem_kind e.kind ++ (in_payload e.payload ++ Asked (Clause 4 (is_segment_type_allowed e.kind e.payload)) ∷ [])

-- an active data segment: its memory and its offset
abbrev pub in_data_kind : DataKind → List Site
in_data_kind data_kind.Passive = []
in_data_kind (data_kind.Active memory offset) = at_index space.Memory memory ++ in_constant offset

-- the index space of an exported item
abbrev pub exported_space : ExportKind → Space
exported_space export.Func = space.Func
exported_space export.Table = space.Table
exported_space export.Memory = space.Memory
exported_space export.Global = space.Global
exported_space export.Tag = space.Tag

-- a subsection of dylink.0; that of a target architecture is unsupported
abbrev pub in_subsection : Dylink0Subsection → List Check
in_subsection (dylink.MemInfo memory_size memory_align table_size table_align) = []
in_subsection (dylink.Needed names) = []
in_subsection (dylink.ExportInfo flags) = []
in_subsection (dylink.ImportInfo flags) = []
in_subsection (dylink.RuntimePath names) = []
in_subsection (dylink.TargetArch name) = uncovered_check form.TargetArch

-- a custom section; its bytes are not checked
abbrev pub in_custom : Custom → List Site
in_custom (custom.Raw section) = []
in_custom (custom.Producers producers) = []
in_custom (custom.Dylink0 info) = check_sites (flat_map in_subsection info.subsections)

-- a field
abbrev pub in_field : ModuleField → List Site
in_field (field.Ty t) = check_sites (in_type t)
in_field (field.Rec r) = check_sites (in_rec r)
in_field (field.Import i) = in_import i.items
in_field (field.Func f) = in_func f
in_field (field.Table t) = in_table_kind t.kind
in_field (field.Memory m) = in_memory_kind m.kind
in_field (field.Global g) = in_global g
in_field (field.Export e) = at_index (exported_space e.kind) e.item
in_field (field.Start i) = at_index space.Func i
in_field (field.Elem e) = in_elem e
in_field (field.Data d) = in_data_kind d.kind
in_field (field.Tag t) = in_tag_type t.ty
in_field (field.Custom c) = in_custom c

-- the sites of all fields, in order
abbrev pub in_module : List ModuleField → List Site
in_module fields = flat_map in_field fields

-- the id of a label, which is not checked
abbrev pub mark_asked : Option Mark → List Check
mark_asked None = []
mark_asked (Some m) = PlainId m ∷ []

-- The checks of a site, without its surroundings.
abbrev pub asked_in : Site → List Check
asked_in (Asked a) = a ∷ []
asked_in (Used w u) = in_type_use u
asked_in (Declared before m) = []
asked_in (LocalAt locals i) = InnerIndex i ∷ []
asked_in (FieldAt owner i) = ItemIndex space.Ty owner ∷ InnerIndex i ∷ []
asked_in (LabelAt blocks i) = InnerIndex i ∷ []
asked_in (Repeated blocks m) = mark_asked m
asked_in (Begins blocks m) = mark_asked m
asked_in Ends = []

-- the checks of a list of sites
abbrev pub checks_of : List Site → List Check
checks_of sites = flat_map asked_in sites
