-- Examples that compute: the checks of an instruction of each kind, with a generated id at each position for one.
--
--   call of the generated id 1      one check: an index of a function, the id 1
use Rattle.std.specs.Prelude.{◌≡◌, ℕ, ◌+◌, pos, true, false, List, [], ◌∷◌, Some, None}
use Rattle.std.specs.Borrow.{Bor}
use Rattle.wast_tree.specs.Tree.{Space, RefType, FunctionType, TypeUse, Instruction, MemArg, ResumeTable, Form}
use Rattle.wast_tree.specs.Tree.space
use Rattle.wast_tree.specs.Tree.form
use Rattle.wast_tree.specs.Tree.heap
use Rattle.wast_tree.specs.Tree.value
use Rattle.wast_tree.specs.Tree.bare
use Rattle.wast_tree.specs.Tree.plain
use Rattle.wast_tree.specs.Tree.target
use Rattle.wast_tree.specs.Tree.caught
use Rattle.wast_tree.specs.Tree.ordering
use Rattle.wast_tree.specs.Tree.handle
use Rattle.wast_tree.specs.Tree.instr
use Rattle.wast_base.specs.declared.mem_ops.MemOp.TheVariants as mem_op
use Rattle.wast_base.specs.declared.lane_ops.LaneOp.TheVariants as lane_op
use Rattle.wast_base.specs.declared.lane_ops.MemLaneOp.TheVariants as mem_lane_op
use Rattle.wast_tree_nodes.specs.declared.vectors.V128Const.{V128Const}
use Rattle.wast_tree_nodes.specs.declared.vectors.I8x16Shuffle.{I8x16Shuffle}
use Rattle.wast_tree_nodes.specs.Sites.{Check, ItemIndex, InnerIndex, PlainId, Clause, Covered, constant_context, in_instr, checks_of}
use Rattle.wast_tree.specs.Private.Examples.{made, made_index, made_mark, ref_to, block_of}

-- the checks of an instruction
abbrev pub asks : Instruction → List Check
asks i = checks_of (in_instr constant_context i)

-- a check of an index of a space, the id of this generation
abbrev pub wants : Space → ℕ → Check
wants s n = ItemIndex s (made_index n)

-- a check of an index of a local, a label or a field, the id of this generation
abbrev pub within : ℕ → Check
within n = InnerIndex (made_index n)

-- the id of a label, with this generation
abbrev pub named : ℕ → Check
named n = PlainId (made_mark n)

-- a check of an unsupported form that the instruction has
abbrev pub lacks : Form → Check
lacks f = Covered f false

-- a type use with an index and no inline type
abbrev pub used : ℕ → TypeUse FunctionType
used n = record { index = Some (made_index n); inline = None }

-- a reference to a type
abbrev pub to_type : ℕ → RefType
to_type n = record { nullable = true; heap = heap.Concrete (made_index n) }

-- a memory argument of a memory
abbrev pub mem_arg : ℕ → MemArg
mem_arg n = record { align = 4; offset = 0; target = target.Memory (made_index n); ordering = None }

-- `(on $n $n+1) (on $n+2 switch)`
abbrev pub handlers : ℕ → ResumeTable
handlers n = record { handlers = handle.OnLabel (made_index n) (made_index (n + 1)) ∷ handle.OnSwitch (made_index (n + 2)) ∷ [] }

-- Each instruction has these checks, in this order.
abbrev pub InstructionsAsk : Type 0
InstructionsAsk = (name : Bor (List ℕ)) (c : V128Const) (lanes : I8x16Shuffle) →
    (asks (instr.Plain (plain.Bare bare.drop)) ≡ [])
    × (asks (instr.Mem mem_op.i32_load (mem_arg 1)) ≡ wants space.Memory 1 ∷ Clause 1 true ∷ Covered form.Ordering true ∷ [])
    × (asks (instr.Lane lane_op.i8x16_extract_lane_s (record { lane = 1 })) ≡ [])
    × (asks (instr.MemLane mem_lane_op.v128_load8_lane (record { memarg = mem_arg 1; lane = record { lane = 1 } })) ≡ wants space.Memory 1 ∷ Clause 1 true ∷ Covered form.Ordering true ∷ [])
    × (asks (instr.block (block_of (Some (made 1)) (used 2))) ≡ wants space.Ty 2 ∷ named 1 ∷ [])
    × (asks (instr.loop_ (block_of (Some (made 1)) (used 2))) ≡ wants space.Ty 2 ∷ named 1 ∷ [])
    × (asks (instr.if_ (block_of (Some (made 1)) (used 2))) ≡ wants space.Ty 2 ∷ named 1 ∷ [])
    × (asks (instr.else_ (Some (made 1))) ≡ named 1 ∷ [])
    × (asks (instr.try_ (block_of (Some (made 1)) (used 2))) ≡ wants space.Ty 2 ∷ named 1 ∷ [])
    × (asks (instr.try_table (record { block = block_of (Some (made 1)) (used 2); catches = record { kind = caught.Catch (made_index 3); label = made_index 4 } ∷ record { kind = caught.CatchAll; label = made_index 5 } ∷ [] })) ≡ wants space.Ty 2 ∷ wants space.Tag 3 ∷ within 4 ∷ within 5 ∷ named 1 ∷ [])
    × (asks (instr.end_ (Some (made 1))) ≡ named 1 ∷ [])
    × (asks (instr.delegate (made_index 1)) ≡ within 1 ∷ [])
    × (asks (instr.br (made_index 1)) ≡ within 1 ∷ [])
    × (asks (instr.br_if (made_index 1)) ≡ within 1 ∷ [])
    × (asks (instr.br_table (record { labels = made_index 1 ∷ made_index 2 ∷ []; default = made_index 3 })) ≡ within 1 ∷ within 2 ∷ within 3 ∷ [])
    × (asks (instr.br_on_null (made_index 1)) ≡ within 1 ∷ [])
    × (asks (instr.br_on_non_null (made_index 1)) ≡ within 1 ∷ [])
    × (asks (instr.rethrow (made_index 1)) ≡ within 1 ∷ [])
    × (asks (instr.catch (made_index 1)) ≡ wants space.Tag 1 ∷ [])
    × (asks (instr.throw (made_index 1)) ≡ wants space.Tag 1 ∷ [])
    × (asks (instr.call (made_index 1)) ≡ wants space.Func 1 ∷ [])
    × (asks (instr.return_call (made_index 1)) ≡ wants space.Func 1 ∷ [])
    × (asks (instr.call_indirect (record { table = made_index 1; ty = used 2 })) ≡ wants space.Table 1 ∷ wants space.Ty 2 ∷ [])
    × (asks (instr.return_call_indirect (record { table = made_index 1; ty = used 2 })) ≡ wants space.Table 1 ∷ wants space.Ty 2 ∷ [])
    × (asks (instr.call_ref (made_index 1)) ≡ wants space.Ty 1 ∷ [])
    × (asks (instr.return_call_ref (made_index 1)) ≡ wants space.Ty 1 ∷ [])
    × (asks (instr.select (record { tys = Some (ref_to (made_index 1) ∷ value.I32 ∷ []) })) ≡ wants space.Ty 1 ∷ [])
    × (asks (instr.local_get (made_index 1)) ≡ within 1 ∷ [])
    × (asks (instr.local_set (made_index 1)) ≡ within 1 ∷ [])
    × (asks (instr.local_tee (made_index 1)) ≡ within 1 ∷ [])
    × (asks (instr.global_get (made_index 1)) ≡ wants space.Global 1 ∷ [])
    × (asks (instr.global_set (made_index 1)) ≡ wants space.Global 1 ∷ [])
    × (asks (instr.table_get (record { dst = made_index 1 })) ≡ wants space.Table 1 ∷ [])
    × (asks (instr.table_set (record { dst = made_index 1 })) ≡ wants space.Table 1 ∷ [])
    × (asks (instr.table_init (record { table = made_index 1; elem = made_index 2 })) ≡ wants space.Elem 2 ∷ wants space.Table 1 ∷ [])
    × (asks (instr.elem_drop (made_index 1)) ≡ wants space.Elem 1 ∷ [])
    × (asks (instr.table_copy (record { dst = made_index 1; src = made_index 2 })) ≡ wants space.Table 1 ∷ wants space.Table 2 ∷ [])
    × (asks (instr.table_grow (record { dst = made_index 1 })) ≡ wants space.Table 1 ∷ [])
    × (asks (instr.table_size (record { dst = made_index 1 })) ≡ wants space.Table 1 ∷ [])
    × (asks (instr.table_fill (record { dst = made_index 1 })) ≡ wants space.Table 1 ∷ [])
    × (asks (instr.memory_size (record { mem = made_index 1 })) ≡ wants space.Memory 1 ∷ [])
    × (asks (instr.memory_grow (record { mem = made_index 1 })) ≡ wants space.Memory 1 ∷ [])
    × (asks (instr.memory_init (record { segment = made_index 1; mem = made_index 2 })) ≡ wants space.Data 1 ∷ wants space.Memory 2 ∷ [])
    × (asks (instr.data_drop (made_index 1)) ≡ wants space.Data 1 ∷ [])
    × (asks (instr.memory_copy (record { src = made_index 1; dst = made_index 2 })) ≡ wants space.Memory 1 ∷ wants space.Memory 2 ∷ [])
    × (asks (instr.memory_fill (record { mem = made_index 1 })) ≡ wants space.Memory 1 ∷ [])
    × (asks (instr.i32_const (pos 1)) ≡ [])
    × (asks (instr.i64_const (pos 1)) ≡ [])
    × (asks (instr.f32_const (record { bits = 1 })) ≡ [])
    × (asks (instr.f64_const (record { bits = 1 })) ≡ [])
    × (asks (instr.ref_null (heap.Concrete (made_index 1))) ≡ wants space.Ty 1 ∷ [])
    × (asks (instr.ref_func (made_index 1)) ≡ wants space.Func 1 ∷ [])
    × (asks (instr.struct_new (made_index 1)) ≡ wants space.Ty 1 ∷ [])
    × (asks (instr.struct_new_default (made_index 1)) ≡ wants space.Ty 1 ∷ [])
    × (asks (instr.struct_get (record { owner = made_index 1; field = made_index 2 })) ≡ wants space.Ty 1 ∷ within 2 ∷ [])
    × (asks (instr.struct_get_s (record { owner = made_index 1; field = made_index 2 })) ≡ wants space.Ty 1 ∷ within 2 ∷ [])
    × (asks (instr.struct_get_u (record { owner = made_index 1; field = made_index 2 })) ≡ wants space.Ty 1 ∷ within 2 ∷ [])
    × (asks (instr.struct_set (record { owner = made_index 1; field = made_index 2 })) ≡ wants space.Ty 1 ∷ within 2 ∷ [])
    × (asks (instr.array_new (made_index 1)) ≡ wants space.Ty 1 ∷ [])
    × (asks (instr.array_new_default (made_index 1)) ≡ wants space.Ty 1 ∷ [])
    × (asks (instr.array_new_fixed (record { array = made_index 1; length = 2 })) ≡ wants space.Ty 1 ∷ [])
    × (asks (instr.array_new_data (record { array = made_index 1; data_idx = made_index 2 })) ≡ wants space.Ty 1 ∷ wants space.Data 2 ∷ [])
    × (asks (instr.array_new_elem (record { array = made_index 1; elem_idx = made_index 2 })) ≡ wants space.Ty 1 ∷ wants space.Elem 2 ∷ [])
    × (asks (instr.array_get (made_index 1)) ≡ wants space.Ty 1 ∷ [])
    × (asks (instr.array_get_s (made_index 1)) ≡ wants space.Ty 1 ∷ [])
    × (asks (instr.array_get_u (made_index 1)) ≡ wants space.Ty 1 ∷ [])
    × (asks (instr.array_set (made_index 1)) ≡ wants space.Ty 1 ∷ [])
    × (asks (instr.array_fill (record { array = made_index 1 })) ≡ wants space.Ty 1 ∷ [])
    × (asks (instr.array_copy (record { dest_array = made_index 1; src_array = made_index 2 })) ≡ wants space.Ty 1 ∷ wants space.Ty 2 ∷ [])
    × (asks (instr.array_init_data (record { array = made_index 1; segment = made_index 2 })) ≡ wants space.Ty 1 ∷ wants space.Data 2 ∷ [])
    × (asks (instr.array_init_elem (record { array = made_index 1; segment = made_index 2 })) ≡ wants space.Ty 1 ∷ wants space.Elem 2 ∷ [])
    × (asks (instr.ref_test (record { rt = to_type 1 })) ≡ wants space.Ty 1 ∷ [])
    × (asks (instr.ref_cast (record { rt = to_type 1 })) ≡ wants space.Ty 1 ∷ [])
    × (asks (instr.ref_cast_desc_eq (record { rt = to_type 1 })) ≡ wants space.Ty 1 ∷ lacks form.Descriptor ∷ [])
    × (asks (instr.br_on_cast (record { label = made_index 1; from_type = to_type 2; to_type = to_type 3 })) ≡ within 1 ∷ wants space.Ty 3 ∷ wants space.Ty 2 ∷ [])
    × (asks (instr.br_on_cast_fail (record { label = made_index 1; from_type = to_type 2; to_type = to_type 3 })) ≡ within 1 ∷ wants space.Ty 3 ∷ wants space.Ty 2 ∷ [])
    × (asks (instr.br_on_cast_desc_eq (record { label = made_index 1; from_type = to_type 2; to_type = to_type 3 })) ≡ within 1 ∷ wants space.Ty 3 ∷ wants space.Ty 2 ∷ lacks form.Descriptor ∷ [])
    × (asks (instr.br_on_cast_desc_eq_fail (record { label = made_index 1; from_type = to_type 2; to_type = to_type 3 })) ≡ within 1 ∷ wants space.Ty 3 ∷ wants space.Ty 2 ∷ lacks form.Descriptor ∷ [])
    × (asks (instr.v128_const c) ≡ [])
    × (asks (instr.i8x16_shuffle lanes) ≡ [])
    × (asks (instr.atomic_fence (Some ordering.AcqRel)) ≡ lacks form.Ordering ∷ [])
    × (asks (instr.GlobalAtomic (record { ordering = ordering.SeqCst; inner = made_index 1 })) ≡ wants space.Global 1 ∷ lacks form.Atomic ∷ [])
    × (asks (instr.TableAtomic (record { ordering = ordering.SeqCst; inner = record { dst = made_index 1 } })) ≡ wants space.Table 1 ∷ lacks form.Atomic ∷ [])
    × (asks (instr.StructAtomic (record { ordering = ordering.SeqCst; inner = record { owner = made_index 1; field = made_index 2 } })) ≡ wants space.Ty 1 ∷ within 2 ∷ lacks form.Atomic ∷ [])
    × (asks (instr.ArrayAtomic (record { ordering = ordering.SeqCst; inner = made_index 1 })) ≡ wants space.Ty 1 ∷ lacks form.Atomic ∷ [])
    × (asks (instr.struct_new_desc (made_index 1)) ≡ wants space.Ty 1 ∷ lacks form.Descriptor ∷ [])
    × (asks (instr.struct_new_default_desc (made_index 1)) ≡ wants space.Ty 1 ∷ lacks form.Descriptor ∷ [])
    × (asks (instr.ref_get_desc (made_index 1)) ≡ wants space.Ty 1 ∷ lacks form.Descriptor ∷ [])
    × (asks (instr.cont_new (made_index 1)) ≡ wants space.Ty 1 ∷ lacks form.StackSwitching ∷ [])
    × (asks (instr.cont_bind (record { argument_index = made_index 1; result_index = made_index 2 })) ≡ wants space.Ty 1 ∷ wants space.Ty 2 ∷ lacks form.StackSwitching ∷ [])
    × (asks (instr.suspend (made_index 1)) ≡ wants space.Tag 1 ∷ lacks form.StackSwitching ∷ [])
    × (asks (instr.resume (record { type_index = made_index 1; table = handlers 2 })) ≡ wants space.Ty 1 ∷ wants space.Tag 2 ∷ within 3 ∷ wants space.Tag 4 ∷ lacks form.StackSwitching ∷ [])
    × (asks (instr.resume_throw (record { type_index = made_index 1; tag_index = made_index 2; table = handlers 3 })) ≡ wants space.Ty 1 ∷ wants space.Tag 2 ∷ wants space.Tag 3 ∷ within 4 ∷ wants space.Tag 5 ∷ lacks form.StackSwitching ∷ [])
    × (asks (instr.resume_throw_ref (record { type_index = made_index 1; table = handlers 2 })) ≡ wants space.Ty 1 ∷ wants space.Tag 2 ∷ within 3 ∷ wants space.Tag 4 ∷ lacks form.StackSwitching ∷ [])
    × (asks (instr.switch (record { type_index = made_index 1; tag_index = made_index 2 })) ≡ wants space.Ty 1 ∷ wants space.Tag 2 ∷ lacks form.StackSwitching ∷ [])
    × (asks (instr.memory_discard (record { mem = made_index 1 })) ≡ wants space.Memory 1 ∷ lacks form.Beyond ∷ [])
    × (asks (instr.Beyond name) ≡ lacks form.Beyond ∷ [])
