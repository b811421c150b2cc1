-- Instructions without addresses, as Bare has tokens and types.
use Rattle.std.specs.Prelude.{map, option_map}
use Rattle.wat_syntax.specs.Tree.{Index, BlockType, BrTableIndices, TryTable, TryTableCatch, TryTableCatchKind, TableArg, MemoryArg}
use Rattle.wat_syntax.specs.Tree.{MemoryInit, MemoryCopy, TableInit, TableCopy, CallIndirect, SelectTypes, MemArg, MemArgTarget}
use Rattle.wat_syntax.specs.Tree.{StructAccess, ArrayNewFixed, ArrayNewData, ArrayNewElem, ArrayFill, ArrayCopy, ArrayInit}
use Rattle.wat_syntax.specs.Tree.{BrOnCast, LoadOrStoreLane, ContBind, Switch, ResumeTable, Handle, Instruction, Expression}
use Rattle.wat_syntax.specs.Tree.caught
use Rattle.wat_syntax.specs.Tree.target
use Rattle.wat_syntax.specs.Tree.handle
use Rattle.wat_syntax.specs.Tree.instr
use Rattle.wat_syntax.specs.Bare.{bare_text, bare_name_option, bare_id_option, bare_index, bare_indices, bare_heap, bare_ref, bare_vals, bare_type_use}

-- immediates of instructions
abbrev pub bare_two : Index × Index → Index × Index
bare_two x = (bare_index x.0, bare_index x.1)

abbrev pub bare_target : MemArgTarget → MemArgTarget
bare_target (target.Memory x) = target.Memory (bare_index x)
bare_target (target.Array x) = target.Array (bare_index x)

abbrev pub bare_mem_arg : MemArg → MemArg
bare_mem_arg m = record { align = m.align; offset = m.offset; target = bare_target m.target; ordering = m.ordering }

abbrev pub bare_mem_lane : LoadOrStoreLane → LoadOrStoreLane
bare_mem_lane m = record { memarg = bare_mem_arg m.memarg; lane = m.lane }

abbrev pub bare_table_arg : TableArg → TableArg
bare_table_arg a = record { dst = bare_index a.dst }

abbrev pub bare_memory_arg : MemoryArg → MemoryArg
bare_memory_arg a = record { mem = bare_index a.mem }

abbrev pub bare_memory_init : MemoryInit → MemoryInit
bare_memory_init a = record { segment = bare_index a.segment; mem = bare_index a.mem }

abbrev pub bare_memory_copy : MemoryCopy → MemoryCopy
bare_memory_copy a = record { src = bare_index a.src; dst = bare_index a.dst }

abbrev pub bare_table_init : TableInit → TableInit
bare_table_init a = record { table = bare_index a.table; elem = bare_index a.elem }

abbrev pub bare_table_copy : TableCopy → TableCopy
bare_table_copy a = record { dst = bare_index a.dst; src = bare_index a.src }

abbrev pub bare_access : StructAccess → StructAccess
bare_access a = record { owner = bare_index a.owner; field = bare_index a.field }

abbrev pub bare_array_new_fixed : ArrayNewFixed → ArrayNewFixed
bare_array_new_fixed a = record { array = bare_index a.array; length = a.length }

abbrev pub bare_array_new_data : ArrayNewData → ArrayNewData
bare_array_new_data a = record { array = bare_index a.array; data_idx = bare_index a.data_idx }

abbrev pub bare_array_new_elem : ArrayNewElem → ArrayNewElem
bare_array_new_elem a = record { array = bare_index a.array; elem_idx = bare_index a.elem_idx }

abbrev pub bare_array_fill : ArrayFill → ArrayFill
bare_array_fill a = record { array = bare_index a.array }

abbrev pub bare_array_copy : ArrayCopy → ArrayCopy
bare_array_copy a = record { dest_array = bare_index a.dest_array; src_array = bare_index a.src_array }

abbrev pub bare_array_init : ArrayInit → ArrayInit
bare_array_init a = record { array = bare_index a.array; segment = bare_index a.segment }

abbrev pub bare_cast : BrOnCast → BrOnCast
bare_cast a = record { label = bare_index a.label; from_type = bare_ref a.from_type; to_type = bare_ref a.to_type }

abbrev pub bare_cont_bind : ContBind → ContBind
bare_cont_bind a = record { argument_index = bare_index a.argument_index; result_index = bare_index a.result_index }

abbrev pub bare_switch : Switch → Switch
bare_switch a = record { type_index = bare_index a.type_index; tag_index = bare_index a.tag_index }

abbrev pub bare_handle : Handle → Handle
bare_handle (handle.OnLabel x l) = handle.OnLabel (bare_index x) (bare_index l)
bare_handle (handle.OnSwitch x) = handle.OnSwitch (bare_index x)

abbrev pub bare_resume_table : ResumeTable → ResumeTable
bare_resume_table t = record { handlers = map bare_handle t.handlers }

abbrev pub bare_br_table : BrTableIndices → BrTableIndices
bare_br_table t = record { labels = bare_indices t.labels; default = bare_index t.default }

abbrev pub bare_select : SelectTypes → SelectTypes
bare_select s = record { tys = option_map bare_vals s.tys }

abbrev pub bare_call : CallIndirect → CallIndirect
bare_call c = record { table = bare_index c.table; ty = bare_type_use c.ty }

abbrev pub bare_block : BlockType → BlockType
bare_block b = record { label = bare_id_option b.label; label_name = bare_name_option b.label_name; ty = bare_type_use b.ty }

abbrev pub bare_caught : TryTableCatchKind → TryTableCatchKind
bare_caught (caught.Catch x) = caught.Catch (bare_index x)
bare_caught (caught.CatchRef x) = caught.CatchRef (bare_index x)
bare_caught caught.CatchAll = caught.CatchAll
bare_caught caught.CatchAllRef = caught.CatchAllRef

abbrev pub bare_catch : TryTableCatch → TryTableCatch
bare_catch c = record { kind = bare_caught c.kind; label = bare_index c.label }

abbrev pub bare_try_table : TryTable → TryTable
bare_try_table t = record { block = bare_block t.block; catches = map bare_catch t.catches }

-- instructions
abbrev pub bare_instr : Instruction → Instruction
bare_instr (instr.Mem op m) = instr.Mem op (bare_mem_arg m)
bare_instr (instr.MemLane op m) = instr.MemLane op (bare_mem_lane m)
bare_instr (instr.catch x) = instr.catch (bare_index x)
bare_instr (instr.throw x) = instr.throw (bare_index x)
bare_instr (instr.rethrow x) = instr.rethrow (bare_index x)
bare_instr (instr.br x) = instr.br (bare_index x)
bare_instr (instr.br_if x) = instr.br_if (bare_index x)
bare_instr (instr.call x) = instr.call (bare_index x)
bare_instr (instr.return_call x) = instr.return_call (bare_index x)
bare_instr (instr.call_ref x) = instr.call_ref (bare_index x)
bare_instr (instr.return_call_ref x) = instr.return_call_ref (bare_index x)
bare_instr (instr.delegate x) = instr.delegate (bare_index x)
bare_instr (instr.local_get x) = instr.local_get (bare_index x)
bare_instr (instr.local_set x) = instr.local_set (bare_index x)
bare_instr (instr.local_tee x) = instr.local_tee (bare_index x)
bare_instr (instr.global_get x) = instr.global_get (bare_index x)
bare_instr (instr.global_set x) = instr.global_set (bare_index x)
bare_instr (instr.table_get x) = instr.table_get (bare_table_arg x)
bare_instr (instr.table_set x) = instr.table_set (bare_table_arg x)
bare_instr (instr.memory_size x) = instr.memory_size (bare_memory_arg x)
bare_instr (instr.memory_grow x) = instr.memory_grow (bare_memory_arg x)
bare_instr (instr.ref_func x) = instr.ref_func (bare_index x)
bare_instr (instr.br_on_null x) = instr.br_on_null (bare_index x)
bare_instr (instr.br_on_non_null x) = instr.br_on_non_null (bare_index x)
bare_instr (instr.struct_new x) = instr.struct_new (bare_index x)
bare_instr (instr.struct_new_default x) = instr.struct_new_default (bare_index x)
bare_instr (instr.struct_get x) = instr.struct_get (bare_access x)
bare_instr (instr.struct_get_s x) = instr.struct_get_s (bare_access x)
bare_instr (instr.struct_get_u x) = instr.struct_get_u (bare_access x)
bare_instr (instr.struct_set x) = instr.struct_set (bare_access x)
bare_instr (instr.array_new x) = instr.array_new (bare_index x)
bare_instr (instr.array_new_default x) = instr.array_new_default (bare_index x)
bare_instr (instr.array_new_data x) = instr.array_new_data (bare_array_new_data x)
bare_instr (instr.array_new_elem x) = instr.array_new_elem (bare_array_new_elem x)
bare_instr (instr.array_get x) = instr.array_get (bare_index x)
bare_instr (instr.array_get_s x) = instr.array_get_s (bare_index x)
bare_instr (instr.array_get_u x) = instr.array_get_u (bare_index x)
bare_instr (instr.array_set x) = instr.array_set (bare_index x)
bare_instr (instr.array_fill x) = instr.array_fill (bare_array_fill x)
bare_instr (instr.array_copy x) = instr.array_copy (bare_array_copy x)
bare_instr (instr.array_init_data x) = instr.array_init_data (bare_array_init x)
bare_instr (instr.array_init_elem x) = instr.array_init_elem (bare_array_init x)
bare_instr (instr.memory_init x) = instr.memory_init (bare_memory_init x)
bare_instr (instr.data_drop x) = instr.data_drop (bare_index x)
bare_instr (instr.memory_copy x) = instr.memory_copy (bare_memory_copy x)
bare_instr (instr.memory_fill x) = instr.memory_fill (bare_memory_arg x)
bare_instr (instr.table_init x) = instr.table_init (bare_table_init x)
bare_instr (instr.elem_drop x) = instr.elem_drop (bare_index x)
bare_instr (instr.table_copy x) = instr.table_copy (bare_table_copy x)
bare_instr (instr.table_grow x) = instr.table_grow (bare_table_arg x)
bare_instr (instr.table_size x) = instr.table_size (bare_table_arg x)
bare_instr (instr.table_fill x) = instr.table_fill (bare_table_arg x)
bare_instr (instr.struct_new_desc x) = instr.struct_new_desc (bare_index x)
bare_instr (instr.struct_new_default_desc x) = instr.struct_new_default_desc (bare_index x)
bare_instr (instr.ref_get_desc x) = instr.ref_get_desc (bare_index x)
bare_instr (instr.cont_new x) = instr.cont_new (bare_index x)
bare_instr (instr.cont_bind x) = instr.cont_bind (bare_cont_bind x)
bare_instr (instr.suspend x) = instr.suspend (bare_index x)
bare_instr (instr.switch x) = instr.switch (bare_switch x)
bare_instr (instr.memory_discard x) = instr.memory_discard (bare_memory_arg x)
bare_instr (instr.block x) = instr.block (bare_block x)
bare_instr (instr.loop_ x) = instr.loop_ (bare_block x)
bare_instr (instr.if_ x) = instr.if_ (bare_block x)
bare_instr (instr.else_ x) = instr.else_ (bare_id_option x)
bare_instr (instr.try_ x) = instr.try_ (bare_block x)
bare_instr (instr.try_table x) = instr.try_table (bare_try_table x)
bare_instr (instr.end_ x) = instr.end_ (bare_id_option x)
bare_instr (instr.br_table x) = instr.br_table (bare_br_table x)
bare_instr (instr.call_indirect x) = instr.call_indirect (bare_call x)
bare_instr (instr.return_call_indirect x) = instr.return_call_indirect (bare_call x)
bare_instr (instr.select x) = instr.select (bare_select x)
bare_instr (instr.ref_null x) = instr.ref_null (bare_heap x)
bare_instr (instr.array_new_fixed x) = instr.array_new_fixed (bare_array_new_fixed x)
bare_instr (instr.ref_test x) = instr.ref_test (record { rt = bare_ref x.rt })
bare_instr (instr.ref_cast x) = instr.ref_cast (record { rt = bare_ref x.rt })
bare_instr (instr.ref_cast_desc_eq x) = instr.ref_cast_desc_eq (record { rt = bare_ref x.rt })
bare_instr (instr.br_on_cast x) = instr.br_on_cast (bare_cast x)
bare_instr (instr.br_on_cast_fail x) =
    instr.br_on_cast_fail (record { label = bare_index x.label; from_type = bare_ref x.from_type; to_type = bare_ref x.to_type })
bare_instr (instr.br_on_cast_desc_eq x) =
    instr.br_on_cast_desc_eq (record { label = bare_index x.label; from_type = bare_ref x.from_type; to_type = bare_ref x.to_type })
bare_instr (instr.br_on_cast_desc_eq_fail x) =
    instr.br_on_cast_desc_eq_fail (record { label = bare_index x.label; from_type = bare_ref x.from_type; to_type = bare_ref x.to_type })
bare_instr (instr.GlobalAtomic x) = instr.GlobalAtomic (record { ordering = x.ordering; inner = bare_index x.inner })
bare_instr (instr.TableAtomic x) = instr.TableAtomic (record { ordering = x.ordering; inner = bare_table_arg x.inner })
bare_instr (instr.StructAtomic x) = instr.StructAtomic (record { ordering = x.ordering; inner = bare_access x.inner })
bare_instr (instr.ArrayAtomic x) = instr.ArrayAtomic (record { ordering = x.ordering; inner = bare_index x.inner })
bare_instr (instr.resume x) = instr.resume (record { type_index = bare_index x.type_index; table = bare_resume_table x.table })
bare_instr (instr.resume_throw x) =
    instr.resume_throw (record { type_index = bare_index x.type_index; tag_index = bare_index x.tag_index; table = bare_resume_table x.table })
bare_instr (instr.resume_throw_ref x) = instr.resume_throw_ref (record { type_index = bare_index x.type_index; table = bare_resume_table x.table })
bare_instr (instr.Beyond name) = instr.Beyond (bare_text name)
bare_instr i = i

abbrev pub bare_expression : Expression → Expression
bare_expression e = record { instrs = map bare_instr e.instrs; branch_hints = e.branch_hints }
