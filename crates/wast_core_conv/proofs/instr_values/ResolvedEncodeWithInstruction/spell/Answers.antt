use mir.Val.{SFits}
use Rattle.std.specs.Int.{w32, w64}
use Rattle.std.proofs.lemmas.Int.{to_z-of_z}
use Rattle.wast_tree_nodes.specs.Sites.{is_sequential, in_heap, in_ref, in_mem_arg, in_select}
use Rattle.wasm_ops.specs.ConstantInstrs.{i32_const_instr, i64_const_instr}
use Rattle.wasm_ops.specs.Sinks.{Writes}
use Rattle.wasm_ops.specs.Table.{instr}
use Rattle.std.proofs.Common.{rules, ◌≡◌, true, sym, ◌∙◌, subst}
use Rattle.wast_core_conv.specs.Encodable.{is_encodable_instr}
use Rattle.wast_core_conv.proofs.EachPasses.{both_pass}
use Rattle.wast_core_conv.proofs.Standing.{asking_passes}
use Rattle.wast_core_conv.proofs.instr_values.ResolvedEncodeWithInstruction.spell.Goals as goal

pub put_mem-requires : goal.put_mem-requires
put_mem-requires g c = sym (asking_passes (in_mem_arg c.in-Mem.arg)) ∙ subst (λ i. is_encodable_instr i ≡ true) c.in-Mem.is c.requires

pub put_block-requires : goal.put_block-requires
put_block-requires g c = subst (λ i. is_encodable_instr i ≡ true) c.in-block.is c.requires

pub put_block-requires-in-loop_ : goal.put_block-requires-in-loop_
put_block-requires-in-loop_ g c = subst (λ i. is_encodable_instr i ≡ true) c.in-loop_.is c.requires

pub put_block-requires-in-if_ : goal.put_block-requires-in-if_
put_block-requires-in-if_ g c = subst (λ i. is_encodable_instr i ≡ true) c.in-if_.is c.requires

pub put_block-requires-in-try_ : goal.put_block-requires-in-try_
put_block-requires-in-try_ g c = subst (λ i. is_encodable_instr i ≡ true) c.in-try_.is c.requires

pub put_try_table-requires : goal.put_try_table-requires
put_try_table-requires g c = subst (λ i. is_encodable_instr i ≡ true) c.in-try_table.is c.requires

pub put_br_table-requires : goal.put_br_table-requires
put_br_table-requires g c = subst (λ i. is_encodable_instr i ≡ true) c.in-br_table.is c.requires

pub put_boxed_call-requires : goal.put_boxed_call-requires
put_boxed_call-requires g c = subst (λ i. is_encodable_instr i ≡ true) c.in-call_indirect.is c.requires

pub put_boxed_call-requires-in-return_call_indirect : goal.put_boxed_call-requires-in-return_call_indirect
put_boxed_call-requires-in-return_call_indirect g c = subst (λ i. is_encodable_instr i ≡ true) c.in-return_call_indirect.is c.requires

pub put_select-requires : goal.put_select-requires
put_select-requires g c = sym (asking_passes (in_select c.in-select.types)) ∙ subst (λ i. is_encodable_instr i ≡ true) c.in-select.is c.requires

pub put_null-requires : goal.put_null-requires
put_null-requires g c = sym (asking_passes (in_heap c.in-ref_null.ty)) ∙ subst (λ i. is_encodable_instr i ≡ true) c.in-ref_null.is c.requires

pub put_mem_lane-requires : goal.put_mem_lane-requires
put_mem_lane-requires g c = sym (asking_passes (in_mem_arg c.in-MemLane.arg.memarg)) ∙ subst (λ i. is_encodable_instr i ≡ true) c.in-MemLane.is c.requires

pub put_cast-requires : goal.put_cast-requires
put_cast-requires g c = sym (asking_passes (in_ref c.in-ref_test.arg.rt)) ∙ subst (λ i. is_encodable_instr i ≡ true) c.in-ref_test.is c.requires

pub put_cast-requires-in-ref_cast : goal.put_cast-requires-in-ref_cast
put_cast-requires-in-ref_cast g c = sym (asking_passes (in_ref c.in-ref_cast.arg.rt)) ∙ subst (λ i. is_encodable_instr i ≡ true) c.in-ref_cast.is c.requires

pub put_br_on_cast-requires : goal.put_br_on_cast-requires
put_br_on_cast-requires g c = subst (λ i. is_encodable_instr i ≡ true) c.in-br_on_cast.is c.requires

pub put_br_on_cast_fail-requires : goal.put_br_on_cast_fail-requires
put_br_on_cast_fail-requires g c = subst (λ i. is_encodable_instr i ≡ true) c.in-br_on_cast_fail.is c.requires

pub put_fence-requires : goal.put_fence-requires
put_fence-requires g c = (both_pass (is_sequential c.in-atomic_fence.ordering) true
    (subst (λ i. is_encodable_instr i ≡ true) c.in-atomic_fence.is c.requires)).0

pub returns-in-Mem : goal.returns-in-Mem
returns-in-Mem g c = rw c.in-Mem.is c.put_mem.ensures

pub returns-in-block : goal.returns-in-block
returns-in-block g c = rw c.in-block.is c.put_block.ensures

pub returns-in-loop_ : goal.returns-in-loop_
returns-in-loop_ g c = rw c.in-loop_.is c.put_block-in-loop_.ensures

pub returns-in-if_ : goal.returns-in-if_
returns-in-if_ g c = rw c.in-if_.is c.put_block-in-if_.ensures

pub returns-in-else_ : goal.returns-in-else_
returns-in-else_ g c = rw c.in-else_.is c.encode-in-else_.ensures

pub returns-in-try_ : goal.returns-in-try_
returns-in-try_ g c = rw c.in-try_.is c.put_block-in-try_.ensures

pub returns-in-try_table : goal.returns-in-try_table
returns-in-try_table g c = rw c.in-try_table.is c.put_try_table.ensures

pub returns-in-end_ : goal.returns-in-end_
returns-in-end_ g c = rw c.in-end_.is c.encode-in-end_.ensures

pub returns-in-br_table : goal.returns-in-br_table
returns-in-br_table g c = rw c.in-br_table.is c.put_br_table.ensures

pub returns-in-call_indirect : goal.returns-in-call_indirect
returns-in-call_indirect g c = rw c.in-call_indirect.is c.put_boxed_call.ensures

pub returns-in-return_call_indirect : goal.returns-in-return_call_indirect
returns-in-return_call_indirect g c = rw c.in-return_call_indirect.is c.put_boxed_call-in-return_call_indirect.ensures

pub returns-in-select : goal.returns-in-select
returns-in-select g c = rw c.in-select.is c.put_select.ensures

pub returns-in-i32_const : goal.returns-in-i32_const
returns-in-i32_const g c =
    let fits : SFits w32 c.in-i32_const.value = search rules in
    rw c.in-i32_const.is (subst (λ z. Writes g.S.Sink.rules (instr (i32_const_instr z)).in_range c.args.out.now c.encode-in-i32_const.new.out
    (instr (i32_const_instr z)).bytes c.encode-in-i32_const.result) (to_z-of_z w32 c.in-i32_const.value fits) c.encode-in-i32_const.ensures)

pub returns-in-i64_const : goal.returns-in-i64_const
returns-in-i64_const g c =
    let fits : SFits w64 c.in-i64_const.value = search rules in
    rw c.in-i64_const.is (subst (λ z. Writes g.S.Sink.rules (instr (i64_const_instr z)).in_range c.args.out.now c.encode-in-i64_const.new.out
    (instr (i64_const_instr z)).bytes c.encode-in-i64_const.result) (to_z-of_z w64 c.in-i64_const.value fits) c.encode-in-i64_const.ensures)

pub returns-in-f32_const : goal.returns-in-f32_const
returns-in-f32_const g c = rw c.in-f32_const.is c.encode-in-f32_const.ensures

pub returns-in-f64_const : goal.returns-in-f64_const
returns-in-f64_const g c = rw c.in-f64_const.is c.encode-in-f64_const.ensures

pub returns-in-ref_null : goal.returns-in-ref_null
returns-in-ref_null g c = rw c.in-ref_null.is c.put_null.ensures

pub returns-in-Lane : goal.returns-in-Lane
returns-in-Lane g c = rw c.in-Lane.is c.put_lane.ensures

pub returns-in-MemLane : goal.returns-in-MemLane
returns-in-MemLane g c = rw c.in-MemLane.is c.put_mem_lane.ensures

pub returns-in-array_new_fixed : goal.returns-in-array_new_fixed
returns-in-array_new_fixed g c = rw c.in-array_new_fixed.is c.put_new_fixed.ensures

pub returns-in-ref_test : goal.returns-in-ref_test
returns-in-ref_test g c = rw c.in-ref_test.is c.put_cast.ensures

pub returns-in-ref_cast : goal.returns-in-ref_cast
returns-in-ref_cast g c = rw c.in-ref_cast.is c.put_cast-in-ref_cast.ensures

pub returns-in-br_on_cast : goal.returns-in-br_on_cast
returns-in-br_on_cast g c = rw c.in-br_on_cast.is c.put_br_on_cast.ensures

pub returns-in-br_on_cast_fail : goal.returns-in-br_on_cast_fail
returns-in-br_on_cast_fail g c = rw c.in-br_on_cast_fail.is c.put_br_on_cast_fail.ensures

pub returns-in-v128_const : goal.returns-in-v128_const
returns-in-v128_const g c = rw c.in-v128_const.is c.put_v128.ensures

pub returns-in-i8x16_shuffle : goal.returns-in-i8x16_shuffle
returns-in-i8x16_shuffle g c = rw c.in-i8x16_shuffle.is c.encode-in-i8x16_shuffle.ensures

pub returns-in-atomic_fence : goal.returns-in-atomic_fence
returns-in-atomic_fence g c = rw c.in-atomic_fence.is c.put_fence.ensures

-- Written by tools/ops from here.

pub put_access-requires : goal.put_access-requires
put_access-requires g c = subst (λ i. is_encodable_instr i ≡ true) c.in-struct_get.is c.requires

pub put_access-requires-in-struct_get_s : goal.put_access-requires-in-struct_get_s
put_access-requires-in-struct_get_s g c = subst (λ i. is_encodable_instr i ≡ true) c.in-struct_get_s.is c.requires

pub put_access-requires-in-struct_get_u : goal.put_access-requires-in-struct_get_u
put_access-requires-in-struct_get_u g c = subst (λ i. is_encodable_instr i ≡ true) c.in-struct_get_u.is c.requires

pub put_access-requires-in-struct_set : goal.put_access-requires-in-struct_set
put_access-requires-in-struct_set g c = subst (λ i. is_encodable_instr i ≡ true) c.in-struct_set.is c.requires

pub returns-in-catch : goal.returns-in-catch
returns-in-catch g c = rw c.in-catch.is c.put_index.ensures

pub returns-in-throw : goal.returns-in-throw
returns-in-throw g c = rw c.in-throw.is c.put_index-in-throw.ensures

pub returns-in-rethrow : goal.returns-in-rethrow
returns-in-rethrow g c = rw c.in-rethrow.is c.put_index-in-rethrow.ensures

pub returns-in-br : goal.returns-in-br
returns-in-br g c = rw c.in-br.is c.put_index-in-br.ensures

pub returns-in-br_if : goal.returns-in-br_if
returns-in-br_if g c = rw c.in-br_if.is c.put_index-in-br_if.ensures

pub returns-in-call : goal.returns-in-call
returns-in-call g c = rw c.in-call.is c.put_index-in-call.ensures

pub returns-in-return_call : goal.returns-in-return_call
returns-in-return_call g c = rw c.in-return_call.is c.put_index-in-return_call.ensures

pub returns-in-call_ref : goal.returns-in-call_ref
returns-in-call_ref g c = rw c.in-call_ref.is c.put_index-in-call_ref.ensures

pub returns-in-return_call_ref : goal.returns-in-return_call_ref
returns-in-return_call_ref g c = rw c.in-return_call_ref.is c.put_index-in-return_call_ref.ensures

pub returns-in-delegate : goal.returns-in-delegate
returns-in-delegate g c = rw c.in-delegate.is c.put_index-in-delegate.ensures

pub returns-in-local_get : goal.returns-in-local_get
returns-in-local_get g c = rw c.in-local_get.is c.put_index-in-local_get.ensures

pub returns-in-local_set : goal.returns-in-local_set
returns-in-local_set g c = rw c.in-local_set.is c.put_index-in-local_set.ensures

pub returns-in-local_tee : goal.returns-in-local_tee
returns-in-local_tee g c = rw c.in-local_tee.is c.put_index-in-local_tee.ensures

pub returns-in-global_get : goal.returns-in-global_get
returns-in-global_get g c = rw c.in-global_get.is c.put_index-in-global_get.ensures

pub returns-in-global_set : goal.returns-in-global_set
returns-in-global_set g c = rw c.in-global_set.is c.put_index-in-global_set.ensures

pub returns-in-table_get : goal.returns-in-table_get
returns-in-table_get g c = rw c.in-table_get.is c.put_index-in-table_get.ensures

pub returns-in-table_set : goal.returns-in-table_set
returns-in-table_set g c = rw c.in-table_set.is c.put_index-in-table_set.ensures

pub returns-in-memory_size : goal.returns-in-memory_size
returns-in-memory_size g c = rw c.in-memory_size.is c.put_index-in-memory_size.ensures

pub returns-in-memory_grow : goal.returns-in-memory_grow
returns-in-memory_grow g c = rw c.in-memory_grow.is c.put_index-in-memory_grow.ensures

pub returns-in-ref_func : goal.returns-in-ref_func
returns-in-ref_func g c = rw c.in-ref_func.is c.put_index-in-ref_func.ensures

pub returns-in-br_on_null : goal.returns-in-br_on_null
returns-in-br_on_null g c = rw c.in-br_on_null.is c.put_index-in-br_on_null.ensures

pub returns-in-br_on_non_null : goal.returns-in-br_on_non_null
returns-in-br_on_non_null g c = rw c.in-br_on_non_null.is c.put_index-in-br_on_non_null.ensures

pub returns-in-struct_new : goal.returns-in-struct_new
returns-in-struct_new g c = rw c.in-struct_new.is c.put_index-in-struct_new.ensures

pub returns-in-struct_new_default : goal.returns-in-struct_new_default
returns-in-struct_new_default g c = rw c.in-struct_new_default.is c.put_index-in-struct_new_default.ensures

pub returns-in-struct_get : goal.returns-in-struct_get
returns-in-struct_get g c = rw c.in-struct_get.is c.put_access.ensures

pub returns-in-struct_get_s : goal.returns-in-struct_get_s
returns-in-struct_get_s g c = rw c.in-struct_get_s.is c.put_access-in-struct_get_s.ensures

pub returns-in-struct_get_u : goal.returns-in-struct_get_u
returns-in-struct_get_u g c = rw c.in-struct_get_u.is c.put_access-in-struct_get_u.ensures

pub returns-in-struct_set : goal.returns-in-struct_set
returns-in-struct_set g c = rw c.in-struct_set.is c.put_access-in-struct_set.ensures

pub returns-in-array_new : goal.returns-in-array_new
returns-in-array_new g c = rw c.in-array_new.is c.put_index-in-array_new.ensures

pub returns-in-array_new_default : goal.returns-in-array_new_default
returns-in-array_new_default g c = rw c.in-array_new_default.is c.put_index-in-array_new_default.ensures

pub returns-in-array_new_data : goal.returns-in-array_new_data
returns-in-array_new_data g c = rw c.in-array_new_data.is c.put_pair.ensures

pub returns-in-array_new_elem : goal.returns-in-array_new_elem
returns-in-array_new_elem g c = rw c.in-array_new_elem.is c.put_pair-in-array_new_elem.ensures

pub returns-in-array_get : goal.returns-in-array_get
returns-in-array_get g c = rw c.in-array_get.is c.put_index-in-array_get.ensures

pub returns-in-array_get_s : goal.returns-in-array_get_s
returns-in-array_get_s g c = rw c.in-array_get_s.is c.put_index-in-array_get_s.ensures

pub returns-in-array_get_u : goal.returns-in-array_get_u
returns-in-array_get_u g c = rw c.in-array_get_u.is c.put_index-in-array_get_u.ensures

pub returns-in-array_set : goal.returns-in-array_set
returns-in-array_set g c = rw c.in-array_set.is c.put_index-in-array_set.ensures

pub returns-in-array_fill : goal.returns-in-array_fill
returns-in-array_fill g c = rw c.in-array_fill.is c.put_index-in-array_fill.ensures

pub returns-in-array_copy : goal.returns-in-array_copy
returns-in-array_copy g c = rw c.in-array_copy.is c.put_pair-in-array_copy.ensures

pub returns-in-array_init_data : goal.returns-in-array_init_data
returns-in-array_init_data g c = rw c.in-array_init_data.is c.put_pair-in-array_init_data.ensures

pub returns-in-array_init_elem : goal.returns-in-array_init_elem
returns-in-array_init_elem g c = rw c.in-array_init_elem.is c.put_pair-in-array_init_elem.ensures

pub returns-in-memory_init : goal.returns-in-memory_init
returns-in-memory_init g c = rw c.in-memory_init.is c.put_pair-in-memory_init.ensures

pub returns-in-data_drop : goal.returns-in-data_drop
returns-in-data_drop g c = rw c.in-data_drop.is c.put_index-in-data_drop.ensures

pub returns-in-memory_copy : goal.returns-in-memory_copy
returns-in-memory_copy g c = rw c.in-memory_copy.is c.put_pair-in-memory_copy.ensures

pub returns-in-memory_fill : goal.returns-in-memory_fill
returns-in-memory_fill g c = rw c.in-memory_fill.is c.put_index-in-memory_fill.ensures

pub returns-in-table_init : goal.returns-in-table_init
returns-in-table_init g c = rw c.in-table_init.is c.put_pair-in-table_init.ensures

pub returns-in-elem_drop : goal.returns-in-elem_drop
returns-in-elem_drop g c = rw c.in-elem_drop.is c.put_index-in-elem_drop.ensures

pub returns-in-table_copy : goal.returns-in-table_copy
returns-in-table_copy g c = rw c.in-table_copy.is c.put_pair-in-table_copy.ensures

pub returns-in-table_grow : goal.returns-in-table_grow
returns-in-table_grow g c = rw c.in-table_grow.is c.put_index-in-table_grow.ensures

pub returns-in-table_size : goal.returns-in-table_size
returns-in-table_size g c = rw c.in-table_size.is c.put_index-in-table_size.ensures

pub returns-in-table_fill : goal.returns-in-table_fill
returns-in-table_fill g c = rw c.in-table_fill.is c.put_index-in-table_fill.ensures

-- To here.
