-- Computes the bodies of `Worked`.
use Rattle.std.proofs.Common.{refl}
use Rattle.wast_valid_machine.specs.Checks.{bind, check, known}
use Rattle.wast_valid_machine.specs.Types.{extends, matches, is_numeric, reference_of, has_default}
use Rattle.wast_valid_machine.specs.Machine.{tys_of, starts, ends, label_tys, pop_below, pop_top, pop_by, pop_in, pop_or, expect, expect_all, expect_tys, push_all, push_tys, pop_as, keep_all, exchange, leave_in, leave, reference_in}
use Rattle.wast_valid_machine.specs.Control.{converts, is_func, func_type, block_type, begins, label, branch, may_branch, target, targets, branch_table, returns, all_match, same_results, tail_calls, ends_kind, ends_block, turns_kind, turns_block}
use Rattle.wast_valid_machine.specs.Lookups.{is_set, is_declared, heap_known, ty_known, struct_type}
use Rattle.wast_valid.specs.Rows.{row_of_i32, row_of, access_of}
use Rattle.wast_valid.specs.Steps.{applies, by_row, tests_null, removes_null, drops, bare_step, ref_step, without_immediates, address, offset_fits, bytes_of, use_of, memory_use, moves, accesses, lane_moves, lane_accesses, on_lane, shuffles, same_numeric, joined, selects, selects_typed, sig_known, opens, opens_if, branches_if, branches_on_null, branches_on_non_null, callee, calls_one, tail_calls_one, takes_callee, calls_ref, tail_calls_ref, takes_index, calls_indirect, tail_calls_indirect, gets_local, sets_local, tees_local, gets_global, sets_global, takes_three, gets_table, sets_table, sizes_table, grows_table, fills_table, copies_table, inits_table, drops_elem, sizes_memory, grows_memory, fills_memory, copies_memory, drops_data, inits_memory, makes_null, makes_ref, casts, makes_struct, reads_field, step}
use Rattle.wast_valid.specs.Bodies.{violation_at, end_of, violation_in}
use Rattle.wast_valid.specs.Worked as w

pub adds : w.Adds
unfolding bind check known extends matches is_numeric reference_of has_default tys_of starts ends label_tys pop_below pop_top pop_by pop_in pop_or expect expect_all expect_tys push_all push_tys pop_as keep_all exchange leave_in leave reference_in converts is_func func_type block_type begins label branch may_branch target targets branch_table returns all_match same_results tail_calls ends_kind ends_block turns_kind turns_block is_set is_declared heap_known ty_known struct_type row_of_i32 row_of access_of applies by_row tests_null removes_null drops bare_step ref_step without_immediates address offset_fits bytes_of use_of memory_use moves accesses lane_moves lane_accesses on_lane shuffles same_numeric joined selects selects_typed sig_known opens opens_if branches_if branches_on_null branches_on_non_null callee calls_one tail_calls_one takes_callee calls_ref tail_calls_ref takes_index calls_indirect tail_calls_indirect gets_local sets_local tees_local gets_global sets_global takes_three gets_table sets_table sizes_table grows_table fills_table copies_table inits_table drops_elem sizes_memory grows_memory fills_memory copies_memory drops_data inits_memory makes_null makes_ref casts makes_struct reads_field step violation_at end_of violation_in
adds = refl

pub wrong_result : w.WrongResult
unfolding bind check known extends matches is_numeric reference_of has_default tys_of starts ends label_tys pop_below pop_top pop_by pop_in pop_or expect expect_all expect_tys push_all push_tys pop_as keep_all exchange leave_in leave reference_in converts is_func func_type block_type begins label branch may_branch target targets branch_table returns all_match same_results tail_calls ends_kind ends_block turns_kind turns_block is_set is_declared heap_known ty_known struct_type row_of_i32 row_of access_of applies by_row tests_null removes_null drops bare_step ref_step without_immediates address offset_fits bytes_of use_of memory_use moves accesses lane_moves lane_accesses on_lane shuffles same_numeric joined selects selects_typed sig_known opens opens_if branches_if branches_on_null branches_on_non_null callee calls_one tail_calls_one takes_callee calls_ref tail_calls_ref takes_index calls_indirect tail_calls_indirect gets_local sets_local tees_local gets_global sets_global takes_three gets_table sets_table sizes_table grows_table fills_table copies_table inits_table drops_elem sizes_memory grows_memory fills_memory copies_memory drops_data inits_memory makes_null makes_ref casts makes_struct reads_field step violation_at end_of violation_in
wrong_result = refl

pub no_operand : w.NoOperand
unfolding bind check known extends matches is_numeric reference_of has_default tys_of starts ends label_tys pop_below pop_top pop_by pop_in pop_or expect expect_all expect_tys push_all push_tys pop_as keep_all exchange leave_in leave reference_in converts is_func func_type block_type begins label branch may_branch target targets branch_table returns all_match same_results tail_calls ends_kind ends_block turns_kind turns_block is_set is_declared heap_known ty_known struct_type row_of_i32 row_of access_of applies by_row tests_null removes_null drops bare_step ref_step without_immediates address offset_fits bytes_of use_of memory_use moves accesses lane_moves lane_accesses on_lane shuffles same_numeric joined selects selects_typed sig_known opens opens_if branches_if branches_on_null branches_on_non_null callee calls_one tail_calls_one takes_callee calls_ref tail_calls_ref takes_index calls_indirect tail_calls_indirect gets_local sets_local tees_local gets_global sets_global takes_three gets_table sets_table sizes_table grows_table fills_table copies_table inits_table drops_elem sizes_memory grows_memory fills_memory copies_memory drops_data inits_memory makes_null makes_ref casts makes_struct reads_field step violation_at end_of violation_in
no_operand = refl

pub left_over : w.LeftOver
unfolding bind check known extends matches is_numeric reference_of has_default tys_of starts ends label_tys pop_below pop_top pop_by pop_in pop_or expect expect_all expect_tys push_all push_tys pop_as keep_all exchange leave_in leave reference_in converts is_func func_type block_type begins label branch may_branch target targets branch_table returns all_match same_results tail_calls ends_kind ends_block turns_kind turns_block is_set is_declared heap_known ty_known struct_type row_of_i32 row_of access_of applies by_row tests_null removes_null drops bare_step ref_step without_immediates address offset_fits bytes_of use_of memory_use moves accesses lane_moves lane_accesses on_lane shuffles same_numeric joined selects selects_typed sig_known opens opens_if branches_if branches_on_null branches_on_non_null callee calls_one tail_calls_one takes_callee calls_ref tail_calls_ref takes_index calls_indirect tail_calls_indirect gets_local sets_local tees_local gets_global sets_global takes_three gets_table sets_table sizes_table grows_table fills_table copies_table inits_table drops_elem sizes_memory grows_memory fills_memory copies_memory drops_data inits_memory makes_null makes_ref casts makes_struct reads_field step violation_at end_of violation_in
left_over = refl

pub any_operand : w.AnyOperand
unfolding bind check known extends matches is_numeric reference_of has_default tys_of starts ends label_tys pop_below pop_top pop_by pop_in pop_or expect expect_all expect_tys push_all push_tys pop_as keep_all exchange leave_in leave reference_in converts is_func func_type block_type begins label branch may_branch target targets branch_table returns all_match same_results tail_calls ends_kind ends_block turns_kind turns_block is_set is_declared heap_known ty_known struct_type row_of_i32 row_of access_of applies by_row tests_null removes_null drops bare_step ref_step without_immediates address offset_fits bytes_of use_of memory_use moves accesses lane_moves lane_accesses on_lane shuffles same_numeric joined selects selects_typed sig_known opens opens_if branches_if branches_on_null branches_on_non_null callee calls_one tail_calls_one takes_callee calls_ref tail_calls_ref takes_index calls_indirect tail_calls_indirect gets_local sets_local tees_local gets_global sets_global takes_three gets_table sets_table sizes_table grows_table fills_table copies_table inits_table drops_elem sizes_memory grows_memory fills_memory copies_memory drops_data inits_memory makes_null makes_ref casts makes_struct reads_field step violation_at end_of violation_in
any_operand = refl

pub some_operand : w.SomeOperand
unfolding bind check known extends matches is_numeric reference_of has_default tys_of starts ends label_tys pop_below pop_top pop_by pop_in pop_or expect expect_all expect_tys push_all push_tys pop_as keep_all exchange leave_in leave reference_in converts is_func func_type block_type begins label branch may_branch target targets branch_table returns all_match same_results tail_calls ends_kind ends_block turns_kind turns_block is_set is_declared heap_known ty_known struct_type row_of_i32 row_of access_of applies by_row tests_null removes_null drops bare_step ref_step without_immediates address offset_fits bytes_of use_of memory_use moves accesses lane_moves lane_accesses on_lane shuffles same_numeric joined selects selects_typed sig_known opens opens_if branches_if branches_on_null branches_on_non_null callee calls_one tail_calls_one takes_callee calls_ref tail_calls_ref takes_index calls_indirect tail_calls_indirect gets_local sets_local tees_local gets_global sets_global takes_three gets_table sets_table sizes_table grows_table fills_table copies_table inits_table drops_elem sizes_memory grows_memory fills_memory copies_memory drops_data inits_memory makes_null makes_ref casts makes_struct reads_field step violation_at end_of violation_in
some_operand = refl

pub loop_label : w.LoopLabel
unfolding bind check known extends matches is_numeric reference_of has_default tys_of starts ends label_tys pop_below pop_top pop_by pop_in pop_or expect expect_all expect_tys push_all push_tys pop_as keep_all exchange leave_in leave reference_in converts is_func func_type block_type begins label branch may_branch target targets branch_table returns all_match same_results tail_calls ends_kind ends_block turns_kind turns_block is_set is_declared heap_known ty_known struct_type row_of_i32 row_of access_of applies by_row tests_null removes_null drops bare_step ref_step without_immediates address offset_fits bytes_of use_of memory_use moves accesses lane_moves lane_accesses on_lane shuffles same_numeric joined selects selects_typed sig_known opens opens_if branches_if branches_on_null branches_on_non_null callee calls_one tail_calls_one takes_callee calls_ref tail_calls_ref takes_index calls_indirect tail_calls_indirect gets_local sets_local tees_local gets_global sets_global takes_three gets_table sets_table sizes_table grows_table fills_table copies_table inits_table drops_elem sizes_memory grows_memory fills_memory copies_memory drops_data inits_memory makes_null makes_ref casts makes_struct reads_field step violation_at end_of violation_in
loop_label = refl

pub block_label : w.BlockLabel
unfolding bind check known extends matches is_numeric reference_of has_default tys_of starts ends label_tys pop_below pop_top pop_by pop_in pop_or expect expect_all expect_tys push_all push_tys pop_as keep_all exchange leave_in leave reference_in converts is_func func_type block_type begins label branch may_branch target targets branch_table returns all_match same_results tail_calls ends_kind ends_block turns_kind turns_block is_set is_declared heap_known ty_known struct_type row_of_i32 row_of access_of applies by_row tests_null removes_null drops bare_step ref_step without_immediates address offset_fits bytes_of use_of memory_use moves accesses lane_moves lane_accesses on_lane shuffles same_numeric joined selects selects_typed sig_known opens opens_if branches_if branches_on_null branches_on_non_null callee calls_one tail_calls_one takes_callee calls_ref tail_calls_ref takes_index calls_indirect tail_calls_indirect gets_local sets_local tees_local gets_global sets_global takes_three gets_table sets_table sizes_table grows_table fills_table copies_table inits_table drops_elem sizes_memory grows_memory fills_memory copies_memory drops_data inits_memory makes_null makes_ref casts makes_struct reads_field step violation_at end_of violation_in
block_label = refl

pub no_else : w.NoElse
unfolding bind check known extends matches is_numeric reference_of has_default tys_of starts ends label_tys pop_below pop_top pop_by pop_in pop_or expect expect_all expect_tys push_all push_tys pop_as keep_all exchange leave_in leave reference_in converts is_func func_type block_type begins label branch may_branch target targets branch_table returns all_match same_results tail_calls ends_kind ends_block turns_kind turns_block is_set is_declared heap_known ty_known struct_type row_of_i32 row_of access_of applies by_row tests_null removes_null drops bare_step ref_step without_immediates address offset_fits bytes_of use_of memory_use moves accesses lane_moves lane_accesses on_lane shuffles same_numeric joined selects selects_typed sig_known opens opens_if branches_if branches_on_null branches_on_non_null callee calls_one tail_calls_one takes_callee calls_ref tail_calls_ref takes_index calls_indirect tail_calls_indirect gets_local sets_local tees_local gets_global sets_global takes_three gets_table sets_table sizes_table grows_table fills_table copies_table inits_table drops_elem sizes_memory grows_memory fills_memory copies_memory drops_data inits_memory makes_null makes_ref casts makes_struct reads_field step violation_at end_of violation_in
no_else = refl

pub with_else : w.WithElse
unfolding bind check known extends matches is_numeric reference_of has_default tys_of starts ends label_tys pop_below pop_top pop_by pop_in pop_or expect expect_all expect_tys push_all push_tys pop_as keep_all exchange leave_in leave reference_in converts is_func func_type block_type begins label branch may_branch target targets branch_table returns all_match same_results tail_calls ends_kind ends_block turns_kind turns_block is_set is_declared heap_known ty_known struct_type row_of_i32 row_of access_of applies by_row tests_null removes_null drops bare_step ref_step without_immediates address offset_fits bytes_of use_of memory_use moves accesses lane_moves lane_accesses on_lane shuffles same_numeric joined selects selects_typed sig_known opens opens_if branches_if branches_on_null branches_on_non_null callee calls_one tail_calls_one takes_callee calls_ref tail_calls_ref takes_index calls_indirect tail_calls_indirect gets_local sets_local tees_local gets_global sets_global takes_three gets_table sets_table sizes_table grows_table fills_table copies_table inits_table drops_elem sizes_memory grows_memory fills_memory copies_memory drops_data inits_memory makes_null makes_ref casts makes_struct reads_field step violation_at end_of violation_in
with_else = refl

pub tables : w.Tables
unfolding bind check known extends matches is_numeric reference_of has_default tys_of starts ends label_tys pop_below pop_top pop_by pop_in pop_or expect expect_all expect_tys push_all push_tys pop_as keep_all exchange leave_in leave reference_in converts is_func func_type block_type begins label branch may_branch target targets branch_table returns all_match same_results tail_calls ends_kind ends_block turns_kind turns_block is_set is_declared heap_known ty_known struct_type row_of_i32 row_of access_of applies by_row tests_null removes_null drops bare_step ref_step without_immediates address offset_fits bytes_of use_of memory_use moves accesses lane_moves lane_accesses on_lane shuffles same_numeric joined selects selects_typed sig_known opens opens_if branches_if branches_on_null branches_on_non_null callee calls_one tail_calls_one takes_callee calls_ref tail_calls_ref takes_index calls_indirect tail_calls_indirect gets_local sets_local tees_local gets_global sets_global takes_three gets_table sets_table sizes_table grows_table fills_table copies_table inits_table drops_elem sizes_memory grows_memory fills_memory copies_memory drops_data inits_memory makes_null makes_ref casts makes_struct reads_field step violation_at end_of violation_in
tables = refl

pub uneven_tables : w.UnevenTables
unfolding bind check known extends matches is_numeric reference_of has_default tys_of starts ends label_tys pop_below pop_top pop_by pop_in pop_or expect expect_all expect_tys push_all push_tys pop_as keep_all exchange leave_in leave reference_in converts is_func func_type block_type begins label branch may_branch target targets branch_table returns all_match same_results tail_calls ends_kind ends_block turns_kind turns_block is_set is_declared heap_known ty_known struct_type row_of_i32 row_of access_of applies by_row tests_null removes_null drops bare_step ref_step without_immediates address offset_fits bytes_of use_of memory_use moves accesses lane_moves lane_accesses on_lane shuffles same_numeric joined selects selects_typed sig_known opens opens_if branches_if branches_on_null branches_on_non_null callee calls_one tail_calls_one takes_callee calls_ref tail_calls_ref takes_index calls_indirect tail_calls_indirect gets_local sets_local tees_local gets_global sets_global takes_three gets_table sets_table sizes_table grows_table fills_table copies_table inits_table drops_elem sizes_memory grows_memory fills_memory copies_memory drops_data inits_memory makes_null makes_ref casts makes_struct reads_field step violation_at end_of violation_in
uneven_tables = refl

pub calls : w.Calls
unfolding bind check known extends matches is_numeric reference_of has_default tys_of starts ends label_tys pop_below pop_top pop_by pop_in pop_or expect expect_all expect_tys push_all push_tys pop_as keep_all exchange leave_in leave reference_in converts is_func func_type block_type begins label branch may_branch target targets branch_table returns all_match same_results tail_calls ends_kind ends_block turns_kind turns_block is_set is_declared heap_known ty_known struct_type row_of_i32 row_of access_of applies by_row tests_null removes_null drops bare_step ref_step without_immediates address offset_fits bytes_of use_of memory_use moves accesses lane_moves lane_accesses on_lane shuffles same_numeric joined selects selects_typed sig_known opens opens_if branches_if branches_on_null branches_on_non_null callee calls_one tail_calls_one takes_callee calls_ref tail_calls_ref takes_index calls_indirect tail_calls_indirect gets_local sets_local tees_local gets_global sets_global takes_three gets_table sets_table sizes_table grows_table fills_table copies_table inits_table drops_elem sizes_memory grows_memory fills_memory copies_memory drops_data inits_memory makes_null makes_ref casts makes_struct reads_field step violation_at end_of violation_in
calls = refl

pub indirect : w.Indirect
unfolding bind check known extends matches is_numeric reference_of has_default tys_of starts ends label_tys pop_below pop_top pop_by pop_in pop_or expect expect_all expect_tys push_all push_tys pop_as keep_all exchange leave_in leave reference_in converts is_func func_type block_type begins label branch may_branch target targets branch_table returns all_match same_results tail_calls ends_kind ends_block turns_kind turns_block is_set is_declared heap_known ty_known struct_type row_of_i32 row_of access_of applies by_row tests_null removes_null drops bare_step ref_step without_immediates address offset_fits bytes_of use_of memory_use moves accesses lane_moves lane_accesses on_lane shuffles same_numeric joined selects selects_typed sig_known opens opens_if branches_if branches_on_null branches_on_non_null callee calls_one tail_calls_one takes_callee calls_ref tail_calls_ref takes_index calls_indirect tail_calls_indirect gets_local sets_local tees_local gets_global sets_global takes_three gets_table sets_table sizes_table grows_table fills_table copies_table inits_table drops_elem sizes_memory grows_memory fills_memory copies_memory drops_data inits_memory makes_null makes_ref casts makes_struct reads_field step violation_at end_of violation_in
indirect = refl

pub works_selects : w.Selects
unfolding bind check known extends matches is_numeric reference_of has_default tys_of starts ends label_tys pop_below pop_top pop_by pop_in pop_or expect expect_all expect_tys push_all push_tys pop_as keep_all exchange leave_in leave reference_in converts is_func func_type block_type begins label branch may_branch target targets branch_table returns all_match same_results tail_calls ends_kind ends_block turns_kind turns_block is_set is_declared heap_known ty_known struct_type row_of_i32 row_of access_of applies by_row tests_null removes_null drops bare_step ref_step without_immediates address offset_fits bytes_of use_of memory_use moves accesses lane_moves lane_accesses on_lane shuffles same_numeric joined selects selects_typed sig_known opens opens_if branches_if branches_on_null branches_on_non_null callee calls_one tail_calls_one takes_callee calls_ref tail_calls_ref takes_index calls_indirect tail_calls_indirect gets_local sets_local tees_local gets_global sets_global takes_three gets_table sets_table sizes_table grows_table fills_table copies_table inits_table drops_elem sizes_memory grows_memory fills_memory copies_memory drops_data inits_memory makes_null makes_ref casts makes_struct reads_field step violation_at end_of violation_in
works_selects = refl

pub selects_reference : w.SelectsReference
unfolding bind check known extends matches is_numeric reference_of has_default tys_of starts ends label_tys pop_below pop_top pop_by pop_in pop_or expect expect_all expect_tys push_all push_tys pop_as keep_all exchange leave_in leave reference_in converts is_func func_type block_type begins label branch may_branch target targets branch_table returns all_match same_results tail_calls ends_kind ends_block turns_kind turns_block is_set is_declared heap_known ty_known struct_type row_of_i32 row_of access_of applies by_row tests_null removes_null drops bare_step ref_step without_immediates address offset_fits bytes_of use_of memory_use moves accesses lane_moves lane_accesses on_lane shuffles same_numeric joined selects selects_typed sig_known opens opens_if branches_if branches_on_null branches_on_non_null callee calls_one tail_calls_one takes_callee calls_ref tail_calls_ref takes_index calls_indirect tail_calls_indirect gets_local sets_local tees_local gets_global sets_global takes_three gets_table sets_table sizes_table grows_table fills_table copies_table inits_table drops_elem sizes_memory grows_memory fills_memory copies_memory drops_data inits_memory makes_null makes_ref casts makes_struct reads_field step violation_at end_of violation_in
selects_reference = refl

pub unset : w.Unset
unfolding bind check known extends matches is_numeric reference_of has_default tys_of starts ends label_tys pop_below pop_top pop_by pop_in pop_or expect expect_all expect_tys push_all push_tys pop_as keep_all exchange leave_in leave reference_in converts is_func func_type block_type begins label branch may_branch target targets branch_table returns all_match same_results tail_calls ends_kind ends_block turns_kind turns_block is_set is_declared heap_known ty_known struct_type row_of_i32 row_of access_of applies by_row tests_null removes_null drops bare_step ref_step without_immediates address offset_fits bytes_of use_of memory_use moves accesses lane_moves lane_accesses on_lane shuffles same_numeric joined selects selects_typed sig_known opens opens_if branches_if branches_on_null branches_on_non_null callee calls_one tail_calls_one takes_callee calls_ref tail_calls_ref takes_index calls_indirect tail_calls_indirect gets_local sets_local tees_local gets_global sets_global takes_three gets_table sets_table sizes_table grows_table fills_table copies_table inits_table drops_elem sizes_memory grows_memory fills_memory copies_memory drops_data inits_memory makes_null makes_ref casts makes_struct reads_field step violation_at end_of violation_in
unset = refl

pub set_in_block : w.SetInBlock
unfolding bind check known extends matches is_numeric reference_of has_default tys_of starts ends label_tys pop_below pop_top pop_by pop_in pop_or expect expect_all expect_tys push_all push_tys pop_as keep_all exchange leave_in leave reference_in converts is_func func_type block_type begins label branch may_branch target targets branch_table returns all_match same_results tail_calls ends_kind ends_block turns_kind turns_block is_set is_declared heap_known ty_known struct_type row_of_i32 row_of access_of applies by_row tests_null removes_null drops bare_step ref_step without_immediates address offset_fits bytes_of use_of memory_use moves accesses lane_moves lane_accesses on_lane shuffles same_numeric joined selects selects_typed sig_known opens opens_if branches_if branches_on_null branches_on_non_null callee calls_one tail_calls_one takes_callee calls_ref tail_calls_ref takes_index calls_indirect tail_calls_indirect gets_local sets_local tees_local gets_global sets_global takes_three gets_table sets_table sizes_table grows_table fills_table copies_table inits_table drops_elem sizes_memory grows_memory fills_memory copies_memory drops_data inits_memory makes_null makes_ref casts makes_struct reads_field step violation_at end_of violation_in
set_in_block = refl

pub subtype : w.Subtype
unfolding bind check known extends matches is_numeric reference_of has_default tys_of starts ends label_tys pop_below pop_top pop_by pop_in pop_or expect expect_all expect_tys push_all push_tys pop_as keep_all exchange leave_in leave reference_in converts is_func func_type block_type begins label branch may_branch target targets branch_table returns all_match same_results tail_calls ends_kind ends_block turns_kind turns_block is_set is_declared heap_known ty_known struct_type row_of_i32 row_of access_of applies by_row tests_null removes_null drops bare_step ref_step without_immediates address offset_fits bytes_of use_of memory_use moves accesses lane_moves lane_accesses on_lane shuffles same_numeric joined selects selects_typed sig_known opens opens_if branches_if branches_on_null branches_on_non_null callee calls_one tail_calls_one takes_callee calls_ref tail_calls_ref takes_index calls_indirect tail_calls_indirect gets_local sets_local tees_local gets_global sets_global takes_three gets_table sets_table sizes_table grows_table fills_table copies_table inits_table drops_elem sizes_memory grows_memory fills_memory copies_memory drops_data inits_memory makes_null makes_ref casts makes_struct reads_field step violation_at end_of violation_in
subtype = refl

pub no_subtype : w.NoSubtype
unfolding bind check known extends matches is_numeric reference_of has_default tys_of starts ends label_tys pop_below pop_top pop_by pop_in pop_or expect expect_all expect_tys push_all push_tys pop_as keep_all exchange leave_in leave reference_in converts is_func func_type block_type begins label branch may_branch target targets branch_table returns all_match same_results tail_calls ends_kind ends_block turns_kind turns_block is_set is_declared heap_known ty_known struct_type row_of_i32 row_of access_of applies by_row tests_null removes_null drops bare_step ref_step without_immediates address offset_fits bytes_of use_of memory_use moves accesses lane_moves lane_accesses on_lane shuffles same_numeric joined selects selects_typed sig_known opens opens_if branches_if branches_on_null branches_on_non_null callee calls_one tail_calls_one takes_callee calls_ref tail_calls_ref takes_index calls_indirect tail_calls_indirect gets_local sets_local tees_local gets_global sets_global takes_three gets_table sets_table sizes_table grows_table fills_table copies_table inits_table drops_elem sizes_memory grows_memory fills_memory copies_memory drops_data inits_memory makes_null makes_ref casts makes_struct reads_field step violation_at end_of violation_in
no_subtype = refl

pub works_casts : w.Casts
unfolding bind check known extends matches is_numeric reference_of has_default tys_of starts ends label_tys pop_below pop_top pop_by pop_in pop_or expect expect_all expect_tys push_all push_tys pop_as keep_all exchange leave_in leave reference_in converts is_func func_type block_type begins label branch may_branch target targets branch_table returns all_match same_results tail_calls ends_kind ends_block turns_kind turns_block is_set is_declared heap_known ty_known struct_type row_of_i32 row_of access_of applies by_row tests_null removes_null drops bare_step ref_step without_immediates address offset_fits bytes_of use_of memory_use moves accesses lane_moves lane_accesses on_lane shuffles same_numeric joined selects selects_typed sig_known opens opens_if branches_if branches_on_null branches_on_non_null callee calls_one tail_calls_one takes_callee calls_ref tail_calls_ref takes_index calls_indirect tail_calls_indirect gets_local sets_local tees_local gets_global sets_global takes_three gets_table sets_table sizes_table grows_table fills_table copies_table inits_table drops_elem sizes_memory grows_memory fills_memory copies_memory drops_data inits_memory makes_null makes_ref casts makes_struct reads_field step violation_at end_of violation_in
works_casts = refl

pub immutable : w.Immutable
unfolding bind check known extends matches is_numeric reference_of has_default tys_of starts ends label_tys pop_below pop_top pop_by pop_in pop_or expect expect_all expect_tys push_all push_tys pop_as keep_all exchange leave_in leave reference_in converts is_func func_type block_type begins label branch may_branch target targets branch_table returns all_match same_results tail_calls ends_kind ends_block turns_kind turns_block is_set is_declared heap_known ty_known struct_type row_of_i32 row_of access_of applies by_row tests_null removes_null drops bare_step ref_step without_immediates address offset_fits bytes_of use_of memory_use moves accesses lane_moves lane_accesses on_lane shuffles same_numeric joined selects selects_typed sig_known opens opens_if branches_if branches_on_null branches_on_non_null callee calls_one tail_calls_one takes_callee calls_ref tail_calls_ref takes_index calls_indirect tail_calls_indirect gets_local sets_local tees_local gets_global sets_global takes_three gets_table sets_table sizes_table grows_table fills_table copies_table inits_table drops_elem sizes_memory grows_memory fills_memory copies_memory drops_data inits_memory makes_null makes_ref casts makes_struct reads_field step violation_at end_of violation_in
immutable = refl

pub undeclared : w.Undeclared
unfolding bind check known extends matches is_numeric reference_of has_default tys_of starts ends label_tys pop_below pop_top pop_by pop_in pop_or expect expect_all expect_tys push_all push_tys pop_as keep_all exchange leave_in leave reference_in converts is_func func_type block_type begins label branch may_branch target targets branch_table returns all_match same_results tail_calls ends_kind ends_block turns_kind turns_block is_set is_declared heap_known ty_known struct_type row_of_i32 row_of access_of applies by_row tests_null removes_null drops bare_step ref_step without_immediates address offset_fits bytes_of use_of memory_use moves accesses lane_moves lane_accesses on_lane shuffles same_numeric joined selects selects_typed sig_known opens opens_if branches_if branches_on_null branches_on_non_null callee calls_one tail_calls_one takes_callee calls_ref tail_calls_ref takes_index calls_indirect tail_calls_indirect gets_local sets_local tees_local gets_global sets_global takes_three gets_table sets_table sizes_table grows_table fills_table copies_table inits_table drops_elem sizes_memory grows_memory fills_memory copies_memory drops_data inits_memory makes_null makes_ref casts makes_struct reads_field step violation_at end_of violation_in
undeclared = refl

pub too_many_ends : w.TooManyEnds
unfolding bind check known extends matches is_numeric reference_of has_default tys_of starts ends label_tys pop_below pop_top pop_by pop_in pop_or expect expect_all expect_tys push_all push_tys pop_as keep_all exchange leave_in leave reference_in converts is_func func_type block_type begins label branch may_branch target targets branch_table returns all_match same_results tail_calls ends_kind ends_block turns_kind turns_block is_set is_declared heap_known ty_known struct_type row_of_i32 row_of access_of applies by_row tests_null removes_null drops bare_step ref_step without_immediates address offset_fits bytes_of use_of memory_use moves accesses lane_moves lane_accesses on_lane shuffles same_numeric joined selects selects_typed sig_known opens opens_if branches_if branches_on_null branches_on_non_null callee calls_one tail_calls_one takes_callee calls_ref tail_calls_ref takes_index calls_indirect tail_calls_indirect gets_local sets_local tees_local gets_global sets_global takes_three gets_table sets_table sizes_table grows_table fills_table copies_table inits_table drops_elem sizes_memory grows_memory fills_memory copies_memory drops_data inits_memory makes_null makes_ref casts makes_struct reads_field step violation_at end_of violation_in
too_many_ends = refl

pub too_aligned : w.TooAligned
unfolding bind check known extends matches is_numeric reference_of has_default tys_of starts ends label_tys pop_below pop_top pop_by pop_in pop_or expect expect_all expect_tys push_all push_tys pop_as keep_all exchange leave_in leave reference_in converts is_func func_type block_type begins label branch may_branch target targets branch_table returns all_match same_results tail_calls ends_kind ends_block turns_kind turns_block is_set is_declared heap_known ty_known struct_type row_of_i32 row_of access_of applies by_row tests_null removes_null drops bare_step ref_step without_immediates address offset_fits bytes_of use_of memory_use moves accesses lane_moves lane_accesses on_lane shuffles same_numeric joined selects selects_typed sig_known opens opens_if branches_if branches_on_null branches_on_non_null callee calls_one tail_calls_one takes_callee calls_ref tail_calls_ref takes_index calls_indirect tail_calls_indirect gets_local sets_local tees_local gets_global sets_global takes_three gets_table sets_table sizes_table grows_table fills_table copies_table inits_table drops_elem sizes_memory grows_memory fills_memory copies_memory drops_data inits_memory makes_null makes_ref casts makes_struct reads_field step violation_at end_of violation_in
too_aligned = refl

pub stores : w.Stores
unfolding bind check known extends matches is_numeric reference_of has_default tys_of starts ends label_tys pop_below pop_top pop_by pop_in pop_or expect expect_all expect_tys push_all push_tys pop_as keep_all exchange leave_in leave reference_in converts is_func func_type block_type begins label branch may_branch target targets branch_table returns all_match same_results tail_calls ends_kind ends_block turns_kind turns_block is_set is_declared heap_known ty_known struct_type row_of_i32 row_of access_of applies by_row tests_null removes_null drops bare_step ref_step without_immediates address offset_fits bytes_of use_of memory_use moves accesses lane_moves lane_accesses on_lane shuffles same_numeric joined selects selects_typed sig_known opens opens_if branches_if branches_on_null branches_on_non_null callee calls_one tail_calls_one takes_callee calls_ref tail_calls_ref takes_index calls_indirect tail_calls_indirect gets_local sets_local tees_local gets_global sets_global takes_three gets_table sets_table sizes_table grows_table fills_table copies_table inits_table drops_elem sizes_memory grows_memory fills_memory copies_memory drops_data inits_memory makes_null makes_ref casts makes_struct reads_field step violation_at end_of violation_in
stores = refl

pub works_tail_calls : w.TailCalls
unfolding bind check known extends matches is_numeric reference_of has_default tys_of starts ends label_tys pop_below pop_top pop_by pop_in pop_or expect expect_all expect_tys push_all push_tys pop_as keep_all exchange leave_in leave reference_in converts is_func func_type block_type begins label branch may_branch target targets branch_table returns all_match same_results tail_calls ends_kind ends_block turns_kind turns_block is_set is_declared heap_known ty_known struct_type row_of_i32 row_of access_of applies by_row tests_null removes_null drops bare_step ref_step without_immediates address offset_fits bytes_of use_of memory_use moves accesses lane_moves lane_accesses on_lane shuffles same_numeric joined selects selects_typed sig_known opens opens_if branches_if branches_on_null branches_on_non_null callee calls_one tail_calls_one takes_callee calls_ref tail_calls_ref takes_index calls_indirect tail_calls_indirect gets_local sets_local tees_local gets_global sets_global takes_three gets_table sets_table sizes_table grows_table fills_table copies_table inits_table drops_elem sizes_memory grows_memory fills_memory copies_memory drops_data inits_memory makes_null makes_ref casts makes_struct reads_field step violation_at end_of violation_in
works_tail_calls = refl

pub other_results : w.OtherResults
unfolding bind check known extends matches is_numeric reference_of has_default tys_of starts ends label_tys pop_below pop_top pop_by pop_in pop_or expect expect_all expect_tys push_all push_tys pop_as keep_all exchange leave_in leave reference_in converts is_func func_type block_type begins label branch may_branch target targets branch_table returns all_match same_results tail_calls ends_kind ends_block turns_kind turns_block is_set is_declared heap_known ty_known struct_type row_of_i32 row_of access_of applies by_row tests_null removes_null drops bare_step ref_step without_immediates address offset_fits bytes_of use_of memory_use moves accesses lane_moves lane_accesses on_lane shuffles same_numeric joined selects selects_typed sig_known opens opens_if branches_if branches_on_null branches_on_non_null callee calls_one tail_calls_one takes_callee calls_ref tail_calls_ref takes_index calls_indirect tail_calls_indirect gets_local sets_local tees_local gets_global sets_global takes_three gets_table sets_table sizes_table grows_table fills_table copies_table inits_table drops_elem sizes_memory grows_memory fills_memory copies_memory drops_data inits_memory makes_null makes_ref casts makes_struct reads_field step violation_at end_of violation_in
other_results = refl

pub no_reference_label : w.NoReferenceLabel
unfolding bind check known extends matches is_numeric reference_of has_default tys_of starts ends label_tys pop_below pop_top pop_by pop_in pop_or expect expect_all expect_tys push_all push_tys pop_as keep_all exchange leave_in leave reference_in converts is_func func_type block_type begins label branch may_branch target targets branch_table returns all_match same_results tail_calls ends_kind ends_block turns_kind turns_block is_set is_declared heap_known ty_known struct_type row_of_i32 row_of access_of applies by_row tests_null removes_null drops bare_step ref_step without_immediates address offset_fits bytes_of use_of memory_use moves accesses lane_moves lane_accesses on_lane shuffles same_numeric joined selects selects_typed sig_known opens opens_if branches_if branches_on_null branches_on_non_null callee calls_one tail_calls_one takes_callee calls_ref tail_calls_ref takes_index calls_indirect tail_calls_indirect gets_local sets_local tees_local gets_global sets_global takes_three gets_table sets_table sizes_table grows_table fills_table copies_table inits_table drops_elem sizes_memory grows_memory fills_memory copies_memory drops_data inits_memory makes_null makes_ref casts makes_struct reads_field step violation_at end_of violation_in
no_reference_label = refl
