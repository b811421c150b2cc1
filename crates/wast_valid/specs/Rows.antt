-- The operands and results of instructions without immediates, a row for each (validation: numeric and vector instructions), and what
-- loads and stores access.
--
--   row_of_i32 i32.i32_add     [i32 i32] → [i32]
--   access_of mem.i32_load8_u  one byte, loaded as i32
use Rattle.std.specs.Prelude.{ℕ, Option, Some, None, true, false}
use Rattle.wast_base.specs.declared.plain.Plain.{Plain}
use Rattle.wast_base.specs.declared.plain.Plain.TheVariants as plain
use Rattle.wast_base.specs.declared.plain.I32Op.{I32Op}
use Rattle.wast_base.specs.declared.plain.I32Op.TheVariants as i32
use Rattle.wast_base.specs.declared.plain.I64Op.{I64Op}
use Rattle.wast_base.specs.declared.plain.I64Op.TheVariants as i64
use Rattle.wast_base.specs.declared.plain.F32Op.{F32Op}
use Rattle.wast_base.specs.declared.plain.F32Op.TheVariants as f32
use Rattle.wast_base.specs.declared.plain.F64Op.{F64Op}
use Rattle.wast_base.specs.declared.plain.F64Op.TheVariants as f64
use Rattle.wast_base.specs.declared.plain.I8x16Op.{I8x16Op}
use Rattle.wast_base.specs.declared.plain.I8x16Op.TheVariants as i8x16
use Rattle.wast_base.specs.declared.plain.I16x8Op.{I16x8Op}
use Rattle.wast_base.specs.declared.plain.I16x8Op.TheVariants as i16x8
use Rattle.wast_base.specs.declared.plain.I32x4Op.{I32x4Op}
use Rattle.wast_base.specs.declared.plain.I32x4Op.TheVariants as i32x4
use Rattle.wast_base.specs.declared.plain.I64x2Op.{I64x2Op}
use Rattle.wast_base.specs.declared.plain.I64x2Op.TheVariants as i64x2
use Rattle.wast_base.specs.declared.plain.F32x4Op.{F32x4Op}
use Rattle.wast_base.specs.declared.plain.F32x4Op.TheVariants as f32x4
use Rattle.wast_base.specs.declared.plain.F64x2Op.{F64x2Op}
use Rattle.wast_base.specs.declared.plain.F64x2Op.TheVariants as f64x2
use Rattle.wast_base.specs.declared.plain.V128Op.{V128Op}
use Rattle.wast_base.specs.declared.plain.V128Op.TheVariants as v128
use Rattle.wast_base.specs.declared.plain.RefOp.{RefOp}
use Rattle.wast_base.specs.declared.plain.RefOp.TheVariants as refs
use Rattle.wast_base.specs.declared.plain.ArrayOp.{ArrayOp}
use Rattle.wast_base.specs.declared.plain.ArrayOp.TheVariants as arrays
use Rattle.wast_base.specs.declared.plain.I31Op.{I31Op}
use Rattle.wast_base.specs.declared.plain.I31Op.TheVariants as i31s
use Rattle.wast_base.specs.declared.mem_ops.MemOp.{MemOp}
use Rattle.wast_base.specs.declared.mem_ops.MemOp.TheVariants as mem
use Rattle.wast_base.specs.declared.lane_ops.LaneOp.{LaneOp}
use Rattle.wast_base.specs.declared.lane_ops.LaneOp.TheVariants as lane
use Rattle.wast_base.specs.declared.lane_ops.MemLaneOp.{MemLaneOp}
use Rattle.wast_base.specs.declared.lane_ops.MemLaneOp.TheVariants as mem_lane
use Rattle.wast_valid_machine.specs.declared.types.Ty.{Ty}
use Rattle.wast_valid_machine.specs.declared.types.Ty.TheVariants as t
use Rattle.wast_valid_machine.specs.declared.types.Heap.TheVariants as heap
use Rattle.wast_valid.specs.declared.rows.Row.{Row}
use Rattle.wast_valid.specs.declared.rows.Row.TheVariants as row
use Rattle.wast_valid.specs.declared.rows.Access.{Access}
use Rattle.wast_valid.specs.declared.rows.Access.TheVariants as access
use Rattle.wast_valid.specs.declared.rows.LaneUse.{LaneUse}
use Rattle.wast_valid.specs.declared.rows.LaneAccess.{LaneAccess}
use Rattle.wast_valid_machine.specs.Lookups.{maybe, sure}

-- the row of an instruction whose name begins with `i32`
unfoldable pub row_of_i32 : I32Op → Row
row_of_i32 i32.i32_eqz = row.Unary t.I32 t.I32
row_of_i32 i32.i32_eq = row.Binary t.I32 t.I32 t.I32
row_of_i32 i32.i32_ne = row.Binary t.I32 t.I32 t.I32
row_of_i32 i32.i32_lt_s = row.Binary t.I32 t.I32 t.I32
row_of_i32 i32.i32_lt_u = row.Binary t.I32 t.I32 t.I32
row_of_i32 i32.i32_gt_s = row.Binary t.I32 t.I32 t.I32
row_of_i32 i32.i32_gt_u = row.Binary t.I32 t.I32 t.I32
row_of_i32 i32.i32_le_s = row.Binary t.I32 t.I32 t.I32
row_of_i32 i32.i32_le_u = row.Binary t.I32 t.I32 t.I32
row_of_i32 i32.i32_ge_s = row.Binary t.I32 t.I32 t.I32
row_of_i32 i32.i32_ge_u = row.Binary t.I32 t.I32 t.I32
row_of_i32 i32.i32_clz = row.Unary t.I32 t.I32
row_of_i32 i32.i32_ctz = row.Unary t.I32 t.I32
row_of_i32 i32.i32_popcnt = row.Unary t.I32 t.I32
row_of_i32 i32.i32_add = row.Binary t.I32 t.I32 t.I32
row_of_i32 i32.i32_sub = row.Binary t.I32 t.I32 t.I32
row_of_i32 i32.i32_mul = row.Binary t.I32 t.I32 t.I32
row_of_i32 i32.i32_div_s = row.Binary t.I32 t.I32 t.I32
row_of_i32 i32.i32_div_u = row.Binary t.I32 t.I32 t.I32
row_of_i32 i32.i32_rem_s = row.Binary t.I32 t.I32 t.I32
row_of_i32 i32.i32_rem_u = row.Binary t.I32 t.I32 t.I32
row_of_i32 i32.i32_and = row.Binary t.I32 t.I32 t.I32
row_of_i32 i32.i32_or = row.Binary t.I32 t.I32 t.I32
row_of_i32 i32.i32_xor = row.Binary t.I32 t.I32 t.I32
row_of_i32 i32.i32_shl = row.Binary t.I32 t.I32 t.I32
row_of_i32 i32.i32_shr_s = row.Binary t.I32 t.I32 t.I32
row_of_i32 i32.i32_shr_u = row.Binary t.I32 t.I32 t.I32
row_of_i32 i32.i32_rotl = row.Binary t.I32 t.I32 t.I32
row_of_i32 i32.i32_rotr = row.Binary t.I32 t.I32 t.I32
row_of_i32 i32.i32_wrap_i64 = row.Unary t.I64 t.I32
row_of_i32 i32.i32_trunc_f32_s = row.Unary t.F32 t.I32
row_of_i32 i32.i32_trunc_f32_u = row.Unary t.F32 t.I32
row_of_i32 i32.i32_trunc_f64_s = row.Unary t.F64 t.I32
row_of_i32 i32.i32_trunc_f64_u = row.Unary t.F64 t.I32
row_of_i32 i32.i32_reinterpret_f32 = row.Unary t.F32 t.I32
row_of_i32 i32.i32_extend8_s = row.Unary t.I32 t.I32
row_of_i32 i32.i32_extend16_s = row.Unary t.I32 t.I32
row_of_i32 i32.i32_trunc_sat_f32_s = row.Unary t.F32 t.I32
row_of_i32 i32.i32_trunc_sat_f32_u = row.Unary t.F32 t.I32
row_of_i32 i32.i32_trunc_sat_f64_s = row.Unary t.F64 t.I32
row_of_i32 i32.i32_trunc_sat_f64_u = row.Unary t.F64 t.I32

-- the row of an instruction whose name begins with `i64`
unfoldable pub row_of_i64 : I64Op → Row
row_of_i64 i64.i64_eqz = row.Unary t.I64 t.I32
row_of_i64 i64.i64_eq = row.Binary t.I64 t.I64 t.I32
row_of_i64 i64.i64_ne = row.Binary t.I64 t.I64 t.I32
row_of_i64 i64.i64_lt_s = row.Binary t.I64 t.I64 t.I32
row_of_i64 i64.i64_lt_u = row.Binary t.I64 t.I64 t.I32
row_of_i64 i64.i64_gt_s = row.Binary t.I64 t.I64 t.I32
row_of_i64 i64.i64_gt_u = row.Binary t.I64 t.I64 t.I32
row_of_i64 i64.i64_le_s = row.Binary t.I64 t.I64 t.I32
row_of_i64 i64.i64_le_u = row.Binary t.I64 t.I64 t.I32
row_of_i64 i64.i64_ge_s = row.Binary t.I64 t.I64 t.I32
row_of_i64 i64.i64_ge_u = row.Binary t.I64 t.I64 t.I32
row_of_i64 i64.i64_clz = row.Unary t.I64 t.I64
row_of_i64 i64.i64_ctz = row.Unary t.I64 t.I64
row_of_i64 i64.i64_popcnt = row.Unary t.I64 t.I64
row_of_i64 i64.i64_add = row.Binary t.I64 t.I64 t.I64
row_of_i64 i64.i64_sub = row.Binary t.I64 t.I64 t.I64
row_of_i64 i64.i64_mul = row.Binary t.I64 t.I64 t.I64
row_of_i64 i64.i64_div_s = row.Binary t.I64 t.I64 t.I64
row_of_i64 i64.i64_div_u = row.Binary t.I64 t.I64 t.I64
row_of_i64 i64.i64_rem_s = row.Binary t.I64 t.I64 t.I64
row_of_i64 i64.i64_rem_u = row.Binary t.I64 t.I64 t.I64
row_of_i64 i64.i64_and = row.Binary t.I64 t.I64 t.I64
row_of_i64 i64.i64_or = row.Binary t.I64 t.I64 t.I64
row_of_i64 i64.i64_xor = row.Binary t.I64 t.I64 t.I64
row_of_i64 i64.i64_shl = row.Binary t.I64 t.I64 t.I64
row_of_i64 i64.i64_shr_s = row.Binary t.I64 t.I64 t.I64
row_of_i64 i64.i64_shr_u = row.Binary t.I64 t.I64 t.I64
row_of_i64 i64.i64_rotl = row.Binary t.I64 t.I64 t.I64
row_of_i64 i64.i64_rotr = row.Binary t.I64 t.I64 t.I64
row_of_i64 i64.i64_extend_i32_s = row.Unary t.I32 t.I64
row_of_i64 i64.i64_extend_i32_u = row.Unary t.I32 t.I64
row_of_i64 i64.i64_trunc_f32_s = row.Unary t.F32 t.I64
row_of_i64 i64.i64_trunc_f32_u = row.Unary t.F32 t.I64
row_of_i64 i64.i64_trunc_f64_s = row.Unary t.F64 t.I64
row_of_i64 i64.i64_trunc_f64_u = row.Unary t.F64 t.I64
row_of_i64 i64.i64_reinterpret_f64 = row.Unary t.F64 t.I64
row_of_i64 i64.i64_extend8_s = row.Unary t.I64 t.I64
row_of_i64 i64.i64_extend16_s = row.Unary t.I64 t.I64
row_of_i64 i64.i64_extend32_s = row.Unary t.I64 t.I64
row_of_i64 i64.i64_trunc_sat_f32_s = row.Unary t.F32 t.I64
row_of_i64 i64.i64_trunc_sat_f32_u = row.Unary t.F32 t.I64
row_of_i64 i64.i64_trunc_sat_f64_s = row.Unary t.F64 t.I64
row_of_i64 i64.i64_trunc_sat_f64_u = row.Unary t.F64 t.I64

-- the row of an instruction whose name begins with `f32`
unfoldable pub row_of_f32 : F32Op → Row
row_of_f32 f32.f32_eq = row.Binary t.F32 t.F32 t.I32
row_of_f32 f32.f32_ne = row.Binary t.F32 t.F32 t.I32
row_of_f32 f32.f32_lt = row.Binary t.F32 t.F32 t.I32
row_of_f32 f32.f32_gt = row.Binary t.F32 t.F32 t.I32
row_of_f32 f32.f32_le = row.Binary t.F32 t.F32 t.I32
row_of_f32 f32.f32_ge = row.Binary t.F32 t.F32 t.I32
row_of_f32 f32.f32_abs = row.Unary t.F32 t.F32
row_of_f32 f32.f32_neg = row.Unary t.F32 t.F32
row_of_f32 f32.f32_ceil = row.Unary t.F32 t.F32
row_of_f32 f32.f32_floor = row.Unary t.F32 t.F32
row_of_f32 f32.f32_trunc = row.Unary t.F32 t.F32
row_of_f32 f32.f32_nearest = row.Unary t.F32 t.F32
row_of_f32 f32.f32_sqrt = row.Unary t.F32 t.F32
row_of_f32 f32.f32_add = row.Binary t.F32 t.F32 t.F32
row_of_f32 f32.f32_sub = row.Binary t.F32 t.F32 t.F32
row_of_f32 f32.f32_mul = row.Binary t.F32 t.F32 t.F32
row_of_f32 f32.f32_div = row.Binary t.F32 t.F32 t.F32
row_of_f32 f32.f32_min = row.Binary t.F32 t.F32 t.F32
row_of_f32 f32.f32_max = row.Binary t.F32 t.F32 t.F32
row_of_f32 f32.f32_copysign = row.Binary t.F32 t.F32 t.F32
row_of_f32 f32.f32_convert_i32_s = row.Unary t.I32 t.F32
row_of_f32 f32.f32_convert_i32_u = row.Unary t.I32 t.F32
row_of_f32 f32.f32_convert_i64_s = row.Unary t.I64 t.F32
row_of_f32 f32.f32_convert_i64_u = row.Unary t.I64 t.F32
row_of_f32 f32.f32_demote_f64 = row.Unary t.F64 t.F32
row_of_f32 f32.f32_reinterpret_i32 = row.Unary t.I32 t.F32

-- the row of an instruction whose name begins with `f64`
unfoldable pub row_of_f64 : F64Op → Row
row_of_f64 f64.f64_eq = row.Binary t.F64 t.F64 t.I32
row_of_f64 f64.f64_ne = row.Binary t.F64 t.F64 t.I32
row_of_f64 f64.f64_lt = row.Binary t.F64 t.F64 t.I32
row_of_f64 f64.f64_gt = row.Binary t.F64 t.F64 t.I32
row_of_f64 f64.f64_le = row.Binary t.F64 t.F64 t.I32
row_of_f64 f64.f64_ge = row.Binary t.F64 t.F64 t.I32
row_of_f64 f64.f64_abs = row.Unary t.F64 t.F64
row_of_f64 f64.f64_neg = row.Unary t.F64 t.F64
row_of_f64 f64.f64_ceil = row.Unary t.F64 t.F64
row_of_f64 f64.f64_floor = row.Unary t.F64 t.F64
row_of_f64 f64.f64_trunc = row.Unary t.F64 t.F64
row_of_f64 f64.f64_nearest = row.Unary t.F64 t.F64
row_of_f64 f64.f64_sqrt = row.Unary t.F64 t.F64
row_of_f64 f64.f64_add = row.Binary t.F64 t.F64 t.F64
row_of_f64 f64.f64_sub = row.Binary t.F64 t.F64 t.F64
row_of_f64 f64.f64_mul = row.Binary t.F64 t.F64 t.F64
row_of_f64 f64.f64_div = row.Binary t.F64 t.F64 t.F64
row_of_f64 f64.f64_min = row.Binary t.F64 t.F64 t.F64
row_of_f64 f64.f64_max = row.Binary t.F64 t.F64 t.F64
row_of_f64 f64.f64_copysign = row.Binary t.F64 t.F64 t.F64
row_of_f64 f64.f64_convert_i32_s = row.Unary t.I32 t.F64
row_of_f64 f64.f64_convert_i32_u = row.Unary t.I32 t.F64
row_of_f64 f64.f64_convert_i64_s = row.Unary t.I64 t.F64
row_of_f64 f64.f64_convert_i64_u = row.Unary t.I64 t.F64
row_of_f64 f64.f64_promote_f32 = row.Unary t.F32 t.F64
row_of_f64 f64.f64_reinterpret_i64 = row.Unary t.I64 t.F64

-- the row of an instruction whose name begins with `i8x16`
unfoldable pub row_of_i8x16 : I8x16Op → Row
row_of_i8x16 i8x16.i8x16_swizzle = row.Binary t.V128 t.V128 t.V128
row_of_i8x16 i8x16.i8x16_splat = row.Unary t.I32 t.V128
row_of_i8x16 i8x16.i8x16_eq = row.Binary t.V128 t.V128 t.V128
row_of_i8x16 i8x16.i8x16_ne = row.Binary t.V128 t.V128 t.V128
row_of_i8x16 i8x16.i8x16_lt_s = row.Binary t.V128 t.V128 t.V128
row_of_i8x16 i8x16.i8x16_lt_u = row.Binary t.V128 t.V128 t.V128
row_of_i8x16 i8x16.i8x16_gt_s = row.Binary t.V128 t.V128 t.V128
row_of_i8x16 i8x16.i8x16_gt_u = row.Binary t.V128 t.V128 t.V128
row_of_i8x16 i8x16.i8x16_le_s = row.Binary t.V128 t.V128 t.V128
row_of_i8x16 i8x16.i8x16_le_u = row.Binary t.V128 t.V128 t.V128
row_of_i8x16 i8x16.i8x16_ge_s = row.Binary t.V128 t.V128 t.V128
row_of_i8x16 i8x16.i8x16_ge_u = row.Binary t.V128 t.V128 t.V128
row_of_i8x16 i8x16.i8x16_abs = row.Unary t.V128 t.V128
row_of_i8x16 i8x16.i8x16_neg = row.Unary t.V128 t.V128
row_of_i8x16 i8x16.i8x16_popcnt = row.Unary t.V128 t.V128
row_of_i8x16 i8x16.i8x16_all_true = row.Unary t.V128 t.I32
row_of_i8x16 i8x16.i8x16_bitmask = row.Unary t.V128 t.I32
row_of_i8x16 i8x16.i8x16_narrow_i16x8_s = row.Binary t.V128 t.V128 t.V128
row_of_i8x16 i8x16.i8x16_narrow_i16x8_u = row.Binary t.V128 t.V128 t.V128
row_of_i8x16 i8x16.i8x16_shl = row.Binary t.V128 t.I32 t.V128
row_of_i8x16 i8x16.i8x16_shr_s = row.Binary t.V128 t.I32 t.V128
row_of_i8x16 i8x16.i8x16_shr_u = row.Binary t.V128 t.I32 t.V128
row_of_i8x16 i8x16.i8x16_add = row.Binary t.V128 t.V128 t.V128
row_of_i8x16 i8x16.i8x16_add_sat_s = row.Binary t.V128 t.V128 t.V128
row_of_i8x16 i8x16.i8x16_add_sat_u = row.Binary t.V128 t.V128 t.V128
row_of_i8x16 i8x16.i8x16_sub = row.Binary t.V128 t.V128 t.V128
row_of_i8x16 i8x16.i8x16_sub_sat_s = row.Binary t.V128 t.V128 t.V128
row_of_i8x16 i8x16.i8x16_sub_sat_u = row.Binary t.V128 t.V128 t.V128
row_of_i8x16 i8x16.i8x16_min_s = row.Binary t.V128 t.V128 t.V128
row_of_i8x16 i8x16.i8x16_min_u = row.Binary t.V128 t.V128 t.V128
row_of_i8x16 i8x16.i8x16_max_s = row.Binary t.V128 t.V128 t.V128
row_of_i8x16 i8x16.i8x16_max_u = row.Binary t.V128 t.V128 t.V128
row_of_i8x16 i8x16.i8x16_avgr_u = row.Binary t.V128 t.V128 t.V128
row_of_i8x16 i8x16.i8x16_relaxed_swizzle = row.Binary t.V128 t.V128 t.V128
row_of_i8x16 i8x16.i8x16_relaxed_laneselect = row.Ternary t.V128 t.V128 t.V128 t.V128

-- the row of an instruction whose name begins with `i16x8`
unfoldable pub row_of_i16x8 : I16x8Op → Row
row_of_i16x8 i16x8.i16x8_splat = row.Unary t.I32 t.V128
row_of_i16x8 i16x8.i16x8_eq = row.Binary t.V128 t.V128 t.V128
row_of_i16x8 i16x8.i16x8_ne = row.Binary t.V128 t.V128 t.V128
row_of_i16x8 i16x8.i16x8_lt_s = row.Binary t.V128 t.V128 t.V128
row_of_i16x8 i16x8.i16x8_lt_u = row.Binary t.V128 t.V128 t.V128
row_of_i16x8 i16x8.i16x8_gt_s = row.Binary t.V128 t.V128 t.V128
row_of_i16x8 i16x8.i16x8_gt_u = row.Binary t.V128 t.V128 t.V128
row_of_i16x8 i16x8.i16x8_le_s = row.Binary t.V128 t.V128 t.V128
row_of_i16x8 i16x8.i16x8_le_u = row.Binary t.V128 t.V128 t.V128
row_of_i16x8 i16x8.i16x8_ge_s = row.Binary t.V128 t.V128 t.V128
row_of_i16x8 i16x8.i16x8_ge_u = row.Binary t.V128 t.V128 t.V128
row_of_i16x8 i16x8.i16x8_extadd_pairwise_i8x16_s = row.Unary t.V128 t.V128
row_of_i16x8 i16x8.i16x8_extadd_pairwise_i8x16_u = row.Unary t.V128 t.V128
row_of_i16x8 i16x8.i16x8_abs = row.Unary t.V128 t.V128
row_of_i16x8 i16x8.i16x8_neg = row.Unary t.V128 t.V128
row_of_i16x8 i16x8.i16x8_q15mulr_sat_s = row.Binary t.V128 t.V128 t.V128
row_of_i16x8 i16x8.i16x8_all_true = row.Unary t.V128 t.I32
row_of_i16x8 i16x8.i16x8_bitmask = row.Unary t.V128 t.I32
row_of_i16x8 i16x8.i16x8_narrow_i32x4_s = row.Binary t.V128 t.V128 t.V128
row_of_i16x8 i16x8.i16x8_narrow_i32x4_u = row.Binary t.V128 t.V128 t.V128
row_of_i16x8 i16x8.i16x8_extend_low_i8x16_s = row.Unary t.V128 t.V128
row_of_i16x8 i16x8.i16x8_extend_high_i8x16_s = row.Unary t.V128 t.V128
row_of_i16x8 i16x8.i16x8_extend_low_i8x16_u = row.Unary t.V128 t.V128
row_of_i16x8 i16x8.i16x8_extend_high_i8x16_u = row.Unary t.V128 t.V128
row_of_i16x8 i16x8.i16x8_shl = row.Binary t.V128 t.I32 t.V128
row_of_i16x8 i16x8.i16x8_shr_s = row.Binary t.V128 t.I32 t.V128
row_of_i16x8 i16x8.i16x8_shr_u = row.Binary t.V128 t.I32 t.V128
row_of_i16x8 i16x8.i16x8_add = row.Binary t.V128 t.V128 t.V128
row_of_i16x8 i16x8.i16x8_add_sat_s = row.Binary t.V128 t.V128 t.V128
row_of_i16x8 i16x8.i16x8_add_sat_u = row.Binary t.V128 t.V128 t.V128
row_of_i16x8 i16x8.i16x8_sub = row.Binary t.V128 t.V128 t.V128
row_of_i16x8 i16x8.i16x8_sub_sat_s = row.Binary t.V128 t.V128 t.V128
row_of_i16x8 i16x8.i16x8_sub_sat_u = row.Binary t.V128 t.V128 t.V128
row_of_i16x8 i16x8.i16x8_mul = row.Binary t.V128 t.V128 t.V128
row_of_i16x8 i16x8.i16x8_min_s = row.Binary t.V128 t.V128 t.V128
row_of_i16x8 i16x8.i16x8_min_u = row.Binary t.V128 t.V128 t.V128
row_of_i16x8 i16x8.i16x8_max_s = row.Binary t.V128 t.V128 t.V128
row_of_i16x8 i16x8.i16x8_max_u = row.Binary t.V128 t.V128 t.V128
row_of_i16x8 i16x8.i16x8_avgr_u = row.Binary t.V128 t.V128 t.V128
row_of_i16x8 i16x8.i16x8_extmul_low_i8x16_s = row.Binary t.V128 t.V128 t.V128
row_of_i16x8 i16x8.i16x8_extmul_high_i8x16_s = row.Binary t.V128 t.V128 t.V128
row_of_i16x8 i16x8.i16x8_extmul_low_i8x16_u = row.Binary t.V128 t.V128 t.V128
row_of_i16x8 i16x8.i16x8_extmul_high_i8x16_u = row.Binary t.V128 t.V128 t.V128
row_of_i16x8 i16x8.i16x8_relaxed_laneselect = row.Ternary t.V128 t.V128 t.V128 t.V128
row_of_i16x8 i16x8.i16x8_relaxed_q15mulr_s = row.Binary t.V128 t.V128 t.V128
row_of_i16x8 i16x8.i16x8_relaxed_dot_i8x16_i7x16_s = row.Binary t.V128 t.V128 t.V128

-- the row of an instruction whose name begins with `i32x4`
unfoldable pub row_of_i32x4 : I32x4Op → Row
row_of_i32x4 i32x4.i32x4_splat = row.Unary t.I32 t.V128
row_of_i32x4 i32x4.i32x4_eq = row.Binary t.V128 t.V128 t.V128
row_of_i32x4 i32x4.i32x4_ne = row.Binary t.V128 t.V128 t.V128
row_of_i32x4 i32x4.i32x4_lt_s = row.Binary t.V128 t.V128 t.V128
row_of_i32x4 i32x4.i32x4_lt_u = row.Binary t.V128 t.V128 t.V128
row_of_i32x4 i32x4.i32x4_gt_s = row.Binary t.V128 t.V128 t.V128
row_of_i32x4 i32x4.i32x4_gt_u = row.Binary t.V128 t.V128 t.V128
row_of_i32x4 i32x4.i32x4_le_s = row.Binary t.V128 t.V128 t.V128
row_of_i32x4 i32x4.i32x4_le_u = row.Binary t.V128 t.V128 t.V128
row_of_i32x4 i32x4.i32x4_ge_s = row.Binary t.V128 t.V128 t.V128
row_of_i32x4 i32x4.i32x4_ge_u = row.Binary t.V128 t.V128 t.V128
row_of_i32x4 i32x4.i32x4_extadd_pairwise_i16x8_s = row.Unary t.V128 t.V128
row_of_i32x4 i32x4.i32x4_extadd_pairwise_i16x8_u = row.Unary t.V128 t.V128
row_of_i32x4 i32x4.i32x4_abs = row.Unary t.V128 t.V128
row_of_i32x4 i32x4.i32x4_neg = row.Unary t.V128 t.V128
row_of_i32x4 i32x4.i32x4_all_true = row.Unary t.V128 t.I32
row_of_i32x4 i32x4.i32x4_bitmask = row.Unary t.V128 t.I32
row_of_i32x4 i32x4.i32x4_extend_low_i16x8_s = row.Unary t.V128 t.V128
row_of_i32x4 i32x4.i32x4_extend_high_i16x8_s = row.Unary t.V128 t.V128
row_of_i32x4 i32x4.i32x4_extend_low_i16x8_u = row.Unary t.V128 t.V128
row_of_i32x4 i32x4.i32x4_extend_high_i16x8_u = row.Unary t.V128 t.V128
row_of_i32x4 i32x4.i32x4_shl = row.Binary t.V128 t.I32 t.V128
row_of_i32x4 i32x4.i32x4_shr_s = row.Binary t.V128 t.I32 t.V128
row_of_i32x4 i32x4.i32x4_shr_u = row.Binary t.V128 t.I32 t.V128
row_of_i32x4 i32x4.i32x4_add = row.Binary t.V128 t.V128 t.V128
row_of_i32x4 i32x4.i32x4_sub = row.Binary t.V128 t.V128 t.V128
row_of_i32x4 i32x4.i32x4_mul = row.Binary t.V128 t.V128 t.V128
row_of_i32x4 i32x4.i32x4_min_s = row.Binary t.V128 t.V128 t.V128
row_of_i32x4 i32x4.i32x4_min_u = row.Binary t.V128 t.V128 t.V128
row_of_i32x4 i32x4.i32x4_max_s = row.Binary t.V128 t.V128 t.V128
row_of_i32x4 i32x4.i32x4_max_u = row.Binary t.V128 t.V128 t.V128
row_of_i32x4 i32x4.i32x4_dot_i16x8_s = row.Binary t.V128 t.V128 t.V128
row_of_i32x4 i32x4.i32x4_extmul_low_i16x8_s = row.Binary t.V128 t.V128 t.V128
row_of_i32x4 i32x4.i32x4_extmul_high_i16x8_s = row.Binary t.V128 t.V128 t.V128
row_of_i32x4 i32x4.i32x4_extmul_low_i16x8_u = row.Binary t.V128 t.V128 t.V128
row_of_i32x4 i32x4.i32x4_extmul_high_i16x8_u = row.Binary t.V128 t.V128 t.V128
row_of_i32x4 i32x4.i32x4_trunc_sat_f32x4_s = row.Unary t.V128 t.V128
row_of_i32x4 i32x4.i32x4_trunc_sat_f32x4_u = row.Unary t.V128 t.V128
row_of_i32x4 i32x4.i32x4_trunc_sat_f64x2_s_zero = row.Unary t.V128 t.V128
row_of_i32x4 i32x4.i32x4_trunc_sat_f64x2_u_zero = row.Unary t.V128 t.V128
row_of_i32x4 i32x4.i32x4_relaxed_trunc_f32x4_s = row.Unary t.V128 t.V128
row_of_i32x4 i32x4.i32x4_relaxed_trunc_f32x4_u = row.Unary t.V128 t.V128
row_of_i32x4 i32x4.i32x4_relaxed_trunc_f64x2_s_zero = row.Unary t.V128 t.V128
row_of_i32x4 i32x4.i32x4_relaxed_trunc_f64x2_u_zero = row.Unary t.V128 t.V128
row_of_i32x4 i32x4.i32x4_relaxed_laneselect = row.Ternary t.V128 t.V128 t.V128 t.V128
row_of_i32x4 i32x4.i32x4_relaxed_dot_i8x16_i7x16_add_s = row.Ternary t.V128 t.V128 t.V128 t.V128

-- the row of an instruction whose name begins with `i64x2`
unfoldable pub row_of_i64x2 : I64x2Op → Row
row_of_i64x2 i64x2.i64x2_splat = row.Unary t.I64 t.V128
row_of_i64x2 i64x2.i64x2_abs = row.Unary t.V128 t.V128
row_of_i64x2 i64x2.i64x2_neg = row.Unary t.V128 t.V128
row_of_i64x2 i64x2.i64x2_all_true = row.Unary t.V128 t.I32
row_of_i64x2 i64x2.i64x2_bitmask = row.Unary t.V128 t.I32
row_of_i64x2 i64x2.i64x2_extend_low_i32x4_s = row.Unary t.V128 t.V128
row_of_i64x2 i64x2.i64x2_extend_high_i32x4_s = row.Unary t.V128 t.V128
row_of_i64x2 i64x2.i64x2_extend_low_i32x4_u = row.Unary t.V128 t.V128
row_of_i64x2 i64x2.i64x2_extend_high_i32x4_u = row.Unary t.V128 t.V128
row_of_i64x2 i64x2.i64x2_shl = row.Binary t.V128 t.I32 t.V128
row_of_i64x2 i64x2.i64x2_shr_s = row.Binary t.V128 t.I32 t.V128
row_of_i64x2 i64x2.i64x2_shr_u = row.Binary t.V128 t.I32 t.V128
row_of_i64x2 i64x2.i64x2_add = row.Binary t.V128 t.V128 t.V128
row_of_i64x2 i64x2.i64x2_sub = row.Binary t.V128 t.V128 t.V128
row_of_i64x2 i64x2.i64x2_mul = row.Binary t.V128 t.V128 t.V128
row_of_i64x2 i64x2.i64x2_eq = row.Binary t.V128 t.V128 t.V128
row_of_i64x2 i64x2.i64x2_ne = row.Binary t.V128 t.V128 t.V128
row_of_i64x2 i64x2.i64x2_lt_s = row.Binary t.V128 t.V128 t.V128
row_of_i64x2 i64x2.i64x2_gt_s = row.Binary t.V128 t.V128 t.V128
row_of_i64x2 i64x2.i64x2_le_s = row.Binary t.V128 t.V128 t.V128
row_of_i64x2 i64x2.i64x2_ge_s = row.Binary t.V128 t.V128 t.V128
row_of_i64x2 i64x2.i64x2_extmul_low_i32x4_s = row.Binary t.V128 t.V128 t.V128
row_of_i64x2 i64x2.i64x2_extmul_high_i32x4_s = row.Binary t.V128 t.V128 t.V128
row_of_i64x2 i64x2.i64x2_extmul_low_i32x4_u = row.Binary t.V128 t.V128 t.V128
row_of_i64x2 i64x2.i64x2_extmul_high_i32x4_u = row.Binary t.V128 t.V128 t.V128
row_of_i64x2 i64x2.i64x2_relaxed_laneselect = row.Ternary t.V128 t.V128 t.V128 t.V128

-- the row of an instruction whose name begins with `f32x4`
unfoldable pub row_of_f32x4 : F32x4Op → Row
row_of_f32x4 f32x4.f32x4_splat = row.Unary t.F32 t.V128
row_of_f32x4 f32x4.f32x4_eq = row.Binary t.V128 t.V128 t.V128
row_of_f32x4 f32x4.f32x4_ne = row.Binary t.V128 t.V128 t.V128
row_of_f32x4 f32x4.f32x4_lt = row.Binary t.V128 t.V128 t.V128
row_of_f32x4 f32x4.f32x4_gt = row.Binary t.V128 t.V128 t.V128
row_of_f32x4 f32x4.f32x4_le = row.Binary t.V128 t.V128 t.V128
row_of_f32x4 f32x4.f32x4_ge = row.Binary t.V128 t.V128 t.V128
row_of_f32x4 f32x4.f32x4_demote_f64x2_zero = row.Unary t.V128 t.V128
row_of_f32x4 f32x4.f32x4_ceil = row.Unary t.V128 t.V128
row_of_f32x4 f32x4.f32x4_floor = row.Unary t.V128 t.V128
row_of_f32x4 f32x4.f32x4_trunc = row.Unary t.V128 t.V128
row_of_f32x4 f32x4.f32x4_nearest = row.Unary t.V128 t.V128
row_of_f32x4 f32x4.f32x4_abs = row.Unary t.V128 t.V128
row_of_f32x4 f32x4.f32x4_neg = row.Unary t.V128 t.V128
row_of_f32x4 f32x4.f32x4_sqrt = row.Unary t.V128 t.V128
row_of_f32x4 f32x4.f32x4_add = row.Binary t.V128 t.V128 t.V128
row_of_f32x4 f32x4.f32x4_sub = row.Binary t.V128 t.V128 t.V128
row_of_f32x4 f32x4.f32x4_mul = row.Binary t.V128 t.V128 t.V128
row_of_f32x4 f32x4.f32x4_div = row.Binary t.V128 t.V128 t.V128
row_of_f32x4 f32x4.f32x4_min = row.Binary t.V128 t.V128 t.V128
row_of_f32x4 f32x4.f32x4_max = row.Binary t.V128 t.V128 t.V128
row_of_f32x4 f32x4.f32x4_pmin = row.Binary t.V128 t.V128 t.V128
row_of_f32x4 f32x4.f32x4_pmax = row.Binary t.V128 t.V128 t.V128
row_of_f32x4 f32x4.f32x4_convert_i32x4_s = row.Unary t.V128 t.V128
row_of_f32x4 f32x4.f32x4_convert_i32x4_u = row.Unary t.V128 t.V128
row_of_f32x4 f32x4.f32x4_relaxed_madd = row.Ternary t.V128 t.V128 t.V128 t.V128
row_of_f32x4 f32x4.f32x4_relaxed_nmadd = row.Ternary t.V128 t.V128 t.V128 t.V128
row_of_f32x4 f32x4.f32x4_relaxed_min = row.Binary t.V128 t.V128 t.V128
row_of_f32x4 f32x4.f32x4_relaxed_max = row.Binary t.V128 t.V128 t.V128

-- the row of an instruction whose name begins with `f64x2`
unfoldable pub row_of_f64x2 : F64x2Op → Row
row_of_f64x2 f64x2.f64x2_splat = row.Unary t.F64 t.V128
row_of_f64x2 f64x2.f64x2_eq = row.Binary t.V128 t.V128 t.V128
row_of_f64x2 f64x2.f64x2_ne = row.Binary t.V128 t.V128 t.V128
row_of_f64x2 f64x2.f64x2_lt = row.Binary t.V128 t.V128 t.V128
row_of_f64x2 f64x2.f64x2_gt = row.Binary t.V128 t.V128 t.V128
row_of_f64x2 f64x2.f64x2_le = row.Binary t.V128 t.V128 t.V128
row_of_f64x2 f64x2.f64x2_ge = row.Binary t.V128 t.V128 t.V128
row_of_f64x2 f64x2.f64x2_promote_low_f32x4 = row.Unary t.V128 t.V128
row_of_f64x2 f64x2.f64x2_ceil = row.Unary t.V128 t.V128
row_of_f64x2 f64x2.f64x2_floor = row.Unary t.V128 t.V128
row_of_f64x2 f64x2.f64x2_trunc = row.Unary t.V128 t.V128
row_of_f64x2 f64x2.f64x2_nearest = row.Unary t.V128 t.V128
row_of_f64x2 f64x2.f64x2_abs = row.Unary t.V128 t.V128
row_of_f64x2 f64x2.f64x2_neg = row.Unary t.V128 t.V128
row_of_f64x2 f64x2.f64x2_sqrt = row.Unary t.V128 t.V128
row_of_f64x2 f64x2.f64x2_add = row.Binary t.V128 t.V128 t.V128
row_of_f64x2 f64x2.f64x2_sub = row.Binary t.V128 t.V128 t.V128
row_of_f64x2 f64x2.f64x2_mul = row.Binary t.V128 t.V128 t.V128
row_of_f64x2 f64x2.f64x2_div = row.Binary t.V128 t.V128 t.V128
row_of_f64x2 f64x2.f64x2_min = row.Binary t.V128 t.V128 t.V128
row_of_f64x2 f64x2.f64x2_max = row.Binary t.V128 t.V128 t.V128
row_of_f64x2 f64x2.f64x2_pmin = row.Binary t.V128 t.V128 t.V128
row_of_f64x2 f64x2.f64x2_pmax = row.Binary t.V128 t.V128 t.V128
row_of_f64x2 f64x2.f64x2_convert_low_i32x4_s = row.Unary t.V128 t.V128
row_of_f64x2 f64x2.f64x2_convert_low_i32x4_u = row.Unary t.V128 t.V128
row_of_f64x2 f64x2.f64x2_relaxed_madd = row.Ternary t.V128 t.V128 t.V128 t.V128
row_of_f64x2 f64x2.f64x2_relaxed_nmadd = row.Ternary t.V128 t.V128 t.V128 t.V128
row_of_f64x2 f64x2.f64x2_relaxed_min = row.Binary t.V128 t.V128 t.V128
row_of_f64x2 f64x2.f64x2_relaxed_max = row.Binary t.V128 t.V128 t.V128

-- the row of an instruction whose name begins with `v128`
unfoldable pub row_of_v128 : V128Op → Row
row_of_v128 v128.v128_not = row.Unary t.V128 t.V128
row_of_v128 v128.v128_and = row.Binary t.V128 t.V128 t.V128
row_of_v128 v128.v128_andnot = row.Binary t.V128 t.V128 t.V128
row_of_v128 v128.v128_or = row.Binary t.V128 t.V128 t.V128
row_of_v128 v128.v128_xor = row.Binary t.V128 t.V128 t.V128
row_of_v128 v128.v128_bitselect = row.Ternary t.V128 t.V128 t.V128 t.V128
row_of_v128 v128.v128_any_true = row.Unary t.V128 t.I32

-- the row of an instruction of which an operand is a reference
unfoldable pub row_of_ref : RefOp → Option Row
row_of_ref refs.ref_eq = Some (row.Binary (maybe heap.Eqs) (maybe heap.Eqs) t.I32)
row_of_ref refs.ref_i31 = Some (row.Unary t.I32 (sure heap.I31))
row_of_ref refs.ref_is_null = None
row_of_ref refs.ref_as_non_null = None

unfoldable pub row_of_array : ArrayOp → Row
row_of_array arrays.array_len = row.Unary (maybe heap.Arrays) t.I32

unfoldable pub row_of_i31 : I31Op → Row
row_of_i31 i31s.i31_get_s = row.Unary (maybe heap.I31) t.I32
row_of_i31 i31s.i31_get_u = row.Unary (maybe heap.I31) t.I32

-- the row of an instruction without immediates, or `None` if it has no fixed type
unfoldable pub row_of : Plain → Option Row
row_of (plain.I32 op) = Some (row_of_i32 op)
row_of (plain.I64 op) = Some (row_of_i64 op)
row_of (plain.F32 op) = Some (row_of_f32 op)
row_of (plain.F64 op) = Some (row_of_f64 op)
row_of (plain.I8x16 op) = Some (row_of_i8x16 op)
row_of (plain.I16x8 op) = Some (row_of_i16x8 op)
row_of (plain.I32x4 op) = Some (row_of_i32x4 op)
row_of (plain.I64x2 op) = Some (row_of_i64x2 op)
row_of (plain.F32x4 op) = Some (row_of_f32x4 op)
row_of (plain.F64x2 op) = Some (row_of_f64x2 op)
row_of (plain.V128 op) = Some (row_of_v128 op)
row_of (plain.Ref op) = row_of_ref op
row_of (plain.Array op) = Some (row_of_array op)
row_of (plain.I31 op) = Some (row_of_i31 op)
row_of op = None

-- what a load or a store accesses; `None` for atomic instructions
unfoldable pub access_of : MemOp → Option Access
access_of mem.i32_load = Some (access.Load t.I32 4)
access_of mem.i64_load = Some (access.Load t.I64 8)
access_of mem.f32_load = Some (access.Load t.F32 4)
access_of mem.f64_load = Some (access.Load t.F64 8)
access_of mem.i32_load8_s = Some (access.Load t.I32 1)
access_of mem.i32_load8_u = Some (access.Load t.I32 1)
access_of mem.i32_load16_s = Some (access.Load t.I32 2)
access_of mem.i32_load16_u = Some (access.Load t.I32 2)
access_of mem.i64_load8_s = Some (access.Load t.I64 1)
access_of mem.i64_load8_u = Some (access.Load t.I64 1)
access_of mem.i64_load16_s = Some (access.Load t.I64 2)
access_of mem.i64_load16_u = Some (access.Load t.I64 2)
access_of mem.i64_load32_s = Some (access.Load t.I64 4)
access_of mem.i64_load32_u = Some (access.Load t.I64 4)
access_of mem.i32_store = Some (access.Store t.I32 4)
access_of mem.i64_store = Some (access.Store t.I64 8)
access_of mem.f32_store = Some (access.Store t.F32 4)
access_of mem.f64_store = Some (access.Store t.F64 8)
access_of mem.i32_store8 = Some (access.Store t.I32 1)
access_of mem.i32_store16 = Some (access.Store t.I32 2)
access_of mem.i64_store8 = Some (access.Store t.I64 1)
access_of mem.i64_store16 = Some (access.Store t.I64 2)
access_of mem.i64_store32 = Some (access.Store t.I64 4)
access_of mem.v128_load = Some (access.Load t.V128 16)
access_of mem.v128_load8x8_s = Some (access.Load t.V128 8)
access_of mem.v128_load8x8_u = Some (access.Load t.V128 8)
access_of mem.v128_load16x4_s = Some (access.Load t.V128 8)
access_of mem.v128_load16x4_u = Some (access.Load t.V128 8)
access_of mem.v128_load32x2_s = Some (access.Load t.V128 8)
access_of mem.v128_load32x2_u = Some (access.Load t.V128 8)
access_of mem.v128_load8_splat = Some (access.Load t.V128 1)
access_of mem.v128_load16_splat = Some (access.Load t.V128 2)
access_of mem.v128_load32_splat = Some (access.Load t.V128 4)
access_of mem.v128_load64_splat = Some (access.Load t.V128 8)
access_of mem.v128_store = Some (access.Store t.V128 16)
access_of mem.v128_load32_zero = Some (access.Load t.V128 4)
access_of mem.v128_load64_zero = Some (access.Load t.V128 8)
access_of op = None

-- the access of a load or a store of a lane, and the number of lanes of this size
abbrev pub with_lanes : Access → ℕ → LaneAccess
with_lanes a n = record { access = a; lanes = n }

unfoldable pub lane_access_of : MemLaneOp → LaneAccess
lane_access_of mem_lane.v128_load8_lane = with_lanes (access.Load t.V128 1) 16
lane_access_of mem_lane.v128_load16_lane = with_lanes (access.Load t.V128 2) 8
lane_access_of mem_lane.v128_load32_lane = with_lanes (access.Load t.V128 4) 4
lane_access_of mem_lane.v128_load64_lane = with_lanes (access.Load t.V128 8) 2
lane_access_of mem_lane.v128_store8_lane = with_lanes (access.Store t.V128 1) 16
lane_access_of mem_lane.v128_store16_lane = with_lanes (access.Store t.V128 2) 8
lane_access_of mem_lane.v128_store32_lane = with_lanes (access.Store t.V128 4) 4
lane_access_of mem_lane.v128_store64_lane = with_lanes (access.Store t.V128 8) 2

-- the row of an instruction on a lane, and the number of lanes
abbrev pub on_lanes : Row → ℕ → LaneUse
on_lanes r n = record { row = r; lanes = n }

unfoldable pub lane_use_of : LaneOp → LaneUse
lane_use_of lane.i8x16_extract_lane_s = on_lanes (row.Unary t.V128 t.I32) 16
lane_use_of lane.i8x16_extract_lane_u = on_lanes (row.Unary t.V128 t.I32) 16
lane_use_of lane.i8x16_replace_lane = on_lanes (row.Binary t.V128 t.I32 t.V128) 16
lane_use_of lane.i16x8_extract_lane_s = on_lanes (row.Unary t.V128 t.I32) 8
lane_use_of lane.i16x8_extract_lane_u = on_lanes (row.Unary t.V128 t.I32) 8
lane_use_of lane.i16x8_replace_lane = on_lanes (row.Binary t.V128 t.I32 t.V128) 8
lane_use_of lane.i32x4_extract_lane = on_lanes (row.Unary t.V128 t.I32) 4
lane_use_of lane.i32x4_replace_lane = on_lanes (row.Binary t.V128 t.I32 t.V128) 4
lane_use_of lane.i64x2_extract_lane = on_lanes (row.Unary t.V128 t.I64) 2
lane_use_of lane.i64x2_replace_lane = on_lanes (row.Binary t.V128 t.I64 t.V128) 2
lane_use_of lane.f32x4_extract_lane = on_lanes (row.Unary t.V128 t.F32) 4
lane_use_of lane.f32x4_replace_lane = on_lanes (row.Binary t.V128 t.F32 t.V128) 4
lane_use_of lane.f64x2_extract_lane = on_lanes (row.Unary t.V128 t.F64) 2
lane_use_of lane.f64x2_replace_lane = on_lanes (row.Binary t.V128 t.F64 t.V128) 2
