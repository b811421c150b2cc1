-- The opcodes of instructions a second time, in the order of their numbers (binary format: instructions; appendix: index of instructions). The
-- texts and the keys of instructions come from one table, so a wrong number there would be the same in both formats. This list was
-- compared with the numbers of the Rust crate `wast`.
--
-- A key is an opcode as one number, as in `InstrRows` of wat_grammar. Keys rise by one from word to word of a line.
--
--   from 0x6a (codes "i32.add i32.sub")      (codes "i32.add", 0x6a) ∷ (codes "i32.sub", 0x6b) ∷ []
use Rattle.std.specs.Prelude.{◌≡◌, ℕ, suc, nat_eq, true, false, List, [], ◌∷◌, ◌++◌, map, Option, Some, bytes_eq, codes}
use Rattle.std.specs.Map.{lookup}
use Rattle.wast_base.specs.contracts.mem_ops.MemOp as mems
use Rattle.wast_base.specs.contracts.lane_ops.LaneOp as lanes
use Rattle.wast_base.specs.contracts.lane_ops.MemLaneOp as mem_lanes
use Rattle.wast_base.specs.contracts.index_ops.IndexOp as indices
use Rattle.wat_grammar.specs.Each.{each}
use Rattle.wat_grammar.specs.InstrRows.{row_of_plain, row_of_mem, row_of_lane, row_of_mem_lane, row_of_index, plains}

-- a character more at the front of the first word
abbrev pub begun : ℕ → List (List ℕ) → List (List ℕ)
begun c [] = (c ∷ []) ∷ []
begun c (w ∷ ws) = (c ∷ w) ∷ ws

-- the words of a text, at whose blanks it is cut
abbrev pub words_of : List ℕ → List (List ℕ)
words_of [] = []
words_of (c ∷ cs) = elim (nat_eq c 0x20) [ true ↦ [] ∷ words_of cs | false ↦ begun c (words_of cs) ]

-- words whose keys rise by one
abbrev pub numbered : ℕ → List (List ℕ) → List (List ℕ × ℕ)
numbered key [] = []
numbered key (w ∷ ws) = (w, key) ∷ numbered (suc key) ws

abbrev pub from : ℕ → List ℕ → List (List ℕ × ℕ)
from key text = numbered key (words_of text)

-- the list
unfoldable pub standard : List (List ℕ × ℕ)
standard = from 0x00 (codes "unreachable nop")
    ++ from 0x07 (codes "catch throw rethrow throw_ref")
    ++ from 0x0c (codes "br br_if")
    ++ from 0x0f (codes "return call")
    ++ from 0x12 (codes "return_call")
    ++ from 0x14 (codes "call_ref return_call_ref")
    ++ from 0x18 (codes "delegate catch_all drop")
    ++ from 0x20 (codes "local.get local.set local.tee global.get global.set table.get table.set")
    ++ from 0x28 (codes "i32.load i64.load f32.load f64.load i32.load8_s i32.load8_u i32.load16_s i32.load16_u i64.load8_s i64.load8_u i64.load16_s")
    ++ from 0x33 (codes "i64.load16_u i64.load32_s i64.load32_u i32.store i64.store f32.store f64.store i32.store8 i32.store16 i64.store8 i64.store16")
    ++ from 0x3e (codes "i64.store32 memory.size memory.grow")
    ++ from 0x45 (codes "i32.eqz i32.eq i32.ne i32.lt_s i32.lt_u i32.gt_s i32.gt_u i32.le_s i32.le_u i32.ge_s i32.ge_u i64.eqz i64.eq i64.ne i64.lt_s")
    ++ from 0x54 (codes "i64.lt_u i64.gt_s i64.gt_u i64.le_s i64.le_u i64.ge_s i64.ge_u f32.eq f32.ne f32.lt f32.gt f32.le f32.ge f64.eq f64.ne f64.lt")
    ++ from 0x64 (codes "f64.gt f64.le f64.ge i32.clz i32.ctz i32.popcnt i32.add i32.sub i32.mul i32.div_s i32.div_u i32.rem_s i32.rem_u i32.and")
    ++ from 0x72 (codes "i32.or i32.xor i32.shl i32.shr_s i32.shr_u i32.rotl i32.rotr i64.clz i64.ctz i64.popcnt i64.add i64.sub i64.mul i64.div_s")
    ++ from 0x80 (codes "i64.div_u i64.rem_s i64.rem_u i64.and i64.or i64.xor i64.shl i64.shr_s i64.shr_u i64.rotl i64.rotr f32.abs f32.neg f32.ceil")
    ++ from 0x8e (codes "f32.floor f32.trunc f32.nearest f32.sqrt f32.add f32.sub f32.mul f32.div f32.min f32.max f32.copysign f64.abs f64.neg")
    ++ from 0x9b (codes "f64.ceil f64.floor f64.trunc f64.nearest f64.sqrt f64.add f64.sub f64.mul f64.div f64.min f64.max f64.copysign i32.wrap_i64")
    ++ from 0xa8 (codes "i32.trunc_f32_s i32.trunc_f32_u i32.trunc_f64_s i32.trunc_f64_u i64.extend_i32_s i64.extend_i32_u i64.trunc_f32_s")
    ++ from 0xaf (codes "i64.trunc_f32_u i64.trunc_f64_s i64.trunc_f64_u f32.convert_i32_s f32.convert_i32_u f32.convert_i64_s f32.convert_i64_u")
    ++ from 0xb6 (codes "f32.demote_f64 f64.convert_i32_s f64.convert_i32_u f64.convert_i64_s f64.convert_i64_u f64.promote_f32 i32.reinterpret_f32")
    ++ from 0xbd (codes "i64.reinterpret_f64 f32.reinterpret_i32 f64.reinterpret_i64 i32.extend8_s i32.extend16_s i64.extend8_s i64.extend16_s")
    ++ from 0xc4 (codes "i64.extend32_s")
    ++ from 0xd1 (codes "ref.is_null ref.func ref.eq ref.as_non_null br_on_null br_on_non_null")
    ++ from 0xfb0000 (codes "struct.new struct.new_default")
    ++ from 0xfb0006 (codes "array.new array.new_default")
    ++ from 0xfb000b (codes "array.get array.get_s array.get_u array.set array.len array.fill")
    ++ from 0xfb001a (codes "any.convert_extern extern.convert_any ref.i31 i31.get_s i31.get_u")
    ++ from 0xfc0000 (codes "i32.trunc_sat_f32_s i32.trunc_sat_f32_u i32.trunc_sat_f64_s i32.trunc_sat_f64_u i64.trunc_sat_f32_s i64.trunc_sat_f32_u")
    ++ from 0xfc0006 (codes "i64.trunc_sat_f64_s i64.trunc_sat_f64_u")
    ++ from 0xfc0009 (codes "data.drop")
    ++ from 0xfc000b (codes "memory.fill")
    ++ from 0xfc000d (codes "elem.drop")
    ++ from 0xfc000f (codes "table.grow table.size table.fill")
    ++ from 0xfd0000 (codes "v128.load v128.load8x8_s v128.load8x8_u v128.load16x4_s v128.load16x4_u v128.load32x2_s v128.load32x2_u v128.load8_splat")
    ++ from 0xfd0008 (codes "v128.load16_splat v128.load32_splat v128.load64_splat v128.store")
    ++ from 0xfd000e (codes "i8x16.swizzle i8x16.splat i16x8.splat i32x4.splat i64x2.splat f32x4.splat f64x2.splat i8x16.extract_lane_s")
    ++ from 0xfd0016 (codes "i8x16.extract_lane_u i8x16.replace_lane i16x8.extract_lane_s i16x8.extract_lane_u i16x8.replace_lane i32x4.extract_lane")
    ++ from 0xfd001c (codes "i32x4.replace_lane i64x2.extract_lane i64x2.replace_lane f32x4.extract_lane f32x4.replace_lane f64x2.extract_lane")
    ++ from 0xfd0022 (codes "f64x2.replace_lane i8x16.eq i8x16.ne i8x16.lt_s i8x16.lt_u i8x16.gt_s i8x16.gt_u i8x16.le_s i8x16.le_u i8x16.ge_s i8x16.ge_u")
    ++ from 0xfd002d (codes "i16x8.eq i16x8.ne i16x8.lt_s i16x8.lt_u i16x8.gt_s i16x8.gt_u i16x8.le_s i16x8.le_u i16x8.ge_s i16x8.ge_u i32x4.eq i32x4.ne")
    ++ from 0xfd0039 (codes "i32x4.lt_s i32x4.lt_u i32x4.gt_s i32x4.gt_u i32x4.le_s i32x4.le_u i32x4.ge_s i32x4.ge_u f32x4.eq f32x4.ne f32x4.lt f32x4.gt")
    ++ from 0xfd0045 (codes "f32x4.le f32x4.ge f64x2.eq f64x2.ne f64x2.lt f64x2.gt f64x2.le f64x2.ge v128.not v128.and v128.andnot v128.or v128.xor")
    ++ from 0xfd0052 (codes "v128.bitselect v128.any_true v128.load8_lane v128.load16_lane v128.load32_lane v128.load64_lane v128.store8_lane")
    ++ from 0xfd0059 (codes "v128.store16_lane v128.store32_lane v128.store64_lane v128.load32_zero v128.load64_zero f32x4.demote_f64x2_zero")
    ++ from 0xfd005f (codes "f64x2.promote_low_f32x4 i8x16.abs i8x16.neg i8x16.popcnt i8x16.all_true i8x16.bitmask i8x16.narrow_i16x8_s")
    ++ from 0xfd0066 (codes "i8x16.narrow_i16x8_u f32x4.ceil f32x4.floor f32x4.trunc f32x4.nearest i8x16.shl i8x16.shr_s i8x16.shr_u i8x16.add")
    ++ from 0xfd006f (codes "i8x16.add_sat_s i8x16.add_sat_u i8x16.sub i8x16.sub_sat_s i8x16.sub_sat_u f64x2.ceil f64x2.floor i8x16.min_s i8x16.min_u")
    ++ from 0xfd0078 (codes "i8x16.max_s i8x16.max_u f64x2.trunc i8x16.avgr_u i16x8.extadd_pairwise_i8x16_s i16x8.extadd_pairwise_i8x16_u")
    ++ from 0xfd007e (codes "i32x4.extadd_pairwise_i16x8_s i32x4.extadd_pairwise_i16x8_u i16x8.abs i16x8.neg i16x8.q15mulr_sat_s i16x8.all_true")
    ++ from 0xfd0084 (codes "i16x8.bitmask i16x8.narrow_i32x4_s i16x8.narrow_i32x4_u i16x8.extend_low_i8x16_s i16x8.extend_high_i8x16_s")
    ++ from 0xfd0089 (codes "i16x8.extend_low_i8x16_u i16x8.extend_high_i8x16_u i16x8.shl i16x8.shr_s i16x8.shr_u i16x8.add i16x8.add_sat_s")
    ++ from 0xfd0090 (codes "i16x8.add_sat_u i16x8.sub i16x8.sub_sat_s i16x8.sub_sat_u f64x2.nearest i16x8.mul i16x8.min_s i16x8.min_u i16x8.max_s")
    ++ from 0xfd0099 (codes "i16x8.max_u")
    ++ from 0xfd009b (codes "i16x8.avgr_u i16x8.extmul_low_i8x16_s i16x8.extmul_high_i8x16_s i16x8.extmul_low_i8x16_u i16x8.extmul_high_i8x16_u i32x4.abs")
    ++ from 0xfd00a1 (codes "i32x4.neg")
    ++ from 0xfd00a3 (codes "i32x4.all_true i32x4.bitmask")
    ++ from 0xfd00a7 (codes "i32x4.extend_low_i16x8_s i32x4.extend_high_i16x8_s i32x4.extend_low_i16x8_u i32x4.extend_high_i16x8_u i32x4.shl i32x4.shr_s")
    ++ from 0xfd00ad (codes "i32x4.shr_u i32x4.add")
    ++ from 0xfd00b1 (codes "i32x4.sub")
    ++ from 0xfd00b5 (codes "i32x4.mul i32x4.min_s i32x4.min_u i32x4.max_s i32x4.max_u i32x4.dot_i16x8_s")
    ++ from 0xfd00bc (codes "i32x4.extmul_low_i16x8_s i32x4.extmul_high_i16x8_s i32x4.extmul_low_i16x8_u i32x4.extmul_high_i16x8_u i64x2.abs i64x2.neg")
    ++ from 0xfd00c3 (codes "i64x2.all_true i64x2.bitmask")
    ++ from 0xfd00c7 (codes "i64x2.extend_low_i32x4_s i64x2.extend_high_i32x4_s i64x2.extend_low_i32x4_u i64x2.extend_high_i32x4_u i64x2.shl i64x2.shr_s")
    ++ from 0xfd00cd (codes "i64x2.shr_u i64x2.add")
    ++ from 0xfd00d1 (codes "i64x2.sub")
    ++ from 0xfd00d5 (codes "i64x2.mul i64x2.eq i64x2.ne i64x2.lt_s i64x2.gt_s i64x2.le_s i64x2.ge_s i64x2.extmul_low_i32x4_s i64x2.extmul_high_i32x4_s")
    ++ from 0xfd00de (codes "i64x2.extmul_low_i32x4_u i64x2.extmul_high_i32x4_u f32x4.abs f32x4.neg")
    ++ from 0xfd00e3 (codes "f32x4.sqrt f32x4.add f32x4.sub f32x4.mul f32x4.div f32x4.min f32x4.max f32x4.pmin f32x4.pmax f64x2.abs f64x2.neg")
    ++ from 0xfd00ef (codes "f64x2.sqrt f64x2.add f64x2.sub f64x2.mul f64x2.div f64x2.min f64x2.max f64x2.pmin f64x2.pmax i32x4.trunc_sat_f32x4_s")
    ++ from 0xfd00f9 (codes "i32x4.trunc_sat_f32x4_u f32x4.convert_i32x4_s f32x4.convert_i32x4_u i32x4.trunc_sat_f64x2_s_zero i32x4.trunc_sat_f64x2_u_zero")
    ++ from 0xfd00fe (codes "f64x2.convert_low_i32x4_s f64x2.convert_low_i32x4_u i8x16.relaxed_swizzle i32x4.relaxed_trunc_f32x4_s")
    ++ from 0xfd0102 (codes "i32x4.relaxed_trunc_f32x4_u i32x4.relaxed_trunc_f64x2_s_zero i32x4.relaxed_trunc_f64x2_u_zero f32x4.relaxed_madd")
    ++ from 0xfd0106 (codes "f32x4.relaxed_nmadd f64x2.relaxed_madd f64x2.relaxed_nmadd i8x16.relaxed_laneselect i16x8.relaxed_laneselect")
    ++ from 0xfd010b (codes "i32x4.relaxed_laneselect i64x2.relaxed_laneselect f32x4.relaxed_min f32x4.relaxed_max f64x2.relaxed_min f64x2.relaxed_max")
    ++ from 0xfd0111 (codes "i16x8.relaxed_q15mulr_s i16x8.relaxed_dot_i8x16_i7x16_s i32x4.relaxed_dot_i8x16_i7x16_add_s")
    ++ from 0xfe0000 (codes "memory.atomic.notify memory.atomic.wait32 memory.atomic.wait64")
    ++ from 0xfe0010 (codes "i32.atomic.load i64.atomic.load i32.atomic.load8_u i32.atomic.load16_u i64.atomic.load8_u i64.atomic.load16_u")
    ++ from 0xfe0016 (codes "i64.atomic.load32_u i32.atomic.store i64.atomic.store i32.atomic.store8 i32.atomic.store16 i64.atomic.store8")
    ++ from 0xfe001c (codes "i64.atomic.store16 i64.atomic.store32 i32.atomic.rmw.add i64.atomic.rmw.add i32.atomic.rmw8.add_u i32.atomic.rmw16.add_u")
    ++ from 0xfe0022 (codes "i64.atomic.rmw8.add_u i64.atomic.rmw16.add_u i64.atomic.rmw32.add_u i32.atomic.rmw.sub i64.atomic.rmw.sub")
    ++ from 0xfe0027 (codes "i32.atomic.rmw8.sub_u i32.atomic.rmw16.sub_u i64.atomic.rmw8.sub_u i64.atomic.rmw16.sub_u i64.atomic.rmw32.sub_u")
    ++ from 0xfe002c (codes "i32.atomic.rmw.and i64.atomic.rmw.and i32.atomic.rmw8.and_u i32.atomic.rmw16.and_u i64.atomic.rmw8.and_u")
    ++ from 0xfe0031 (codes "i64.atomic.rmw16.and_u i64.atomic.rmw32.and_u i32.atomic.rmw.or i64.atomic.rmw.or i32.atomic.rmw8.or_u i32.atomic.rmw16.or_u")
    ++ from 0xfe0037 (codes "i64.atomic.rmw8.or_u i64.atomic.rmw16.or_u i64.atomic.rmw32.or_u i32.atomic.rmw.xor i64.atomic.rmw.xor i32.atomic.rmw8.xor_u")
    ++ from 0xfe003d (codes "i32.atomic.rmw16.xor_u i64.atomic.rmw8.xor_u i64.atomic.rmw16.xor_u i64.atomic.rmw32.xor_u i32.atomic.rmw.xchg")
    ++ from 0xfe0042 (codes "i64.atomic.rmw.xchg i32.atomic.rmw8.xchg_u i32.atomic.rmw16.xchg_u i64.atomic.rmw8.xchg_u i64.atomic.rmw16.xchg_u")
    ++ from 0xfe0047 (codes "i64.atomic.rmw32.xchg_u i32.atomic.rmw.cmpxchg i64.atomic.rmw.cmpxchg i32.atomic.rmw8.cmpxchg_u i32.atomic.rmw16.cmpxchg_u")
    ++ from 0xfe004c (codes "i64.atomic.rmw8.cmpxchg_u i64.atomic.rmw16.cmpxchg_u i64.atomic.rmw32.cmpxchg_u")

-- the texts and keys of the table of instructions
abbrev pub rows : List (List ℕ × ℕ)
rows = map row_of_plain plains
    ++ map (λ op. ((row_of_mem op).0, (row_of_mem op).1)) (each mems.enum)
    ++ map row_of_lane (each lanes.enum)
    ++ map (λ op. ((row_of_mem_lane op).0, (row_of_mem_lane op).1)) (each mem_lanes.enum)
    ++ map row_of_index (each indices.enum)

abbrev pub key_in : List (List ℕ × ℕ) → List ℕ → Option ℕ
key_in list word = lookup (λ text. bytes_eq text word) list

-- Each instruction of the table has the key that this list has for its text.
abbrev pub AreStandard : Type 0
AreStandard = map (λ row. key_in standard row.0) rows ≡ map (λ row. Some row.1) rows
