-- The instructions of the code are rows of the table, and are spelled as these.
use Rattle.std.proofs.Common.{◌≡◌, ◌/◌, ◌%◌, ℕ, Bool, true, false, List, [], ◌∷◌, ◌++◌, Option, Some, None, Result, subst, append-nil, ap}
use Rattle.std.proofs.Common.{sym, refl, ◌∙◌, arith}
use Rattle.std.specs.List.{list_all}
use Rattle.std.specs.Option.{option_map, option_to_list}
use Rattle.std.specs.Prelude.{All, nat_lt}
use Rattle.std.proofs.lemmas.List.Elements.{All-nil, All-head}
use Rattle.wast_base.specs.declared.plain.BareOp.{BareOp}
use Rattle.wast_base.specs.declared.plain.BareOp.TheVariants as bare
use Rattle.wast_base.specs.declared.mem_ops.MemOp.{MemOp}
use Rattle.wast_base.specs.declared.mem_ops.MemOp.TheVariants as mem
use Rattle.wast_base.specs.declared.plain.I32Op.{I32Op}
use Rattle.wast_base.specs.declared.plain.I32Op.TheVariants as i32
use Rattle.wast_base.specs.declared.plain.I64Op.{I64Op}
use Rattle.wast_base.specs.declared.plain.I64Op.TheVariants as i64
use Rattle.wast_base.specs.declared.plain.F32Op.{F32Op}
use Rattle.wast_base.specs.declared.plain.F32Op.TheVariants as f32
use Rattle.wast_base.specs.declared.plain.F64Op.{F64Op}
use Rattle.wast_base.specs.declared.plain.F64Op.TheVariants as f64
use Rattle.wast_base.specs.declared.plain.RefOp.{RefOp}
use Rattle.wast_base.specs.declared.plain.RefOp.TheVariants as ref
use Rattle.wast_base.specs.declared.plain.ArrayOp.{ArrayOp}
use Rattle.wast_base.specs.declared.plain.ArrayOp.TheVariants as array
use Rattle.wast_base.specs.declared.plain.AnyOp.{AnyOp}
use Rattle.wast_base.specs.declared.plain.AnyOp.TheVariants as any
use Rattle.wast_base.specs.declared.plain.ExternOp.{ExternOp}
use Rattle.wast_base.specs.declared.plain.ExternOp.TheVariants as extern
use Rattle.wast_base.specs.declared.plain.I31Op.{I31Op}
use Rattle.wast_base.specs.declared.plain.I31Op.TheVariants as i31
use Rattle.wast_base.specs.declared.plain.I8x16Op.{I8x16Op}
use Rattle.wast_base.specs.declared.plain.I8x16Op.TheVariants as i8x16
use Rattle.wast_base.specs.declared.plain.I16x8Op.{I16x8Op}
use Rattle.wast_base.specs.declared.plain.I16x8Op.TheVariants as i16x8
use Rattle.wast_base.specs.declared.plain.I32x4Op.{I32x4Op}
use Rattle.wast_base.specs.declared.plain.I32x4Op.TheVariants as i32x4
use Rattle.wast_base.specs.declared.plain.I64x2Op.{I64x2Op}
use Rattle.wast_base.specs.declared.plain.I64x2Op.TheVariants as i64x2
use Rattle.wast_base.specs.declared.plain.F32x4Op.{F32x4Op}
use Rattle.wast_base.specs.declared.plain.F32x4Op.TheVariants as f32x4
use Rattle.wast_base.specs.declared.plain.F64x2Op.{F64x2Op}
use Rattle.wast_base.specs.declared.plain.F64x2Op.TheVariants as f64x2
use Rattle.wast_base.specs.declared.lane_ops.LaneOp.{LaneOp}
use Rattle.wast_base.specs.declared.lane_ops.LaneOp.TheVariants as lane
use Rattle.wast_base.specs.declared.plain.V128Op.{V128Op}
use Rattle.wast_base.specs.declared.plain.V128Op.TheVariants as v128
use Rattle.wast_base.specs.declared.lane_ops.MemLaneOp.{MemLaneOp}
use Rattle.wast_base.specs.declared.lane_ops.MemLaneOp.TheVariants as mem_lane
use Rattle.wast_base.specs.declared.plain.Plain.{Plain}
use Rattle.wast_base.specs.declared.plain.Plain.TheVariants as plain
use Rattle.wasm_ops.specs.declared.blocks.BlockType.{BlockType}
use Rattle.wasm_ops.specs.declared.blocks.Catch.{Catch}
use Rattle.wasm_ops.specs.declared.casts.BrCastOp.{BrCastOp}
use Rattle.wasm_ops.specs.declared.casts.CastOp.{CastOp}
use Rattle.wasm_ops.specs.declared.casts.CastOp.TheVariants as cast
use Rattle.wasm_ops.specs.declared.control.BlockOp.{BlockOp}
use Rattle.wasm_ops.specs.declared.control.Delimiter.{Delimiter}
use Rattle.wast_base.specs.declared.index_ops.IndexOp.{IndexOp}
use Rattle.wast_base.specs.declared.index_ops.IndexPairOp.{IndexPairOp}
use Rattle.wasm_ops.specs.declared.opcodes.Opcode.{Opcode}
use Rattle.wasm_ops.specs.declared.opcodes.Opcode.TheVariants.{Byte, Prefixed}
use Rattle.wasm_ops.specs.declared.ref_types.RefType.{RefType}
use Rattle.wasm_ops.specs.declared.sink.Refusal.{Refusal}
use Rattle.wasm_ops.specs.declared.types.ValType.{ValType}
use Rattle.wasm_ops.specs.declared.vectors.LanesOp.{LanesOp}
use Rattle.wasm_ops.specs.CastInstrs.{cast_key, br_cast_key, br_cast_instr, nullables}
use Rattle.wasm_ops.specs.Control.{block_type, catch_clause}
use Rattle.wasm_ops.specs.ControlInstrs.{block_key, delimiter_key, br_table_instr, br_table_bytes, try_table_instr, try_table_bytes}
use Rattle.wasm_ops.specs.Leb128.{unsigned}
use Rattle.wasm_ops.specs.Keys.{index_key, index_pair_key, mem_key, lane_key, mem_lane_key, plain_key}
use Rattle.wasm_ops.specs.Opcodes.{opcode_of, opcode_bytes, InRangeOpcode}
use Rattle.wasm_ops.specs.SelectInstrs.{select_instr, select_bytes}
use Rattle.wasm_ops.specs.Sinks.{SinkRules, Writes}
use Rattle.wasm_ops.specs.Spelling.{InRangeU32, vec, InRangeVec, heap_type, val_type}
use Rattle.wasm_ops.specs.Table.{Kind, Index, Signed32, Signed64, Bits32, Bits64, Heap, Memarg, Block, Labels, Catches, Lane, Lanes}
use Rattle.wasm_ops.specs.Table.{Nullables, Order, Field, kinds_of, table, Instr, HasRow, field, instr}
use Rattle.wasm_ops.specs.VectorInstrs.{lanes_key}
use Rattle.wasm_ops.proofs.Everywhere.{all_one}
use Rattle.wasm_ops.proofs.Sinking.{puts_as, written_as}

-- ---- rows

-- A variant stands first in each, so that the others are split.
bare_row : (op : BareOp) → kinds_of (opcode_of (plain_key (plain.Bare op))) table ≡ Some []
unfolding kinds_of table
bare_row bare.unreachable = refl
bare_row op = refl

pub mem_row : (op : MemOp) → kinds_of (opcode_of (mem_key op)) table ≡ Some (Memarg ∷ [])
unfolding kinds_of table
mem_row mem.i32_load = refl
mem_row op = refl

i32_row : (op : I32Op) → kinds_of (opcode_of (plain_key (plain.I32 op))) table ≡ Some []
unfolding kinds_of table
i32_row i32.i32_eqz = refl
i32_row op = refl

i64_row : (op : I64Op) → kinds_of (opcode_of (plain_key (plain.I64 op))) table ≡ Some []
unfolding kinds_of table
i64_row i64.i64_eqz = refl
i64_row op = refl

f32_row : (op : F32Op) → kinds_of (opcode_of (plain_key (plain.F32 op))) table ≡ Some []
unfolding kinds_of table
f32_row f32.f32_eq = refl
f32_row op = refl

f64_row : (op : F64Op) → kinds_of (opcode_of (plain_key (plain.F64 op))) table ≡ Some []
unfolding kinds_of table
f64_row f64.f64_eq = refl
f64_row op = refl

ref_row : (op : RefOp) → kinds_of (opcode_of (plain_key (plain.Ref op))) table ≡ Some []
unfolding kinds_of table
ref_row ref.ref_is_null = refl
ref_row op = refl

array_row : (op : ArrayOp) → kinds_of (opcode_of (plain_key (plain.Array op))) table ≡ Some []
unfolding kinds_of table
array_row array.array_len = refl

any_row : (op : AnyOp) → kinds_of (opcode_of (plain_key (plain.Any op))) table ≡ Some []
unfolding kinds_of table
any_row any.any_convert_extern = refl

extern_row : (op : ExternOp) → kinds_of (opcode_of (plain_key (plain.Extern op))) table ≡ Some []
unfolding kinds_of table
extern_row extern.extern_convert_any = refl

i31_row : (op : I31Op) → kinds_of (opcode_of (plain_key (plain.I31 op))) table ≡ Some []
unfolding kinds_of table
i31_row i31.i31_get_s = refl
i31_row op = refl

i8x16_row : (op : I8x16Op) → kinds_of (opcode_of (plain_key (plain.I8x16 op))) table ≡ Some []
unfolding kinds_of table
i8x16_row i8x16.i8x16_swizzle = refl
i8x16_row op = refl

i16x8_row : (op : I16x8Op) → kinds_of (opcode_of (plain_key (plain.I16x8 op))) table ≡ Some []
unfolding kinds_of table
i16x8_row i16x8.i16x8_splat = refl
i16x8_row op = refl

i32x4_row : (op : I32x4Op) → kinds_of (opcode_of (plain_key (plain.I32x4 op))) table ≡ Some []
unfolding kinds_of table
i32x4_row i32x4.i32x4_splat = refl
i32x4_row op = refl

i64x2_row : (op : I64x2Op) → kinds_of (opcode_of (plain_key (plain.I64x2 op))) table ≡ Some []
unfolding kinds_of table
i64x2_row i64x2.i64x2_splat = refl
i64x2_row op = refl

f32x4_row : (op : F32x4Op) → kinds_of (opcode_of (plain_key (plain.F32x4 op))) table ≡ Some []
unfolding kinds_of table
f32x4_row f32x4.f32x4_splat = refl
f32x4_row op = refl

f64x2_row : (op : F64x2Op) → kinds_of (opcode_of (plain_key (plain.F64x2 op))) table ≡ Some []
unfolding kinds_of table
f64x2_row f64x2.f64x2_splat = refl
f64x2_row op = refl

pub lane_row : (op : LaneOp) → kinds_of (opcode_of (lane_key op)) table ≡ Some (Lane ∷ [])
unfolding kinds_of table
lane_row lane.i8x16_extract_lane_s = refl
lane_row op = refl

v128_row : (op : V128Op) → kinds_of (opcode_of (plain_key (plain.V128 op))) table ≡ Some []
unfolding kinds_of table
v128_row v128.v128_not = refl
v128_row op = refl

pub mem_lane_row : (op : MemLaneOp) → kinds_of (opcode_of (mem_lane_key op)) table ≡ Some (Memarg ∷ Lane ∷ [])
unfolding kinds_of table
mem_lane_row mem_lane.v128_load8_lane = refl
mem_lane_row op = refl

pub plain_row : (p : Plain) → kinds_of (opcode_of (plain_key p)) table ≡ Some []
plain_row (plain.Bare op) = bare_row op
plain_row (plain.I32 op) = i32_row op
plain_row (plain.I64 op) = i64_row op
plain_row (plain.F32 op) = f32_row op
plain_row (plain.F64 op) = f64_row op
plain_row (plain.Ref op) = ref_row op
plain_row (plain.Array op) = array_row op
plain_row (plain.Any op) = any_row op
plain_row (plain.Extern op) = extern_row op
plain_row (plain.I31 op) = i31_row op
plain_row (plain.I8x16 op) = i8x16_row op
plain_row (plain.I16x8 op) = i16x8_row op
plain_row (plain.I32x4 op) = i32x4_row op
plain_row (plain.I64x2 op) = i64x2_row op
plain_row (plain.F32x4 op) = f32x4_row op
plain_row (plain.F64x2 op) = f64x2_row op
plain_row (plain.V128 op) = v128_row op

pub index_row : (op : IndexOp) → kinds_of (opcode_of (index_key op)) table ≡ Some (Index ∷ [])
unfolding kinds_of table
index_row op = grind (arith)

pub index_pair_row : (op : IndexPairOp) → kinds_of (opcode_of (index_pair_key op)) table ≡ Some (Index ∷ Index ∷ [])
unfolding kinds_of table
index_pair_row op = grind (arith)

pub lanes_row : (op : LanesOp) → kinds_of (opcode_of (lanes_key op)) table ≡ Some (Lanes ∷ [])
unfolding kinds_of table
lanes_row op = grind (arith)

pub cast_row : (op : CastOp) (nullable : Bool) → kinds_of (opcode_of (cast_key op nullable)) table ≡ Some (Heap ∷ [])
unfolding kinds_of table
cast_row cast.Test true = refl
cast_row cast.Test false = refl
cast_row cast.Cast true = refl
cast_row cast.Cast false = refl

pub br_cast_row : (op : BrCastOp) → kinds_of (opcode_of (br_cast_key op)) table ≡ Some (Nullables ∷ Index ∷ Heap ∷ Heap ∷ [])
unfolding kinds_of table
br_cast_row op = grind (arith)

pub fence_row : kinds_of (opcode_of 0xfe0003) table ≡ Some (Order ∷ [])
unfolding kinds_of table
fence_row = refl

pub i32_const_row : kinds_of (opcode_of 0x41) table ≡ Some (Signed32 ∷ [])
unfolding kinds_of table
i32_const_row = refl

pub i64_const_row : kinds_of (opcode_of 0x42) table ≡ Some (Signed64 ∷ [])
unfolding kinds_of table
i64_const_row = refl

pub f32_const_row : kinds_of (opcode_of 0x43) table ≡ Some (Bits32 ∷ [])
unfolding kinds_of table
f32_const_row = refl

pub f64_const_row : kinds_of (opcode_of 0x44) table ≡ Some (Bits64 ∷ [])
unfolding kinds_of table
f64_const_row = refl

pub ref_null_row : kinds_of (opcode_of 0xd0) table ≡ Some (Heap ∷ [])
unfolding kinds_of table
ref_null_row = refl

pub select_row : (types : Option (List ValType)) → HasRow (select_instr types)
unfolding kinds_of table
select_row None = refl
select_row (Some types) = refl

pub block_row : (op : BlockOp) → kinds_of (opcode_of (block_key op)) table ≡ Some (Block ∷ [])
unfolding kinds_of table
block_row op = grind (arith)

pub delimiter_row : (op : Delimiter) → kinds_of (opcode_of (delimiter_key op)) table ≡ Some []
unfolding kinds_of table
delimiter_row op = grind (arith)

pub br_table_row : kinds_of (opcode_of 0x0e) table ≡ Some (Labels ∷ Index ∷ [])
unfolding kinds_of table
br_table_row = refl

pub try_table_row : kinds_of (opcode_of 0x1f) table ≡ Some (Block ∷ Catches ∷ [])
unfolding kinds_of table
try_table_row = refl

-- ---- spellings

opcode_in_range : (key : ℕ) → InRangeOpcode (opcode_of key)
opcode_in_range key = within (nat_lt key 0x100)
  where
    within : (b : Bool) → InRangeOpcode (elim b as (λ _. Opcode) [ true ↦ Byte key | false ↦ Prefixed (key / 0x10000) (key % 0x10000) ])
    within true = tt
    within false = omega arith

-- an opcode of this key, before what follows
pub opcode_written : {S A : Type 0} (rules : SinkRules S) (a b : S) (opcode : Opcode) (key : ℕ) (InRange : Type 0) (bytes : List ℕ) (r : Result A Refusal)
    → opcode ≡ opcode_of key → Writes rules (InRangeOpcode opcode × InRange) a b (opcode_bytes opcode ++ bytes) r
    → Writes rules InRange a b (opcode_bytes (opcode_of key) ++ bytes) r
opcode_written rules a b opcode key InRange bytes r is p =
    puts_as rules (InRangeOpcode (opcode_of key) × InRange) InRange a b (opcode_bytes (opcode_of key) ++ bytes) r (λ h. h.1) (λ h. (opcode_in_range key, h))
    (subst (λ o. Writes rules (InRangeOpcode o × InRange) a b (opcode_bytes o ++ bytes) r) is p)

-- an opcode of this key, before nothing
pub plain_written : {S A : Type 0} (rules : SinkRules S) (a b : S) (opcode : Opcode) (key : ℕ) (r : Result A Refusal)
    → opcode ≡ opcode_of key → Writes rules (InRangeOpcode opcode) a b (opcode_bytes opcode) r
    → Writes rules (Unit {0}) a b (opcode_bytes (opcode_of key) ++ []) r
plain_written rules a b opcode key r is p =
    written_as rules (InRangeOpcode (opcode_of key)) (Unit {0}) a b (opcode_bytes (opcode_of key)) (opcode_bytes (opcode_of key) ++ []) r (λ h. tt)
    (λ h. opcode_in_range key) (sym (append-nil (opcode_bytes (opcode_of key))))
    (subst (λ o. Writes rules (InRangeOpcode o) a b (opcode_bytes o) r) is p)

-- what has one immediate, and what has two
abbrev one : ℕ → (kind : Kind) → Field kind → Instr
one key kind x = record { row = record { opcode = opcode_of key; kinds = kind ∷ [] }; numbers = (x, tt) }

abbrev two : ℕ → (kind other : Kind) → Field kind → Field other → Instr
two key kind other x y = record { row = record { opcode = opcode_of key; kinds = kind ∷ other ∷ [] }; numbers = (x, (y, tt)) }

pub one_written : {S A : Type 0} (rules : SinkRules S) (a b : S) (key : ℕ) (kind : Kind) (x : Field kind) (InRange : Type 0) (r : Result A Refusal)
    → (InRange → (field kind x).in_range) → ((field kind x).in_range → InRange)
    → Writes rules InRange a b (opcode_bytes (opcode_of key) ++ (field kind x).bytes) r
    → Writes rules (instr (one key kind x)).in_range a b (instr (one key kind x)).bytes r
one_written rules a b key kind x InRange r f g p =
    written_as rules InRange (instr (one key kind x)).in_range a b (opcode_bytes (opcode_of key) ++ (field kind x).bytes)
    (instr (one key kind x)).bytes r (λ h. (f h, tt)) (λ i. g i.0)
    (ap (λ bytes. opcode_bytes (opcode_of key) ++ bytes) (sym (append-nil (field kind x).bytes))) p

pub two_written : {S A : Type 0} (rules : SinkRules S) (a b : S) (key : ℕ) (kind other : Kind) (x : Field kind) (y : Field other) (InRange : Type 0)
    (r : Result A Refusal)
    → (InRange → (field kind x).in_range × (field other y).in_range) → ((field kind x).in_range × (field other y).in_range → InRange)
    → Writes rules InRange a b (opcode_bytes (opcode_of key) ++ ((field kind x).bytes ++ (field other y).bytes)) r
    → Writes rules (instr (two key kind other x y)).in_range a b (instr (two key kind other x y)).bytes r
two_written rules a b key kind other x y InRange r f g p =
    written_as rules InRange (instr (two key kind other x y)).in_range a b
    (opcode_bytes (opcode_of key) ++ ((field kind x).bytes ++ (field other y).bytes)) (instr (two key kind other x y)).bytes r
    (λ h. let both = f h in (both.0, (both.1, tt))) (λ i. g (i.0, i.1.0))
    (ap (λ bytes. opcode_bytes (opcode_of key) ++ ((field kind x).bytes ++ bytes)) (sym (append-nil (field other y).bytes))) p

-- a branch on a cast, by its flags, label and heap types
pub br_cast_written : {S A : Type 0} (rules : SinkRules S) (a b : S) (op : BrCastOp) (label : ℕ) (from to : RefType) (InRange : Type 0) (r : Result A Refusal)
    → (InRange → InRangeU32 label × ((heap_type from.heap_type).in_range × (heap_type to.heap_type).in_range))
    → (InRangeU32 label × ((heap_type from.heap_type).in_range × (heap_type to.heap_type).in_range) → InRange)
    → Writes rules InRange a b (opcode_bytes (opcode_of (br_cast_key op)) ++
    (nullables from.nullable to.nullable ∷ (unsigned label ++ ((heap_type from.heap_type).bytes ++ (heap_type to.heap_type).bytes)))) r
    → Writes rules (instr (br_cast_instr op label from to)).in_range a b (instr (br_cast_instr op label from to)).bytes r
br_cast_written rules a b op label from to InRange r f g p =
    let front = opcode_bytes (opcode_of (br_cast_key op)) in
    written_as rules InRange (instr (br_cast_instr op label from to)).in_range a b
    (front ++ (nullables from.nullable to.nullable ∷ (unsigned label ++ ((heap_type from.heap_type).bytes ++ (heap_type to.heap_type).bytes))))
    (instr (br_cast_instr op label from to)).bytes r
    (λ h. let is = f h in (tt, (is.0, (is.1.0, (is.1.1, tt))))) (λ i. g (i.1.0, (i.1.1.0, i.1.1.1.0)))
    (ap (λ bytes. front ++ (nullables from.nullable to.nullable ∷ (unsigned label ++ ((heap_type from.heap_type).bytes ++ bytes))))
    (sym (append-nil (heap_type to.heap_type).bytes))) p

-- ---- branches by a table, with what spells their labels, and blocks, with what spells their clauses

pub br_table_written : {S A : Type 0} (rules : SinkRules S) (a b : S) (labels : List ℕ) (default : ℕ) (bytes : List ℕ) (InRange : Type 0) (r : Result A Refusal)
    → bytes ≡ vec unsigned labels → (InRange → InRangeVec InRangeU32 labels) → (InRangeVec InRangeU32 labels → InRange)
    → Writes rules (InRange × InRangeU32 default) a b (br_table_bytes bytes default) r
    → Writes rules (instr (br_table_instr labels default)).in_range a b (instr (br_table_instr labels default)).bytes r
br_table_written rules a b labels default bytes InRange r same f g p =
    two_written rules a b 0x0e Labels Index labels default (InRange × InRangeU32 default) r (λ h. (f h.0, h.1)) (λ h. (g h.0, h.1))
    (subst (λ l. Writes rules (InRange × InRangeU32 default) a b (br_table_bytes l default) r) same p)

pub try_table_written : {S A : Type 0} (rules : SinkRules S) (a b : S) (ty : BlockType) (clauses : List Catch) (bytes : List ℕ) (InRange : Type 0)
    (r : Result A Refusal)
    → bytes ≡ vec (λ x. (catch_clause x).bytes) clauses → (InRange → InRangeVec (λ x. (catch_clause x).in_range) clauses)
    → (InRangeVec (λ x. (catch_clause x).in_range) clauses → InRange)
    → Writes rules ((block_type ty).in_range × InRange) a b (try_table_bytes ty bytes) r
    → Writes rules (instr (try_table_instr ty clauses)).in_range a b (instr (try_table_instr ty clauses)).bytes r
try_table_written rules a b ty clauses bytes InRange r same f g p =
    two_written rules a b 0x1f Block Catches ty clauses ((block_type ty).in_range × InRange) r (λ h. (h.0, f h.1)) (λ h. (h.0, g h.1))
    (subst (λ l. Writes rules ((block_type ty).in_range × InRange) a b (try_table_bytes ty l) r) same p)

-- ---- choices, with what spells their types

pub select_written : {S A X : Type 0} (rules : SinkRules S) (spell : X → List ℕ) (InRange : X → Type 0) (types : X → List ValType) (a b : S)
    (o : Option X) (r : Result A Refusal)
    → ((x : X) → spell x ≡ vec (λ x. (val_type x).bytes) (types x)) → ((x : X) → InRange x → InRangeVec (λ x. (val_type x).in_range) (types x))
    → ((x : X) → InRangeVec (λ x. (val_type x).in_range) (types x) → InRange x)
    → Writes rules (All InRange (option_to_list o)) a b (select_bytes (option_map spell o)) r
    → Writes rules (instr (select_instr (option_map types o))).in_range a b (instr (select_instr (option_map types o))).bytes r
select_written rules spell InRange types a b None r same f g p =
    puts_as rules (All InRange []) (Unit {0}) a b (0x1b ∷ []) r (λ h. tt) (λ h. All-nil InRange) p
select_written rules spell InRange types a b (Some x) r same f g p =
    written_as rules (All InRange (x ∷ [])) (instr (select_instr (Some (types x)))).in_range a b (0x1c ∷ spell x)
    (instr (select_instr (Some (types x)))).bytes r
    (λ h. (f x (All-head InRange x [] h), tt)) (λ i. all_one InRange x (g x i.0))
    (ap (λ bytes. 0x1c ∷ bytes) (same x ∙ sym (append-nil (vec (λ x. (val_type x).bytes) (types x))))) p

-- the same of what holds value types
pub lists_covered : {X : Type 0} (types : X → List ValType) (o : Option X)
    → list_all (λ x. list_all (λ x. (val_type x).is_covered) (types x)) (option_to_list o) ≡ true
    → (instr (select_instr (option_map types o))).is_covered ≡ true
lists_covered types None h = refl
lists_covered types (Some x) h = h
