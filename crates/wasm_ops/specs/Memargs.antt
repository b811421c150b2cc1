-- Memory arguments and memory orders (binary format: memory instructions).
--
-- A memory argument has an alignment, a memory and an offset. The first memory has no index: align=4 offset=8 is 02 08,
-- and the same in memory 1 is 42 01 08, because 64 is added to the exponent of the alignment.
use Rattle.std.specs.Prelude.{ℕ, ◌+◌, ◌<◌, Bool, true, false, ◌&&◌, nat_eq, nat_lt, is_none, List, ◌++◌}
use Rattle.wasm_ops.specs.Leb128.{unsigned}
use Rattle.wasm_ops.specs.Spelling.{InRangeU32, InRangeU64, Encoding}
use Rattle.wasm_ops.specs.declared.memargs.Ordering.{Ordering}
use Rattle.wasm_ops.specs.declared.memargs.Ordering.TheVariants.{SeqCst, AcqRel}
use Rattle.wasm_ops.specs.declared.memargs.MemArgOrdering.{MemArgOrdering}
use Rattle.wasm_ops.specs.declared.memargs.MemArg.{MemArg}
use Rattle.wasm_ops.specs.declared.memargs.MemArgTarget.{MemArgTarget}
use Rattle.wasm_ops.specs.declared.memargs.MemArgTarget.TheVariants.{Memory, Array}

-- The byte of a memory order.
abbrev pub ordering_byte : Ordering → ℕ
ordering_byte SeqCst = 0x00
ordering_byte AcqRel = 0x01

-- Whether the encoder supports a memory order: only sequential consistency.
abbrev pub is_covered_ordering : Ordering → Bool
is_covered_ordering SeqCst = true
is_covered_ordering AcqRel = false

-- Whether the encoder supports an order in a memory argument: it supports none.
abbrev pub is_covered_memarg_ordering : MemArgOrdering → Bool
is_covered_memarg_ordering o = false

-- The index of the memory, or of the type of an array.
abbrev pub index_of : MemArgTarget → ℕ
index_of (Memory index) = index
index_of (Array index) = index

-- Whether the encoder supports the target of a memory argument: a memory, but not an array.
abbrev pub is_covered_target : MemArgTarget → Bool
is_covered_target (Memory index) = true
is_covered_target (Array index) = false

-- The bytes of a memory argument: whether it is of the first memory, the exponent of its alignment, the memory, the offset.
abbrev pub memarg_bytes : Bool → ℕ → ℕ → ℕ → List ℕ
memarg_bytes true align memory offset = unsigned align ++ unsigned offset
memarg_bytes false align memory offset = unsigned (align + 64) ++ (unsigned memory ++ unsigned offset)

-- Whether the exponent of the alignment is below 64.
abbrev pub is_aligned : MemArg → Bool
is_aligned m = nat_lt m.align 64

-- A memory argument. It is supported if its target is a memory and it has no order.
abbrev pub memarg : MemArg → Encoding
memarg m = record { bytes = memarg_bytes (nat_eq (index_of m.target) 0) m.align (index_of m.target) m.offset; in_range = (m.align < 64) × (InRangeU32 (index_of m.target) × InRangeU64 m.offset); is_covered = is_covered_target m.target && is_none m.ordering }
