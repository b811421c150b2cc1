-- Data segments with any type of offset, as `DataSegment` has them (binary format: data section).
--
-- The offset is given by a function to bytes, because callers keep expressions in types of their own. For example,
-- `Active 0` with the offset bytes 41 01 0b and the data "ab" is 00 41 01 0b 02 61 62.
use Rattle.std.specs.Prelude.{ℕ, Bool, true, List}
use Rattle.wasm_ops.specs.Spelling.{InRangeU32}
use Rattle.wasm_out.specs.declared.data_segments.DataMode.{DataMode}
use Rattle.wasm_out.specs.declared.data_segments.DataMode.TheVariants as mode
use Rattle.wasm_out.specs.DataSegments.{kept_bytes, placed_bytes}

-- The bytes of a segment, from the bytes of its offset.
abbrev pub data_in : {O : Type 0} → (O → List ℕ) → DataMode O → List ℕ → List ℕ
data_in spell mode.Passive bytes = kept_bytes bytes
data_in spell (mode.Active memory offset) bytes = placed_bytes memory (spell offset) bytes

-- The index of the memory and the offset are in range.
abbrev pub InRangeDataIn : {O : Type 0} → (O → Type 0) → DataMode O → Type 0
InRangeDataIn InRange mode.Passive = Unit {0}
InRangeDataIn InRange (mode.Active memory offset) = InRangeU32 memory × InRange offset

-- Whether the offset can be encoded.
abbrev pub is_ready_data : {O : Type 0} → (O → Bool) → DataMode O → Bool
is_ready_data is_ready mode.Passive = true
is_ready_data is_ready (mode.Active memory offset) = is_ready offset
