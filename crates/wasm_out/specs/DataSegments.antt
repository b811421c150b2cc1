-- Data segments (binary format: data section).
--
-- A passive segment is 01 and its bytes. An active one has the memory and the offset before the bytes. For example
-- (data (i32.const 8) "A") is 00 41 08 0b 01 41: the first memory has no index.
use Rattle.std.specs.Prelude.{ℕ, zero, suc, List, [], ◌∷◌, ◌++◌, length}
use Rattle.wasm_ops.specs.ConstExprs.{expression}
use Rattle.wasm_ops.specs.Leb128.{unsigned}
use Rattle.wasm_ops.specs.Spelling.{InRangeU32, Encoding, fixed, u32, seq}
use Rattle.wasm_ops.specs.Table.{Instr}

-- Where the bytes of a segment are: in no memory, or in a memory from an offset on.
pub data DataMode : Type 0 where
  Kept : DataMode
  Placed : ℕ → List Instr → DataMode

-- A data segment.
pub record DataEntry : Type 0 where
  pub mode : DataMode
  pub bytes : List ℕ

-- Bytes after their number.
abbrev pub counted_bytes : List ℕ → List ℕ
counted_bytes bytes = unsigned (length bytes) ++ bytes

-- The bytes of a passive segment.
abbrev pub kept_bytes : List ℕ → List ℕ
kept_bytes bytes = 0x01 ∷ counted_bytes bytes

-- The bytes of an active segment: the memory, the bytes of the offset, and the bytes.
abbrev pub placed_bytes : ℕ → List ℕ → List ℕ → List ℕ
placed_bytes zero offset bytes = 0x00 ∷ (offset ++ counted_bytes bytes)
placed_bytes (suc n) offset bytes = 0x02 ∷ (unsigned (suc n) ++ (offset ++ counted_bytes bytes))

-- The bytes of a segment.
abbrev pub data_bytes : DataMode → List ℕ → List ℕ
data_bytes Kept bytes = kept_bytes bytes
data_bytes (Placed memory offset) bytes = placed_bytes memory (expression offset).bytes bytes

-- The range and the support of the memory and the offset of a segment.
abbrev pub data_place : DataMode → Encoding
data_place Kept = fixed []
data_place (Placed memory offset) = seq (u32 memory) (expression offset)

-- A data segment.
abbrev pub data_entry : DataEntry → Encoding
data_entry d = record { bytes = data_bytes d.mode d.bytes; in_range = (data_place d.mode).in_range × InRangeU32 (length d.bytes); is_covered = (data_place d.mode).is_covered }

-- The constant expression in a data segment: its offset.
abbrev pub data_expressions : DataMode → List (List Instr)
data_expressions Kept = []
data_expressions (Placed memory offset) = offset ∷ []
