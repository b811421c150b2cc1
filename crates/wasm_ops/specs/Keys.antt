-- The key of each instruction: its opcode as one number (binary format: instructions). tools/ops writes this file.
--
-- The rows of wat_grammar have the keys of most. Those with two indices have them here, because their words say more than their text.
--
--   index_key index.Call                0x10
--   index_pair_key index_pair.MemoryCopy     0xfc000a
use Rattle.std.specs.Prelude.{ℕ}
use Rattle.wast_base.specs.declared.plain.Plain.{Plain}
use Rattle.wast_base.specs.declared.mem_ops.MemOp.{MemOp}
use Rattle.wast_base.specs.declared.lane_ops.LaneOp.{LaneOp}
use Rattle.wast_base.specs.declared.lane_ops.MemLaneOp.{MemLaneOp}
use Rattle.wast_base.specs.declared.index_ops.IndexOp.{IndexOp}
use Rattle.wast_base.specs.declared.index_ops.IndexPairOp.{IndexPairOp}
use Rattle.wast_base.specs.declared.index_ops.IndexPairOp.TheVariants as index_pair
use Rattle.wat_grammar.specs.InstrRows.{row_of_plain, row_of_mem, row_of_lane, row_of_mem_lane, row_of_index}

-- the key of an instruction without immediates
abbrev pub plain_key : Plain → ℕ
plain_key op = (row_of_plain op).1

-- the key of an instruction with a memory argument
abbrev pub mem_key : MemOp → ℕ
mem_key op = (row_of_mem op).1

-- the key of an instruction on a lane of a vector
abbrev pub lane_key : LaneOp → ℕ
lane_key op = (row_of_lane op).1

-- the key of a load of a lane of a vector, or a store of one
abbrev pub mem_lane_key : MemLaneOp → ℕ
mem_lane_key op = (row_of_mem_lane op).1

-- the key of an instruction with an index
abbrev pub index_key : IndexOp → ℕ
index_key op = (row_of_index op).1

-- the key of an instruction with two indices
abbrev pub index_pair_key : IndexPairOp → ℕ
index_pair_key index_pair.CallIndirect = 0x11
index_pair_key index_pair.ReturnCallIndirect = 0x13
index_pair_key index_pair.StructGet = 0xfb0002
index_pair_key index_pair.StructGetS = 0xfb0003
index_pair_key index_pair.StructGetU = 0xfb0004
index_pair_key index_pair.StructSet = 0xfb0005
index_pair_key index_pair.ArrayNewFixed = 0xfb0008
index_pair_key index_pair.ArrayNewData = 0xfb0009
index_pair_key index_pair.ArrayNewElem = 0xfb000a
index_pair_key index_pair.ArrayCopy = 0xfb0011
index_pair_key index_pair.ArrayInitData = 0xfb0012
index_pair_key index_pair.ArrayInitElem = 0xfb0013
index_pair_key index_pair.MemoryInit = 0xfc0008
index_pair_key index_pair.MemoryCopy = 0xfc000a
index_pair_key index_pair.TableInit = 0xfc000c
index_pair_key index_pair.TableCopy = 0xfc000e
