-- Instructions on vectors: the row of the table that each of the code stands for (binary format, vector instructions).
use Rattle.std.specs.Prelude.{ℕ, List, [], ◌∷◌}
use Rattle.wasm_ops.specs.Keys.{lane_key, mem_lane_key}
use Rattle.wasm_ops.specs.Opcodes.{opcode_of}
use Rattle.wasm_ops.specs.Table.{Memarg, Lane, Lanes, Instr}
use Rattle.wasm_ops.specs.declared.memargs.MemArg.{MemArg}
use Rattle.wasm_ops.specs.declared.vectors.LanesOp.{LanesOp}
use Rattle.wasm_ops.specs.declared.vectors.LanesOp.TheVariants as lanes
use Rattle.wast_base.specs.declared.lane_ops.LaneOp.{LaneOp}
use Rattle.wast_base.specs.declared.lane_ops.MemLaneOp.{MemLaneOp}

-- the key of an instruction with sixteen bytes
abbrev pub lanes_key : LanesOp → ℕ
lanes_key lanes.Const = 0xfd000c
lanes_key lanes.Shuffle = 0xfd000d

-- one with these bytes
abbrev pub lanes_instr : LanesOp → List ℕ → Instr
lanes_instr op bytes = record { row = record { opcode = opcode_of (lanes_key op); kinds = Lanes ∷ [] }; numbers = (bytes, tt) }

-- an instruction on a lane
abbrev pub lane_instr : LaneOp → ℕ → Instr
lane_instr op lane = record { row = record { opcode = opcode_of (lane_key op); kinds = Lane ∷ [] }; numbers = (lane, tt) }

-- a load or a store of a lane
abbrev pub mem_lane_instr : MemLaneOp → MemArg → ℕ → Instr
mem_lane_instr op memarg lane = record { row = record { opcode = opcode_of (mem_lane_key op); kinds = Memarg ∷ Lane ∷ [] }; numbers = (memarg, (lane, tt)) }
