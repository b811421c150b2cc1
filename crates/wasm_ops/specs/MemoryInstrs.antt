-- Loads and stores: the row of the table that each of the tree stands for (binary format, memory instructions).
use Rattle.std.specs.Prelude.{[], ◌∷◌}
use Rattle.wasm_ops.specs.Keys.{mem_key}
use Rattle.wasm_ops.specs.Opcodes.{opcode_of}
use Rattle.wasm_ops.specs.Table.{Memarg, Instr}
use Rattle.wasm_ops.specs.declared.memargs.MemArg.{MemArg}
use Rattle.wast_base.specs.declared.mem_ops.MemOp.{MemOp}

-- a load or a store
abbrev pub mem_instr : MemOp → MemArg → Instr
mem_instr op memarg = record { row = record { opcode = opcode_of (mem_key op); kinds = Memarg ∷ [] }; numbers = (memarg, tt) }
