-- Instructions with one index or two numbers: the row of the table that each of the code stands for (binary format, instructions).
use Rattle.std.specs.Prelude.{ℕ, [], ◌∷◌}
use Rattle.wasm_ops.specs.Keys.{index_key, index_pair_key}
use Rattle.wasm_ops.specs.Opcodes.{opcode_of}
use Rattle.wasm_ops.specs.Table.{Index, Instr}
use Rattle.wast_base.specs.declared.index_ops.IndexOp.{IndexOp}
use Rattle.wast_base.specs.declared.index_ops.IndexPairOp.{IndexPairOp}

-- an instruction with an index
abbrev pub index_instr : IndexOp → ℕ → Instr
index_instr op index = record { row = record { opcode = opcode_of (index_key op); kinds = Index ∷ [] }; numbers = (index, tt) }

-- an instruction with two indices, or with an index and a length, in the order in which they are written
abbrev pub index_pair_instr : IndexPairOp → ℕ → ℕ → Instr
index_pair_instr op first second = record { row = record { opcode = opcode_of (index_pair_key op); kinds = Index ∷ Index ∷ [] }; numbers = (first, (second, tt)) }
