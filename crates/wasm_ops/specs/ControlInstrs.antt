-- Blocks, their delimiters, branches by a table and blocks that catch: the row of the table that each of the code stands for (binary format, control instructions).
use Rattle.std.specs.Prelude.{ℕ, List, [], ◌∷◌, ◌++◌}
use Rattle.wasm_ops.specs.Control.{block_type}
use Rattle.wasm_ops.specs.Leb128.{unsigned}
use Rattle.wasm_ops.specs.Opcodes.{opcode_of}
use Rattle.wasm_ops.specs.Table.{Index, Block, Labels, Catches, Instr}
use Rattle.wasm_ops.specs.declared.blocks.BlockType.{BlockType}
use Rattle.wasm_ops.specs.declared.blocks.Catch.{Catch}
use Rattle.wasm_ops.specs.declared.control.BlockOp.{BlockOp}
use Rattle.wasm_ops.specs.declared.control.BlockOp.TheVariants as blocks
use Rattle.wasm_ops.specs.declared.control.Delimiter.{Delimiter}
use Rattle.wasm_ops.specs.declared.control.Delimiter.TheVariants as delimiter

-- the key of an instruction that opens a block
abbrev pub block_key : BlockOp → ℕ
block_key blocks.Block = 0x02
block_key blocks.Loop = 0x03
block_key blocks.If = 0x04
block_key blocks.Try = 0x06

-- one that opens a block of a type
abbrev pub block_instr : BlockOp → BlockType → Instr
block_instr op ty = record { row = record { opcode = opcode_of (block_key op); kinds = Block ∷ [] }; numbers = (ty, tt) }

-- the key of what stands between the parts of a block, or at its end
abbrev pub delimiter_key : Delimiter → ℕ
delimiter_key delimiter.Else = 0x05
delimiter_key delimiter.End = 0x0b

-- one of these
abbrev pub delimiter_instr : Delimiter → Instr
delimiter_instr op = record { row = record { opcode = opcode_of (delimiter_key op); kinds = [] }; numbers = tt }

-- a branch to the label at an index, or to another where there is none
abbrev pub br_table_instr : List ℕ → ℕ → Instr
br_table_instr labels default = record { row = record { opcode = opcode_of 0x0e; kinds = Labels ∷ Index ∷ [] }; numbers = (labels, (default, tt)) }

-- its bytes, by those of the labels
abbrev pub br_table_bytes : List ℕ → ℕ → List ℕ
br_table_bytes labels default = 0x0e ∷ (labels ++ unsigned default)

-- a block of a type with clauses that catch exceptions
abbrev pub try_table_instr : BlockType → List Catch → Instr
try_table_instr ty clauses = record { row = record { opcode = opcode_of 0x1f; kinds = Block ∷ Catches ∷ [] }; numbers = (ty, (clauses, tt)) }

-- its bytes, by those of the clauses
abbrev pub try_table_bytes : BlockType → List ℕ → List ℕ
try_table_bytes ty clauses = 0x1f ∷ ((block_type ty).bytes ++ clauses)
