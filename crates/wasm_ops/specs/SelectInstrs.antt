-- The choice between two operands, with the types that are written with it or without: the rows of the table (binary format, parametric instructions).
use Rattle.std.specs.Prelude.{ℕ, Option, Some, None, List, [], ◌∷◌}
use Rattle.wasm_ops.specs.Opcodes.{opcode_of}
use Rattle.wasm_ops.specs.Table.{Types, Instr}
use Rattle.wasm_ops.specs.declared.types.ValType.{ValType}

-- a choice, and the types that are written with it
abbrev pub select_instr : Option (List ValType) → Instr
select_instr None = record { row = record { opcode = opcode_of 0x1b; kinds = [] }; numbers = tt }
select_instr (Some types) = record { row = record { opcode = opcode_of 0x1c; kinds = Types ∷ [] }; numbers = (types, tt) }

-- its bytes, by those of the types
abbrev pub select_bytes : Option (List ℕ) → List ℕ
select_bytes None = 0x1b ∷ []
select_bytes (Some types) = 0x1c ∷ types
