-- Instructions without immediates: the row of the table that each of the tree stands for (binary format, instructions).
use Rattle.std.specs.Prelude.{[]}
use Rattle.wasm_ops.specs.Keys.{plain_key}
use Rattle.wasm_ops.specs.Opcodes.{opcode_of}
use Rattle.wasm_ops.specs.Table.{Instr}
use Rattle.wast_base.specs.declared.plain.Plain.{Plain}

-- an instruction without immediates
abbrev pub plain_instr : Plain → Instr
plain_instr p = record { row = record { opcode = opcode_of (plain_key p); kinds = [] }; numbers = tt }
