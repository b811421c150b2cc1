-- Instructions that give a constant: the row of the table that each of the code stands for (binary format, instructions).
use Rattle.std.specs.Prelude.{ℕ, ℤ, [], ◌∷◌}
use Rattle.wasm_ops.specs.Opcodes.{opcode_of}
use Rattle.wasm_ops.specs.Table.{Signed32, Signed64, Bits32, Bits64, Heap, Instr}
use Rattle.wasm_ops.specs.declared.ref_types.HeapType.{HeapType}

-- an integer
abbrev pub i32_const_instr : ℤ → Instr
i32_const_instr z = record { row = record { opcode = opcode_of 0x41; kinds = Signed32 ∷ [] }; numbers = (z, tt) }

-- an integer of 64 bits
abbrev pub i64_const_instr : ℤ → Instr
i64_const_instr z = record { row = record { opcode = opcode_of 0x42; kinds = Signed64 ∷ [] }; numbers = (z, tt) }

-- a floating-point number, by the number of its bits
abbrev pub f32_const_instr : ℕ → Instr
f32_const_instr bits = record { row = record { opcode = opcode_of 0x43; kinds = Bits32 ∷ [] }; numbers = (bits, tt) }

-- a floating-point number of 64 bits, by the number of its bits
abbrev pub f64_const_instr : ℕ → Instr
f64_const_instr bits = record { row = record { opcode = opcode_of 0x44; kinds = Bits64 ∷ [] }; numbers = (bits, tt) }

-- a null reference of a heap type
abbrev pub ref_null_instr : HeapType → Instr
ref_null_instr h = record { row = record { opcode = opcode_of 0xd0; kinds = Heap ∷ [] }; numbers = (h, tt) }
