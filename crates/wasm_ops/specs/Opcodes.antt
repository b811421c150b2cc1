-- Opcodes: one byte, or a prefix byte and a number (binary format: instructions).
--
-- A key is an opcode as one number.
--
--   opcode_of 0x1a         Byte 0x1a: drop
--   opcode_of 0xfc0008     Prefixed 0xfc 8: memory.init, with the bytes fc 08
use Rattle.std.specs.Prelude.{ℕ, ◌/◌, ◌%◌, Bool, true, false, ◌&&◌, nat_eq, nat_lt, List, [], ◌∷◌}
use Rattle.wasm_ops.specs.Leb128.{unsigned}
use Rattle.wasm_ops.specs.Spelling.{InRangeU32}
use Rattle.wasm_ops.specs.declared.opcodes.Opcode.{Opcode}
use Rattle.wasm_ops.specs.declared.opcodes.Opcode.TheVariants.{Byte, Prefixed}

-- The opcode of a key: the byte, or the prefix is the key / 65536 and the number is the rest.
abbrev pub opcode_of : ℕ → Opcode
opcode_of key = elim (nat_lt key 0x100) [ true ↦ Byte key | false ↦ Prefixed (key / 0x10000) (key % 0x10000) ]

-- The bytes of an opcode: the number after a prefix is in LEB128.
abbrev pub opcode_bytes : Opcode → List ℕ
opcode_bytes (Byte b) = b ∷ []
opcode_bytes (Prefixed p n) = p ∷ unsigned n

-- The number after a prefix has at most 32 bits.
abbrev pub InRangeOpcode : Opcode → Type 0
InRangeOpcode (Byte b) = Unit {0}
InRangeOpcode (Prefixed p n) = InRangeU32 n

-- Whether two opcodes are equal.
abbrev pub same_opcode : Opcode → Opcode → Bool
same_opcode (Byte a) (Byte b) = nat_eq a b
same_opcode (Prefixed p m) (Prefixed q n) = nat_eq p q && nat_eq m n
same_opcode k l = false

-- Whether an opcode of one byte is not a prefix byte: prefix bytes are 0xfb and above.
abbrev pub is_apart : Opcode → Bool
is_apart (Byte b) = nat_lt b 0xfb
is_apart (Prefixed p n) = nat_lt 0xfa p
