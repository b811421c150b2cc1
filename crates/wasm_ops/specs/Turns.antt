-- The effect of an instruction on the enclosing blocks: it opens a block, closes one, or neither (binary format:
-- control instructions, expressions).
--
-- A constant expression needs lists of instructions whose blocks are all closed, because its end is the first `end`
-- outside of all blocks.
--
--   turn_of (block)      Opens None
--   turn_of (end)        Closes
--   are_balanced [block, end]     true
--   are_balanced [end, block]     false
use Rattle.std.specs.Prelude.{ℕ, ◌==◌, ◌||◌, Bool, true, false, None, List, map}
use Rattle.wasm_ops.specs.Table.{Instr}
use Rattle.wasm_ops.specs.declared.opcodes.Opcode.{Opcode}
use Rattle.wasm_ops.specs.declared.opcodes.Opcode.TheVariants.{Byte, Prefixed}
use Rattle.wast_base.specs.Blocks.{BlockEffect, Opens, Closes, Stays, is_balanced}

-- The instructions block, loop, if, try and try_table open a block.
abbrev pub is_opener : ℕ → Bool
is_opener key = key == 0x02 || (key == 0x03 || (key == 0x04 || (key == 0x06 || key == 0x1f)))

-- The instructions end and delegate close a block.
abbrev pub is_closer : ℕ → Bool
is_closer key = key == 0x0b || key == 0x18

-- The effect, by whether an instruction opens a block and whether it closes one.
abbrev pub turn_by : Bool → Bool → BlockEffect
turn_by true closer = Opens None
turn_by false true = Closes
turn_by false false = Stays

-- The effect of an opcode. No opcode after a prefix byte opens or closes a block.
abbrev pub opcode_turn : Opcode → BlockEffect
opcode_turn (Byte b) = turn_by (is_opener b) (is_closer b)
opcode_turn (Prefixed p n) = Stays

-- The effect of an instruction.
abbrev pub turn_of : Instr → BlockEffect
turn_of i = opcode_turn i.row.opcode

-- No instruction closes a block before it is opened, and each block is closed.
abbrev pub are_balanced : List Instr → Bool
are_balanced is = is_balanced (map turn_of is)
