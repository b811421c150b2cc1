-- Constant expressions (binary format: expressions).
--
-- A constant expression is a list of balanced instructions and an `end`. For example (i32.const 1) is 41 01 0b. The first
-- `end` outside all blocks ends it, so that it can be read without its length.
use Rattle.std.specs.Prelude.{◌≡◌, ℕ, List, All, IsTrue}
use Rattle.wasm_ops.specs.Spelling.{Encoding, then_byte, items_of}
use Rattle.wasm_ops.specs.Table.{Instr, instr, instrs, HasRow, IsInstr}
use Rattle.wasm_ops.specs.Turns.{are_balanced}

-- A constant expression: its instructions, and 0b.
abbrev pub expression : List Instr → Encoding
expression is = then_byte (items_of instr is) 0x0b

-- Each of its instructions has an entry in the opcode table.
abbrev pub HasRowsExpression : List Instr → Type 0
HasRowsExpression is = All HasRow is

-- Its blocks are balanced.
abbrev pub IsBalancedExpression : List Instr → Type 0
IsBalancedExpression is = IsTrue (are_balanced is)

-- A constant expression that can be written, and read back.
pub record IsExpression (is : List Instr) : Type 0 where
  pub instrs : All IsInstr is
  pub balanced : IsBalancedExpression is

-- The bytes are the encoding of the instructions of a constant expression, without the final `end`.
pub record SpellsExpression (bytes : List ℕ) : Type 0 where
  pub list : List Instr
  pub in_range : IsExpression list
  pub spelled : bytes ≡ instrs list
