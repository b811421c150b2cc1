-- Block types and catch clauses (binary format: control instructions).
--
--   block_type (Result i32)       7f
--   catch_clause (All 3)          02 03: the kind of the clause, and the label
use Rattle.std.specs.Prelude.{[], ◌∷◌}
use Rattle.wasm_ops.specs.Spelling.{Encoding, fixed, u32, s33, byte_then, seq, val_type}
use Rattle.wasm_ops.specs.declared.blocks.BlockType.{BlockType}
use Rattle.wasm_ops.specs.declared.blocks.BlockType.TheVariants as block
use Rattle.wasm_ops.specs.declared.blocks.Catch.{Catch}
use Rattle.wasm_ops.specs.declared.blocks.Catch.TheVariants as catches

-- A block type: 40 if it is empty, the type of its result, or the index of a function type.
abbrev pub block_type : BlockType → Encoding
block_type block.Empty = fixed (0x40 ∷ [])
block_type (block.Result t) = val_type t
block_type (block.FunctionType index) = s33 index

-- A catch clause: its kind, its tag if it has one, and its label.
abbrev pub catch_clause : Catch → Encoding
catch_clause (catches.One tag label) = byte_then 0x00 (seq (u32 tag) (u32 label))
catch_clause (catches.OneRef tag label) = byte_then 0x01 (seq (u32 tag) (u32 label))
catch_clause (catches.All label) = byte_then 0x02 (u32 label)
catch_clause (catches.AllRef label) = byte_then 0x03 (u32 label)
