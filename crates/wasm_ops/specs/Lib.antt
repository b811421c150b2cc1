-- The definitions of the binary format below sections: numbers, types and instructions.
--
-- - Leb128, Opcodes, Keys, Table: numbers, opcodes, and the opcode table. Codes: encodings that determine their value.
-- - Spelling, Entities, Control, Memargs: the encodings of types, block types and memory arguments. Covered: which types the
--   encoder supports.
-- - PlainInstrs, IndexInstrs, ConstantInstrs, MemoryInstrs, SelectInstrs, ControlInstrs, VectorInstrs, CastInstrs: instructions
--   by kinds of immediates. ConstExprs, Turns: constant expressions and balanced blocks.
-- - Sinks, SinkLaws, Rooms: destinations of bytes.
pub mod CastInstrs
pub mod Codes
pub mod ConstExprs
pub mod ConstantInstrs
pub mod Control
pub mod ControlInstrs
pub mod Entities
pub mod IndexInstrs
pub mod Keys
pub mod Leb128
pub mod Memargs
pub mod MemoryInstrs
pub mod Opcodes
pub mod PlainInstrs
pub mod Rooms
pub mod SelectInstrs
pub mod SinkLaws
pub mod Sinks
pub mod Spelling
pub mod Table
pub mod Turns
pub mod VectorInstrs
