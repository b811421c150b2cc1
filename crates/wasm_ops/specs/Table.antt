-- Instructions: the opcode table, and the encoding of an instruction with its immediates (binary format:
-- instructions).
--
-- An entry of the table has an opcode and the kinds of its immediates. It is one list, so that all definitions about
-- instructions are functions of the kinds, and a new instruction adds one entry.
--
--   keyed (Index ∷ []) (map index_key (each indices.enum))      the entries of all instructions with an index
--   instr (call with 3)                                         10 03
use Rattle.std.specs.Prelude.{◌≡◌, ℕ, ◌+◌, ◌*◌, ℤ, Bool, true, false, Option, Some, None, is_none, List, [], ◌∷◌, ◌++◌, map, length, All, IsTrue}
use Rattle.std.specs.Int.{w32, w64, to_le_bytes}
use Rattle.std.specs.List.{flat_map}
use Rattle.wasm_ops.specs.Control.{block_type, catch_clause}
use Rattle.wasm_ops.specs.Entities.{bit}
use Rattle.wasm_ops.specs.Keys.{plain_key, index_key, index_pair_key, mem_key, lane_key, mem_lane_key}
use Rattle.wasm_ops.specs.Leb128.{signed}
use Rattle.wasm_ops.specs.Memargs.{ordering_byte, is_covered_ordering, memarg}
use Rattle.wasm_ops.specs.Opcodes.{opcode_of, opcode_bytes, same_opcode, is_apart}
use Rattle.wasm_ops.specs.Spelling.{InRangeU32, InRangeU64, InRangeS32, InRangeS64, Encoding, within, fixed, u32, respelled, seq, list_of, always, heap_type, val_type}
use Rattle.wasm_ops.specs.declared.blocks.BlockType.{BlockType}
use Rattle.wasm_ops.specs.declared.blocks.Catch.{Catch}
use Rattle.wasm_ops.specs.declared.memargs.MemArg.{MemArg}
use Rattle.wasm_ops.specs.declared.memargs.Ordering.{Ordering}
use Rattle.wasm_ops.specs.declared.opcodes.Opcode.{Opcode}
use Rattle.wasm_ops.specs.declared.ref_types.HeapType.{HeapType}
use Rattle.wasm_ops.specs.declared.types.ValType.{ValType}
use Rattle.wast_base.specs.contracts.index_ops.IndexOp as indices
use Rattle.wast_base.specs.contracts.index_ops.IndexPairOp as index_pairs
use Rattle.wast_base.specs.contracts.lane_ops.LaneOp as lanes
use Rattle.wast_base.specs.contracts.lane_ops.MemLaneOp as mem_lanes
use Rattle.wast_base.specs.contracts.mem_ops.MemOp as mems
use Rattle.wat_grammar.specs.Each.{each}
use Rattle.wat_grammar.specs.InstrRows.{plains}

-- The kinds of immediates: an index, signed numbers, bits of floating-point numbers, a heap type, value types, a
-- memory argument, a block type, labels, catch clauses, a lane number, sixteen bytes or lane numbers, the nullability
-- of two types, an ordering.
pub data Kind : Type 0 where
  Index : Kind
  Signed32 : Kind
  Signed64 : Kind
  Bits32 : Kind
  Bits64 : Kind
  Heap : Kind
  Types : Kind
  Memarg : Kind
  Block : Kind
  Labels : Kind
  Catches : Kind
  Lane : Kind
  Lanes : Kind
  Nullables : Kind
  Order : Kind

-- An entry: an opcode, and the kinds of its immediates.
pub record Row : Type 0 where
  pub opcode : Opcode
  pub kinds : List Kind

-- The type of an immediate.
abbrev pub Field : Kind → Type 0
Field Index = ℕ
Field Signed32 = ℤ
Field Signed64 = ℤ
Field Bits32 = ℕ
Field Bits64 = ℕ
Field Heap = HeapType
Field Types = List ValType
Field Memarg = MemArg
Field Block = BlockType
Field Labels = List ℕ
Field Catches = List Catch
Field Lane = ℕ
Field Lanes = List ℕ
Field Nullables = Bool × Bool
Field Order = Ordering

-- An immediate. There are 16 lane numbers.
abbrev pub field : (kind : Kind) → Field kind → Encoding
field Index n = u32 n
field Signed32 z = within (InRangeS32 z) (signed z)
field Signed64 z = within (InRangeS64 z) (signed z)
field Bits32 n = within (InRangeU32 n) (to_le_bytes w32 n)
field Bits64 n = within (InRangeU64 n) (to_le_bytes w64 n)
field Heap h = heap_type h
field Types ts = list_of val_type ts
field Memarg m = memarg m
field Block b = block_type b
field Labels ls = always (list_of u32 ls)
field Catches cs = always (list_of catch_clause cs)
field Lane n = fixed (n ∷ [])
field Lanes ls = within (length ls ≡ 16) ls
field Nullables p = fixed ((bit p.0 + 2 * bit p.1) ∷ [])
field Order o = record { bytes = ordering_byte o ∷ []; in_range = Unit {0}; is_covered = is_covered_ordering o }

-- The immediates of an instruction.
abbrev pub Fields : List Kind → Type 0
Fields [] = Unit {0}
Fields (kind ∷ kinds) = Field kind × Fields kinds

-- Immediates, one after another.
abbrev pub fields : (kinds : List Kind) → Fields kinds → Encoding
fields [] x = fixed []
fields (kind ∷ kinds) x = seq (field kind x.0) (fields kinds x.1)

-- An instruction: an entry with its immediates.
pub record Instr : Type 0 where
  pub row : Row
  pub numbers : Fields row.kinds

-- An instruction: its opcode, then its immediates.
abbrev pub instr : Instr → Encoding
instr i = respelled (λ immediates. opcode_bytes i.row.opcode ++ immediates) (fields i.row.kinds i.numbers)

-- The bytes of instructions, one after another.
abbrev pub instrs : List Instr → List ℕ
instrs is = flat_map (λ i. (instr i).bytes) is

-- Entries with these keys, and immediates of these kinds.
abbrev pub keyed : List Kind → List ℕ → List Row
keyed kinds keys = map (λ key. record { opcode = opcode_of key; kinds = kinds }) keys

-- The opcode table. The instructions of each enum of wast_base have immediates of the same kinds.
unfoldable pub table : List Row
table =
    keyed [] (map plain_key plains)
    ++ keyed (Index ∷ []) (map index_key (each indices.enum))
    ++ keyed (Index ∷ Index ∷ []) (map index_pair_key (each index_pairs.enum))
    ++ keyed (Memarg ∷ []) (map mem_key (each mems.enum))
    ++ keyed (Lane ∷ []) (map lane_key (each lanes.enum))
    ++ keyed (Memarg ∷ Lane ∷ []) (map mem_lane_key (each mem_lanes.enum))
    -- Written by tools/ops from here.
    ++ keyed (Block ∷ []) (0x02 ∷ 0x03 ∷ 0x04 ∷ 0x06 ∷ [])  -- block, loop, if, try
    ++ keyed [] (0x05 ∷ 0x0b ∷ 0x1b ∷ [])  -- else, end, select
    ++ keyed (Labels ∷ Index ∷ []) (0x0e ∷ [])  -- br_table
    ++ keyed (Types ∷ []) (0x1c ∷ [])  -- select
    ++ keyed (Block ∷ Catches ∷ []) (0x1f ∷ [])  -- try_table
    ++ keyed (Signed32 ∷ []) (0x41 ∷ [])  -- i32.const
    ++ keyed (Signed64 ∷ []) (0x42 ∷ [])  -- i64.const
    ++ keyed (Bits32 ∷ []) (0x43 ∷ [])  -- f32.const
    ++ keyed (Bits64 ∷ []) (0x44 ∷ [])  -- f64.const
    ++ keyed (Heap ∷ []) (0xd0 ∷ 0xfb0014 ∷ 0xfb0015 ∷ 0xfb0016 ∷ 0xfb0017 ∷ [])  -- ref.null, ref.test, ref.cast
    ++ keyed (Nullables ∷ Index ∷ Heap ∷ Heap ∷ []) (0xfb0018 ∷ 0xfb0019 ∷ [])  -- br_on_cast, br_on_cast_fail
    ++ keyed (Lanes ∷ []) (0xfd000c ∷ 0xfd000d ∷ [])  -- v128.const, i8x16.shuffle
    ++ keyed (Order ∷ []) (0xfe0003 ∷ [])  -- atomic.fence
    -- To here.

-- The kinds of immediates of an opcode, if it is in the list.
unfoldable pub kinds_of : Opcode → List Row → Option (List Kind)
kinds_of opcode [] = None
kinds_of opcode (r ∷ rs) =
    elim (same_opcode r.opcode opcode) [ true ↦ Some r.kinds | false ↦ kinds_of opcode rs ]

-- The entry of an instruction is in the table.
abbrev pub HasRow : Instr → Type 0
HasRow i = kinds_of i.row.opcode table ≡ Some i.row.kinds

-- A valid instruction: an entry of the table, with supported immediates in range.
pub record IsInstr (i : Instr) : Type 0 where
  pub row : HasRow i
  pub numbers : (instr i).in_range
  pub covered : IsTrue (instr i).is_covered

-- The bytes are the encoding of a list of instructions.
pub record SpellsInstrs (bytes : List ℕ) : Type 0 where
  pub list : List Instr
  pub in_range : All IsInstr list
  pub spelled : bytes ≡ instrs list

-- No two entries have the same opcode.
unfoldable pub are_distinct : List Row → Bool
are_distinct [] = true
are_distinct (r ∷ rs) = elim (is_none (kinds_of r.opcode rs)) [ true ↦ are_distinct rs | false ↦ false ]

-- No opcode of one byte is a prefix byte.
unfoldable pub all_apart : List Row → Bool
all_apart [] = true
all_apart (r ∷ rs) = elim (is_apart r.opcode) [ true ↦ all_apart rs | false ↦ false ]
