-- Properties of an instruction: its effect on blocks, its memory argument, whether it needs a data count section (text
-- format: control and memory instructions; binary format: data count section).
--
--   block $a      opens a block with the label $a
--   delegate 0    closes one, like `end`
--   data.drop 1   needs a data count section
use Rattle.std.specs.Prelude.{Bool, true, false, if◌then◌else◌, List, map, Option, Some, None}
use Rattle.wast_base.specs.Blocks.{BlockEffect, Opens, Closes, Stays}
use Rattle.wast_base.specs.Ids.{mark_of_option}
use Rattle.wast_base.specs.Spaces.{name_if}
use Rattle.wast_tree_nodes.specs.Tree.{BlockType, MemArg, Instruction}
use Rattle.wast_tree_nodes.specs.Tree.instr

-- the label and the type of the block that an instruction opens
abbrev pub block_of : Instruction → Option BlockType
block_of (instr.block b) = Some b
block_of (instr.loop_ b) = Some b
block_of (instr.if_ b) = Some b
block_of (instr.try_ b) = Some b
block_of (instr.try_table t) = Some t.block
block_of i = None

-- whether an instruction closes a block
abbrev pub is_closer : Instruction → Bool
is_closer (instr.end_ label) = true
is_closer (instr.delegate label) = true
is_closer i = false

-- the effect on the enclosing blocks: a block type opens a block with its label
abbrev pub turn_by : Option BlockType → Bool → BlockEffect
turn_by (Some b) closes = Opens (name_if (mark_of_option b.label))
turn_by None closes = if closes then Closes else Stays

-- the effect of an instruction on the enclosing blocks
abbrev pub turn_of : Instruction → BlockEffect
turn_of i = turn_by (block_of i) (is_closer i)

-- the effects of instructions, in order
abbrev pub block_effects : List Instruction → List BlockEffect
block_effects is = map turn_of is

-- the memory argument of an instruction, if it has one
abbrev pub mem_arg_of : Instruction → Option MemArg
mem_arg_of (instr.Mem op m) = Some m
mem_arg_of (instr.MemLane op a) = Some a.memarg
mem_arg_of i = None

-- Whether an instruction refers to a data segment, so that the data count section has to come before the code.
abbrev pub needs_data_count : Instruction → Bool
needs_data_count (instr.memory_init a) = true
needs_data_count (instr.data_drop d) = true
needs_data_count (instr.array_new_data a) = true
needs_data_count (instr.array_init_data a) = true
needs_data_count i = false
