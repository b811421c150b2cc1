-- Texts, and the words that they are.
use Rattle.std.specs.Prelude.{◌≡◌, [], map, Some, None, codes}
use Rattle.wast_base.specs.declared.index_ops.IndexOp.TheVariants as index
use Rattle.wast_base.specs.declared.lane_ops.MemLaneOp.TheVariants as mem_lane
use Rattle.wast_base.specs.declared.mem_ops.MemOp.TheVariants as mem
use Rattle.wast_base.specs.declared.plain.I32Op.TheVariants as i32
use Rattle.wast_base.specs.declared.plain.Plain.TheVariants as plain
use Rattle.wat_tokens.specs.declared.words.Alignment.TheVariants as alignment
use Rattle.wat_tokens.specs.declared.words.Key.TheVariants as key
use Rattle.wat_tokens.specs.declared.words.PairOp.TheVariants as pair
use Rattle.wat_tokens.specs.declared.words.Word.TheVariants as word
use Rattle.wat_tokens.specs.Words.{words, word_named}

-- instructions and keywords
abbrev pub Words : Type 0
Words = (word_named (codes "i32.add") ≡ Some (word.Plain (plain.I32 i32.i32_add)))
    × (word_named (codes "i64.load32_u") ≡ Some (word.Mem mem.i64_load32_u alignment.Four))
    × (word_named (codes "v128.load16_lane") ≡ Some (word.MemLane mem_lane.v128_load16_lane alignment.Two))
    × (word_named (codes "local.get") ≡ Some (word.Index index.LocalGet))
    × (word_named (codes "memory.copy") ≡ Some (word.NoneOrTwo pair.memory_copy)) × (word_named (codes "func") ≡ Some (word.Key key.Func))
    × (word_named (codes "absolute") ≡ Some (word.Key key.Absolute))

-- what is no word: a front of one, one with more after it, one in capital letters, and nothing
abbrev pub Others : Type 0
Others = (word_named (codes "i32.ad") ≡ None) × (word_named (codes "i32.add_") ≡ None) × (word_named (codes "I32.ADD") ≡ None) × (word_named [] ≡ None)

-- The text of each row is the word of that row, so the order of the rows does not matter.
abbrev pub AreDistinct : Type 0
AreDistinct = map (λ row. word_named row.0) words ≡ map (λ row. Some row.1) words
