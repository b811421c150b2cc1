-- The goal of `push_indexed`, closed by the lemma on an instruction that is read and appended.
use Rattle.std.proofs.Common.{[]}
use Rattle.wat_tokens.specs.declared.words.Word.TheVariants as word
use Rattle.wat_syntax.specs.Values.{text_of}
use Rattle.wat_syntax.specs.Instructions.{plaininstr}
use Rattle.wat_text.proofs.Instrs.{put_decided}
use Rattle.wat_text.proofs.reader.Reader.push_indexed.Goals as goal

pub returns : goal.returns
returns c = put_decided (plaininstr (word.Index c.args.op) (text_of [])) c.args.self.now c.indexed-instruction.new.self c.push_instruction.new.self
    c.indexed-instruction.result c.args.instrs.now c.push_instruction.new.instrs c.indexed-instruction.ensures c.push_instruction.ensures
