-- The goal of `push_i32_const`, closed by the lemma on an instruction that is read and appended.
use Rattle.std.proofs.Common.{[]}
use Rattle.wat_tokens.specs.declared.words.Word.TheVariants as word
use Rattle.wat_tokens.specs.declared.words.OwnOp.TheVariants as own
use Rattle.wat_syntax.specs.Values.{text_of}
use Rattle.wat_syntax.specs.Instructions.{plaininstr}
use Rattle.wat_text.proofs.Instrs.{put_decided}
use Rattle.wat_text.proofs.reader.Reader.push_i32_const.Goals as goal

pub returns : goal.returns
returns c = put_decided (plaininstr (word.Own own.i32_const) (text_of [])) c.args.self.now c.i32_const-instruction.new.self c.push_instruction.new.self
    c.i32_const-instruction.result c.args.instrs.now c.push_instruction.new.instrs c.i32_const-instruction.ensures c.push_instruction.ensures
