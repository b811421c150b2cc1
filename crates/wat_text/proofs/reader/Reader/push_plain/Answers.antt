-- The goal of `push_plain`, closed by the lemma on an instruction that is read and appended.
use Rattle.std.proofs.Common.{[], refl}
use Rattle.wat_tokens.specs.declared.words.Word.TheVariants as word
use Rattle.wat_syntax.specs.Tree.instr
use Rattle.wat_syntax.specs.Values.{text_of}
use Rattle.wat_syntax.specs.Instructions.{plaininstr}
use Rattle.wat_text.proofs.Instrs.{put_decided, at_once}
use Rattle.wat_text.proofs.reader.Reader.push_plain.Goals as goal

pub returns : goal.returns
returns c = put_decided (plaininstr (word.Plain c.args.op) (text_of [])) c.args.self.now c.args.self.now c.push_instruction.new.self
    (instr.Plain c.args.op) c.args.instrs.now c.push_instruction.new.instrs
    (at_once (plaininstr (word.Plain c.args.op) (text_of [])) c.args.self.now (instr.Plain c.args.op) refl) c.push_instruction.ensures
