-- The goal of `push_other`, closed by the lemma on an instruction that is read and appended.
use Rattle.wat_syntax.specs.Instructions.{plaininstr}
use Rattle.wat_syntax.specs.Bare.{bare_text}
use Rattle.wat_text.proofs.Instrs.{put}
use Rattle.wat_text.proofs.reader.Reader.push_other.Goals as goal

pub returns : goal.returns
returns c = put (plaininstr c.args.word (bare_text c.args.name)) c.args.self.now c.any_operator-instruction.new.self c.push_instruction.new.self
    c.any_operator-instruction.result c.args.instrs.now c.push_instruction.new.instrs c.any_operator-instruction.ensures c.push_instruction.ensures
