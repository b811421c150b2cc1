-- The goal of `operator_at`, closed by the lemma that an instruction with a simple word waits for its operands.
use Rattle.wat_syntax.specs.Bare.{bare_text}
use Rattle.wat_text.proofs.Simple.{operator_does}
use Rattle.wat_text.proofs.reader.Reader.operator_at.Goals as goal

pub returns : goal.returns
returns c = operator_does c.args.hint c.args.self.now c.read_operator_at.new.self c.push_level.new.self
    c.args.body.now c.read_operator_at.new.body c.push_level.new.body c.args.word (bare_text c.args.name) c.place-start.result
    c.requires.next c.requires.simple c.place-start.ensures c.read_operator_at.ensures c.push_level.ensures
