-- The goal of `word_step` at a simple word, closed by the lemma that the step of the machine reads an instruction there.
use Rattle.std.proofs.Common.{◌∙◌, sym}
use Rattle.wat_syntax.specs.Bare.{bare_text}
use Rattle.wat_text.specs.Machine.{may_hint}
use Rattle.wat_text.proofs.Simple.{simple_does}
use Rattle.wat_text.proofs.reader.Reader.word_step.Goals as goal

pub returns-then-takes_plain : goal.returns-then-takes_plain
returns-then-takes_plain c = simple_does (may_hint c.args.purpose) c.args.self.now c.read_instr_at.new.self c.args.body.now c.read_instr_at.new.body
    c.args.word (bare_text c.args.name)
    c.requires (sym c.is_simple.ensures ∙ c.if-is_simple.true) (sym c.takes_plain.ensures ∙ c.if-takes_plain.true) c.read_instr_at.ensures
