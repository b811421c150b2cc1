-- The goal of `worded` that tactics leave open, closed by a lemma of Instrs.
use Rattle.std.proofs.Common.{◌≡◌, true, map, arith}
use Rattle.wat_syntax.specs.Instructions.{is_plaininstr}
use Rattle.wat_syntax.specs.Bare.{bare_text}
use Rattle.wat_syntax.specs.BareInstructions.{bare_instr}
use Rattle.wat_text.proofs.Instrs.{by_word}
use Rattle.wat_text.proofs.reader.Reader.worded.Goals as goal

pub returns-in_default : goal.returns-in_default
returns-in_default c =
    let skip = c.skip-in_default in
    let plain : is_plaininstr c.args.word ≡ true = grind (arith, c.in_default.not-Block, c.in_default.not-Key) in
    by_word c.args.word (bare_text c.args.name) c.args.self.now skip.new.self c.push_operator.new.self
    (map bare_instr c.args.instrs.now) (map bare_instr c.push_operator.new.instrs) c.requires plain skip.ensures.left
    skip.ensures.fault skip.ensures.make c.push_operator.ensures
