-- The goals of `index`, closed by lemmas of Numbers.
use Rattle.wat_syntax.specs.Values.{u32, index}
use Rattle.wat_syntax.specs.Bare.{bare_index}
use Rattle.wat_text.proofs.Numbers.{number_index, after_none}
use Rattle.wat_text.proofs.reader.Reader.index.Goals as goal

pub returns-in-Some : goal.returns-in-Some
returns-in-Some c = number_index c.args.self.now c.optional_u32.new.self c.in-Some.number c.place-place.result c.optional_u32.result
    c.place-place.ensures c.in-Some.is c.optional_u32.ensures

pub returns-in-None : goal.returns-in-None
returns-in-None c = after_none index u32 c.args.self.now c.optional_u32.new.self c.any_index.new.self c.optional_u32.result (bare_index c.any_index.result)
    c.in-None.is c.optional_u32.ensures c.any_index.ensures
