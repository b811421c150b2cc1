-- The goals of `binary_module` that tactics leave open, closed by lemmas of Endings.
use Rattle.wat_text.proofs.Endings.{binary_err, binary_ok}
use Rattle.wat_text.proofs.modules.binary_module.Goals as goal

pub returns-in-Some : goal.returns-in-Some
returns-in-Some c = binary_err c.args.head c.args.reader c.skip.new.self c.pieces-pieces.new.self c.module_end.new.self c.pieces-pieces.result c.in-Some.fault
    c.skip.ensures.left c.skip.ensures.fault c.skip.ensures.make c.pieces-pieces.ensures c.module_end.ensures c.in-Some.ensures.refused

pub returns : goal.returns
returns c = binary_ok c.args.head c.args.reader c.skip.new.self c.pieces-pieces.new.self
    c.module_end.new.self c.pieces-pieces.result c.module_place-place.result c.module_place-place.ensures
    c.skip.ensures.left c.skip.ensures.fault c.skip.ensures.make c.pieces-pieces.ensures c.module_end.ensures (c.finish.ensures.clean c.in-None.is)
