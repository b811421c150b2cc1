-- The goal of `action_after` that tactics leave open, closed by a lemma of Acting.
use Rattle.wast_script.proofs.Acting.{action_read}
use Rattle.wast_script.proofs.reader.Reader.action_after.Goals as goal

pub returns : goal.returns
returns c = action_read c.args.kind c.args.self.now c.id-module.new.self c.text-name.new.self
    c.arguments-arguments.new.self c.close.new.self c.place_before-span.result c.id-module.result
    c.text-name.result c.arguments-arguments.result c.place_before-span.ensures
    c.id-module.ensures c.text-name.ensures c.arguments-arguments.ensures c.close.ensures
