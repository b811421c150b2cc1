-- The goal of `command` that tactics leave open, closed by lemmas of Verbs and Parts.
use Rattle.std.proofs.Common.{◌∙◌}
use Rattle.wast_script.proofs.Parts.{between_is}
use Rattle.wast_script.proofs.Verbs.{command_read}
use Rattle.wast_script.proofs.reader.Reader.command.Goals as goal

pub returns : goal.returns
returns c =
    let verb = c.wanted_verb-verb in
    let tokens = verb.ensures.tokens ∙ c.open.ensures.tokens in
    command_read c.args.self.now c.open.new.self verb.new.self c.command_of-kind.new.self verb.result c.place-span.result _
    c.command_of-kind.result c.open.ensures c.place-span.ensures verb.ensures
    (between_is c.args.self.now verb.new.self c.at-start.result c.at-end.result tokens c.at-start.ensures c.at-end.ensures) c.command_of-kind.ensures
