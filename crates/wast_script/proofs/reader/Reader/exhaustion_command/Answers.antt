-- The goal of `exhaustion_command` that tactics leave open, closed by a lemma of Acting.
use Rattle.wast_script.specs.Grammar.{AssertExhaustion, invocation, message}
use Rattle.wast_script.specs.Scripts.{action_in}
use Rattle.wast_script.proofs.Acting.{then_decides}
use Rattle.wast_script.proofs.reader.Reader.exhaustion_command.Goals as goal

pub returns : goal.returns
returns c = then_decides invocation message AssertExhaustion c.args.self.now c.invoke-action.new.self c.message-message.new.self
    (λ vs. action_in vs c.invoke-action.result) _ c.message-message.result.now
    c.invoke-action.ensures c.message-message.ensures
