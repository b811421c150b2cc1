-- The goal of `action_command` that tactics leave open, closed by a lemma of Acting.
use Rattle.wast_script.specs.Grammar.{Acts, action}
use Rattle.wast_script.specs.Scripts.{action_in}
use Rattle.wast_script.proofs.Acting.{wrapped}
use Rattle.wast_script.proofs.reader.Reader.action_command.Goals as goal

pub returns : goal.returns
returns c = wrapped (action c.args.kind) Acts c.args.self.now c.action_after.new.self
    (λ vs. action_in vs c.action_after.result) _ _ c.action_after.ensures (λ n h. h)
