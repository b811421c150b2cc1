-- The goal of `step` that tactics leave open, closed by a lemma of Commanding.
use Rattle.wast_script.proofs.Commanding.{command_taken}
use Rattle.wast_script.proofs.reader.Reader.step.Goals as goal

pub returns : goal.returns
returns c = command_taken c.args.threads c.threads_after.result c.args.self.now c.command_or_end-command.new.self
    c.push_command.new.self c.command_or_end-command.result c.command_or_end-command.ensures c.push_command.ensures
    c.threads_after.ensures.after c.threads_after.ensures.few
