-- The goal of `about_run` that tactics leave open, closed by a lemma of Acting.
use Rattle.wast_script.proofs.Acting.{about_run_read}
use Rattle.wast_script.proofs.reader.Reader.about_run.Goals as goal

pub returns : goal.returns
returns c = about_run_read c.args.self.now c.execution-execution.new.self c.message-message.new.self
    c.execution-execution.result c.message-message.result c.execution-execution.ensures c.message-message.ensures
