-- The goal of `exception_command` that tactics leave open, closed by a lemma of Acting.
use Rattle.wast_script.proofs.Acting.{exception_read}
use Rattle.wast_script.proofs.reader.Reader.exception_command.Goals as goal

pub returns : goal.returns
returns c = exception_read c.args.self.now c.execution-execution.new.self c.close.new.self
    c.execution-execution.result c.execution-execution.ensures c.close.ensures
