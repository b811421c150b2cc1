-- The goal of `return_command` that tactics leave open, closed by a lemma of Acting.
use Rattle.wast_script.proofs.Acting.{return_read}
use Rattle.wast_script.proofs.reader.Reader.return_command.Goals as goal

pub returns : goal.returns
returns c = return_read c.args.self.now c.execution-execution.new.self c.values_of-results.new.self
    c.close.new.self c.execution-execution.result c.values_of-results.result
    c.execution-execution.ensures c.values_of-results.ensures c.close.ensures
