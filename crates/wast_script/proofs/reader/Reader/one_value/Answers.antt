-- The goal of `one_value` that tactics leave open, closed by a lemma of Onto.
use Rattle.wast_script.proofs.Onto.{value_pushed}
use Rattle.wast_script.proofs.reader.Reader.one_value.Goals as goal

pub returns : goal.returns
returns c = value_pushed c.args.usage c.args.self.now c.form-value.new.self c.push_value.new.self c.form-value.result c.form-value.ensures c.push_value.ensures
