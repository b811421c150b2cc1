-- The goal of `form` that tactics leave open, closed by a lemma of Goes.
use Rattle.wast_script.proofs.Goes.{form_read}
use Rattle.wast_script.proofs.reader.Reader.form.Goals as goal

pub returns : goal.returns
returns c = form_read c.args.usage c.args.self.now c.open.new.self c.constant_word-word.new.self
    c.constant-value.new.self c.close.new.self c.constant_word-word.result c.constant-value.result
    c.open.ensures c.constant_word-word.ensures c.constant-value.ensures c.close.ensures
