-- The goal of `module` that tactics leave open, closed by a lemma of Finding.
use Rattle.wast_script.proofs.Finding.{parentheses_read}
use Rattle.wast_script.proofs.reader.Reader.module.Goals as goal

pub returns : goal.returns
returns c = parentheses_read c.args.self.now c.open.new.self c.wanted_word.new.self
    c.module_after.new.self c.place-span.result c.at-start.result c.at-end.result _
    c.at-start.ensures c.open.ensures c.place-span.ensures c.wanted_word.ensures c.at-end.ensures c.module_after.ensures
