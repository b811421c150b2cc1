-- The goal of `strings` that tactics leave open, closed by a lemma of Finding.
use Rattle.wast_script.proofs.Finding.{strings_read}
use Rattle.wast_script.proofs.reader.Reader.strings.Goals as goal

pub returns : goal.returns
returns c = strings_read c.args.self.now c.skip_strings.new.self c.close.new.self c.at-start.result
    c.at-end.result c.at-start.ensures c.skip_strings.ensures c.at-end.ensures c.close.ensures
