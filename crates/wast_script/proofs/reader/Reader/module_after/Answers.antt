-- The goal of `module_after` that tactics leave open, closed by a lemma of Finding.
use Rattle.std.proofs.Common.{refl}
use Rattle.wast_script.proofs.Finding.{module_read}
use Rattle.wast_script.proofs.reader.Reader.module_after.Goals as goal

pub returns : goal.returns
returns c = module_read c.args.self.now c.id-id.new.self c.contents-form.new.self _
    c.at-start.result c.at-end.result c.at-start.ensures c.id-id.ensures c.contents-form.ensures c.at-end.ensures refl
