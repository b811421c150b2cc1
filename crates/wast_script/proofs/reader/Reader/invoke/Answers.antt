-- The goal of `invoke` that tactics leave open, closed by a lemma of Acting.
use Rattle.wast_script.proofs.Acting.{invocation_read}
use Rattle.wast_script.proofs.reader.Reader.invoke.Goals as goal

pub returns : goal.returns
returns c = invocation_read c.args.self.now c.wanted_form.new.self c.action_after.new.self _ _ c.wanted_form.ensures c.action_after.ensures
