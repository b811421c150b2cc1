-- The goal of `suspension_command` that tactics leave open, closed by a lemma of Acting.
use Rattle.wast_script.specs.Grammar.{AssertSuspension, about_run}
use Rattle.wast_script.specs.Scripts.{execution_in}
use Rattle.wast_script.specs.Readers.{all_bare}
use Rattle.wast_script.proofs.Acting.{wrapped}
use Rattle.wast_script.proofs.reader.Reader.suspension_command.Goals as goal

pub returns : goal.returns
returns c = wrapped about_run (λ x. AssertSuspension x.0 x.1) c.args.self.now c.about_run.new.self
    (λ vs. (execution_in (all_bare c.about_run.new.self) vs c.about_run.result.0, c.about_run.result.1.now)) _ _
    c.about_run.ensures (λ n h. h)
