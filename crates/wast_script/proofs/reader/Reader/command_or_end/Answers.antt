-- The goal of `command_or_end` that tactics leave open, closed by a lemma of Verbs.
use Rattle.std.proofs.Common.{◌∙◌, sym}
use Rattle.wast_script.specs.Scripts.{command_in}
use Rattle.wast_script.specs.Readers.{all_bare, HasValues}
use Rattle.wast_script.proofs.Verbs.{not_end}
use Rattle.wast_script.proofs.reader.Reader.command_or_end.Goals as goal

pub returns : goal.returns
returns c = not_end c.args.threads c.args.self.now c.command.new.self
    (λ vs. command_in (all_bare c.command.new.self) vs c.command.result) (λ n. HasValues n c.command.result.kind)
    (sym c.ends_thread.ensures ∙ c.if-ends_thread.false) c.command.ensures
