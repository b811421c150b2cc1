use Rattle.std.proofs.Common.{sym}
use Rattle.wast_core_sections.proofs.GivenNames.{none_called}
use Rattle.wast_core_sections.proofs.customs.has_own_names.Goals as goal

pub returns-then-not-has_customs : goal.returns-then-not-has_customs
returns-then-not-has_customs c =
    sym (none_called c.args.fields.now (λ place. c.has_customs.ensures c.if-not-has_customs.true c.args.fields.now place c.requires))
