use Rattle.wast_resolve_labels.proofs.Lasts.{expects_the_last, expects_any}
use Rattle.wast_resolve_labels.proofs.laws.expecting_law.Goals as goal

pub returns-clause-last : goal.returns-clause-last
returns-clause-last c = expects_the_last

pub returns-clause-any : goal.returns-clause-any
returns-clause-any c = expects_any
