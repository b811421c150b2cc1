use Rattle.std.proofs.Common.{rules}
use Rattle.wast_expand_types.proofs.binding.TagTypeBind.bind.Goals as goal

pub returns-clause-bound : goal.returns-clause-bound
returns-clause-bound c = λ more. let bound = c.in_ok-bind.ensures.bound more in search rules
