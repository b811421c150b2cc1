use Rattle.std.proofs.Common.{ap}
use Rattle.wast_expand_types.specs.Tree.{TagType}
use Rattle.wast_expand_types.proofs.binding.TagBind.bind.Goals as goal

pub returns-clause-bound : goal.returns-clause-bound
returns-clause-bound c = λ more. ap (λ (ty : TagType). record c.args.self.now { ty = ty }) (c.in_ok-bind.ensures.bound more)
