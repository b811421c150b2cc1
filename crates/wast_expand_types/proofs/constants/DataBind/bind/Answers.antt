use Rattle.std.proofs.Common.{ap}
use Rattle.wast_expand_types.specs.Tree.{DataKind}
use Rattle.wast_expand_types.proofs.constants.DataBind.bind.Goals as goal

pub returns-clause-bound : goal.returns-clause-bound
returns-clause-bound c = λ more. ap (λ (k : DataKind). record c.args.self.now { kind = k }) (c.in_ok-bind.ensures.bound more)
