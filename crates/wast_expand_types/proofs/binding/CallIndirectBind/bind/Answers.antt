use Rattle.std.proofs.Common.{ap}
use Rattle.wast_expand_types.specs.Tree.{FunctionType, TypeUse}
use Rattle.wast_expand_types.proofs.binding.CallIndirectBind.bind.Goals as goal

pub returns-clause-bound : goal.returns-clause-bound
returns-clause-bound c = λ more. ap (λ (u : TypeUse FunctionType). record c.args.self.now { ty = u }) (c.in_ok-bind.ensures.bound more)
