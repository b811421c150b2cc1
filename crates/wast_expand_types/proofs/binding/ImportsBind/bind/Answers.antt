use Rattle.std.proofs.Common.{ap}
use Rattle.wast_expand_types.specs.Tree.{ImportItems}
use Rattle.wast_expand_types.proofs.binding.ImportsBind.bind.Goals as goal

pub returns-clause-bound : goal.returns-clause-bound
returns-clause-bound c = λ more. ap (λ (items : ImportItems). record c.args.self.now { items = items }) (c.in_ok-bind.ensures.bound more)
