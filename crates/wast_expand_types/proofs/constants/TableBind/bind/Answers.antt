use Rattle.std.proofs.Common.{ap}
use Rattle.wast_expand_types.specs.Tree.{TableKind}
use Rattle.wast_expand_types.proofs.constants.TableBind.bind.Goals as goal

pub returns-clause-bound : goal.returns-clause-bound
returns-clause-bound c = λ more. ap (λ (k : TableKind). record c.args.self.now { kind = k }) (c.in_ok-bind.ensures.bound more)
