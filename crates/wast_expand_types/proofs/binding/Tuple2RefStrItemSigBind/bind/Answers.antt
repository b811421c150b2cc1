use Rattle.std.proofs.Common.{ap}
use Rattle.wast_expand_types.specs.Tree.{ItemSig}
use Rattle.wast_expand_types.proofs.binding.Tuple2RefStrItemSigBind.bind.Goals as goal

pub returns-clause-bound : goal.returns-clause-bound
returns-clause-bound c = λ more. ap (λ (s : ItemSig). (c.args.self.now.0, s)) (c.in_ok-bind.ensures.bound more)
