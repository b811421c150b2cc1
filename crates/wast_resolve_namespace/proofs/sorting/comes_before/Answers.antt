use Rattle.wast_resolve_namespace.proofs.HeadOrder.{by_head}
use Rattle.wast_resolve_namespace.proofs.sorting.comes_before.Goals as goal

pub returns-then-head-other_head : goal.returns-then-head-other_head
returns-then-head-other_head c =
    by_head c.args.pair.now c.args.other.now c.args.head c.args.other_head c.requires.head c.requires.other c.if-head-other_head.true
