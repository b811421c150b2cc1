use Rattle.std.proofs.Common.{arith}
use Rattle.wast_resolve_namespace.specs.Heads.{pair_of}
use Rattle.wast_resolve_namespace.proofs.Groups.{reheaded}
use Rattle.wast_resolve_namespace.proofs.heads.set_heads.Goals as goal

pub each-preserved : goal.each-preserved
each-preserved c =
    reheaded pair_of c.each.group c.args.group.now c.each.i c.with_head-next.result _ (omega arith) c.with_head-next.ensures c.each.invariant
