use Rattle.std.proofs.Common.{arith}
use Rattle.std.specs.Borrow.{Bor}
use Rattle.wast_tree_nodes.specs.Tree.{ItemSig}
use Rattle.wast_tree_nodes.proofs.Pushing.{pushed_again}
use Rattle.wast_tree_nodes.proofs.imports.push_shared.Goals as goal

pub loop-name-preserved : goal.loop-name-preserved
loop-name-preserved c =
    pushed_again (λ (s : Bor ItemSig). s.now) c.args.sig c.loop-name.sigs.items c.push.new.self.items _ c.args.names.now c.loop-name._name-index
    (omega (arith, c.loop-name-test.true)) c.in_ok-push.ensures.items c.loop-name.invariant
