use Rattle.std.proofs.Common.{◌≡◌}
use Rattle.wast_resolve_passes.proofs.instrs.reach_caught.Given as goal

abbrev pub invariant-loop-catch : goal.invariant-loop-catch
invariant-loop-catch l = l.labels ≡ l.fn.labels
