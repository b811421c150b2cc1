use Rattle.std.proofs.Common.{◌≡◌}
use Rattle.wast_resolve_passes.proofs.instrs.reach_all.Given as goal

abbrev pub invariant-loop-label : goal.invariant-loop-label
invariant-loop-label l = l.labels ≡ l.fn.labels
