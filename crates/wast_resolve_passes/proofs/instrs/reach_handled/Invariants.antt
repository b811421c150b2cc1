use Rattle.std.proofs.Common.{◌≡◌}
use Rattle.wast_resolve_passes.proofs.instrs.reach_handled.Given as goal

abbrev pub invariant-loop-handle : goal.invariant-loop-handle
invariant-loop-handle l = l.labels ≡ l.fn.labels
