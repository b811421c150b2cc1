use Rattle.std.proofs.Common.{◌≡◌, drop, []}
use Rattle.wast_valid_machine.specs.Control.{targets}
use Rattle.wast_valid_machine.proofs.state.State.check_targets.Given as goal

abbrev pub invariant-loop-k : goal.invariant-loop-k
invariant-loop-k l = (l.kept ≡ []) × (targets l.types l.arity l.labels l.initial.self ≡ targets l.types l.arity (drop l.k l.labels) l.self)
