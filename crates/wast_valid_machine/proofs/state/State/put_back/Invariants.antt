use Rattle.std.proofs.Common.{◌≡◌, length}
use Rattle.wast_valid_machine.specs.Machine.{push_all}
use Rattle.wast_valid_machine.proofs.state.State.put_back.Given as goal

abbrev pub invariant-loop-t : goal.invariant-loop-t
invariant-loop-t l = push_all l.initial.kept l.initial.self ≡ push_all l.kept l.self

abbrev pub decreases-loop-t : goal.decreases-loop-t
decreases-loop-t l = length l.kept
