use Rattle.std.proofs.Common.{◌≡◌, ◌≤◌, length, take, reverse}
use Rattle.wast_valid_machine.specs.Machine.{keep_all}
use Rattle.wast_valid_machine.proofs.state.State.keep_list.Given as goal

abbrev pub invariant-loop-left : goal.invariant-loop-left
invariant-loop-left l = (l.left ≤ length l.want) × (keep_all l.types (reverse l.want) l.initial.kept l.initial.self ≡ keep_all l.types (reverse (take l.left l.want)) l.kept l.self)

abbrev pub decreases-loop-left : goal.decreases-loop-left
decreases-loop-left l = l.left
