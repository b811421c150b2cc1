use Rattle.std.proofs.Common.{◌≡◌, drop}
use Rattle.wast_valid_machine.specs.Machine.{push_all}
use Rattle.wast_valid_machine.proofs.state.State.put_list.Given as goal

abbrev pub invariant-loop-i : goal.invariant-loop-i
invariant-loop-i l = push_all l.given l.initial.self ≡ push_all (drop l.i l.given) l.self
