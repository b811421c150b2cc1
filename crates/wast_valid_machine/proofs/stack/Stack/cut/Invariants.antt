use Rattle.std.proofs.Common.{◌≡◌, ◌-◌, length, drop}
use Rattle.wast_valid_machine.proofs.stack.Stack.cut.Given as goal

abbrev pub invariant-loop-self : goal.invariant-loop-self
invariant-loop-self g l = drop (length l.self - l.keep) l.self ≡ drop (length l.initial.self - l.keep) l.initial.self

abbrev pub decreases-loop-self : goal.decreases-loop-self
decreases-loop-self g l = length l.self
