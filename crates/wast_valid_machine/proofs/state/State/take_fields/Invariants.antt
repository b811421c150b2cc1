use Rattle.std.proofs.Common.{◌≡◌, ◌≤◌, length, take, reverse, map}
use Rattle.wast_valid_machine.specs.Machine.{expect_all}
use Rattle.wast_valid_machine.proofs.state.State.take_fields.Given as goal

abbrev pub invariant-loop-left : goal.invariant-loop-left
invariant-loop-left l = (l.left ≤ length l.fields) × (expect_all l.types (reverse (map (λ f. f.ty) l.fields)) l.initial.self ≡ expect_all l.types (reverse (take l.left (map (λ f. f.ty) l.fields))) l.self)

abbrev pub decreases-loop-left : goal.decreases-loop-left
decreases-loop-left l = l.left
