use Rattle.std.proofs.Common.{◌≡◌, ◌==◌, drop}
use Rattle.std.specs.List.{list_any}
use Rattle.wast_valid_machine.proofs.lookups.is_on.Given as goal

abbrev pub invariant-loop-depth : goal.invariant-loop-depth
invariant-loop-depth l = list_any (λ y. y == l.x) l.stack ≡ list_any (λ y. y == l.x) (drop l.depth l.stack)
