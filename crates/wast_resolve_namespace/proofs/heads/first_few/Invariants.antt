use Rattle.std.proofs.Common.{◌≤◌, length, drop}
use Rattle.wast_resolve_namespace.specs.Heads.{IsHead}
use Rattle.wast_resolve_namespace.proofs.heads.first_few.Given as goal

abbrev pub invariant-back : goal.invariant-back
invariant-back l = record {
  within : l.at ≤ length l.text;
  rest : IsHead (drop l.at l.text) l.head;
}

abbrev pub decreases-back : goal.decreases-back
decreases-back l = l.at
