use Rattle.std.proofs.Common.{◌≤◌}
use Rattle.wast_resolve_namespace.proofs.Firsts.{IsLeft}
use Rattle.wast_resolve_namespace.proofs.filling.first_of_each.Given as goal

abbrev pub invariant-each : goal.invariant-each
invariant-each l = record {
  begun : 1 ≤ l.t;
  rest : IsLeft l.pairs l.firsts.items l.t;
}
