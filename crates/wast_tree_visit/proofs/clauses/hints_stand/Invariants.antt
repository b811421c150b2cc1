use Rattle.std.proofs.Common.{◌≡◌, drop}
use Rattle.wast_tree_nodes.specs.Clauses.{stand_from}
use Rattle.wast_tree_visit.proofs.clauses.hints_stand.Given as goal

abbrev pub invariant-loop-hint : goal.invariant-loop-hint
invariant-loop-hint l = stand_from l.count l.first (drop l.hint-index l.hints) ≡ stand_from l.count 0 l.hints
