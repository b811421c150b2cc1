use Rattle.std.proofs.Common.{◌≡◌, length, All, Ok, []}
use Rattle.wast_resolve_names.specs.Gathers.{Gathers}
use Rattle.wast_resolve_spaces.proofs.gathers.start_each.Given as goal

abbrev pub invariant-loop-rank : goal.invariant-loop-rank
invariant-loop-rank l = (length l.gathered.items ≡ l.rank) × All (Gathers (Ok []) []) l.gathered.items
