use Rattle.wast_resolve_namespace.specs.Places.{entries_of}
use Rattle.wast_resolve_namespace.proofs.LeastTie.{IsLeastTo}
use Rattle.wast_resolve_namespace.proofs.filling.first_tie.Given as goal

abbrev pub invariant-seek : goal.invariant-seek
invariant-seek l = IsLeastTo (entries_of l.pairs) l.t l.least
