use Rattle.std.proofs.Common.{◌≡◌, drop}
use Rattle.wast_base.specs.Ids.{name_of}
use Rattle.wast_resolve_namespace.specs.Filling.{first_number}
use Rattle.wast_resolve_namespace.proofs.filling.first_number.Given as goal

abbrev pub invariant-loop-pair : goal.invariant-loop-pair
invariant-loop-pair l = first_number (name_of l.id) (drop l.pair-index l.pairs) ≡ first_number (name_of l.id) l.pairs
