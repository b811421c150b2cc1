use Rattle.std.proofs.Common.{◌≡◌, map, take}
use Rattle.wast_resolve_namespace.specs.Heads.{pair_of}
use Rattle.wast_resolve_namespace.proofs.heads.without_heads.Given as goal

abbrev pub invariant-each : goal.invariant-each
invariant-each l = (l.pairs.items ≡ map pair_of (take l.i l.headed))
