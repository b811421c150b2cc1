use Rattle.std.proofs.Common.{◌≡◌, map, take}
use Rattle.wast_resolve_namespace.specs.Heads.{pair_of}
use Rattle.wast_resolve_namespace.proofs.heads.with_heads.Given as goal

abbrev pub invariant-each : goal.invariant-each
invariant-each l = (map pair_of l.headed.items ≡ take l.i l.pairs)
