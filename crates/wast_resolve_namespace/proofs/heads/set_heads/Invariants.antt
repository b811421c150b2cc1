use Rattle.std.proofs.Common.{◌≡◌, map}
use Rattle.wast_resolve_namespace.specs.Heads.{pair_of}
use Rattle.wast_resolve_namespace.proofs.heads.set_heads.Given as goal

abbrev pub invariant-each : goal.invariant-each
invariant-each l = (map pair_of l.group ≡ map pair_of l.initial.group)
