use Rattle.wast_resolve_rules.specs.Demands.{ask_demand}
use Rattle.wast_resolve_rules.specs.Resolved.{numbering_change}
use Rattle.wast_resolve_names.specs.Resolvers.{known_of, scope_of}
use Rattle.wast_resolve_passes.proofs.Each.{IsHalfway}
use Rattle.wast_resolve_passes.proofs.walks.walk_each.Given as goal

abbrev pub invariant-loop-i : goal.invariant-loop-i
invariant-loop-i g l = IsHalfway (ask_demand (known_of l.names)) g.T.Walk.asks (g.T.Walk.mapped (numbering_change (scope_of l.names))) l.fn.parts l.parts l.i
