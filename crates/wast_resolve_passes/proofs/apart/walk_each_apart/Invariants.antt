use Rattle.wast_resolve_rules.specs.Demands.{site_demand}
use Rattle.wast_resolve_rules.specs.Resolved.{numbering_change}
use Rattle.wast_resolve_names.specs.Resolvers.{scope_of}
use Rattle.wast_resolve_passes.proofs.Each.{IsHalfway}
use Rattle.wast_resolve_passes.proofs.apart.walk_each_apart.Given as goal

abbrev pub invariant-loop-i : goal.invariant-loop-i
invariant-loop-i g l = IsHalfway (site_demand (scope_of l.names)) g.T.WalkApart.stands
    (g.T.WalkApart.mapped (numbering_change (scope_of l.names))) l.fn.parts l.parts l.i
