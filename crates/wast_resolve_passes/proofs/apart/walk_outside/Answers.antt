use Rattle.wast_resolve_rules.specs.Resolved.{numbering_change}
use Rattle.wast_resolve_names.specs.Resolvers.{scope_of}
use Rattle.wast_resolve_names.proofs.Parts.{walks_asking}
use Rattle.wast_resolve_passes.proofs.apart.walk_outside.Goals as goal

pub returns : goal.returns
returns g c = walks_asking (scope_of c.args.names.now) (g.T.Walk.asks c.args.part.now)
    (g.T.Walk.mapped (numbering_change (scope_of c.args.names.now)) c.args.part.now) c.walk.new.self c.walk.result c.walk.ensures
