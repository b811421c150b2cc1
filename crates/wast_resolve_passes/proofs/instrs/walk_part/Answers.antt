use Rattle.std.specs.Prelude.{⊤}
use Rattle.wast_tree_nodes.specs.Sites.{check_sites}
use Rattle.wast_resolve_rules.specs.Demands.{HasMany, open_counts, site_demands}
use Rattle.wast_resolve_rules.specs.Resolved.{numbering_change}
use Rattle.wast_resolve_names.specs.Resolvers.{scope_of}
use Rattle.wast_resolve_names.proofs.Parts.{more_refused}
use Rattle.wast_resolve_passes.proofs.instrs.walk_part.Goals as goal

pub returns : goal.returns
returns g c =
    let x = c.args.part.now in
    let s = scope_of c.args.names.now in
    let sites = check_sites (g.T.Walk.asks x) in
    more_refused ⊤ (HasMany (open_counts sites)) (site_demands s sites)
    (g.T.Walk.mapped (numbering_change s) x) c.walk_outside.new.part c.walk_outside.result c.walk_outside.ensures
