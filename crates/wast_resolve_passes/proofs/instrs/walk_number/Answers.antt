use Rattle.std.specs.Prelude.{⊤, []}
use Rattle.wast_tree_nodes.specs.Sites.{at_index}
use Rattle.wast_resolve_rules.specs.Demands.{HasMany, site_demands}
use Rattle.wast_resolve_rules.specs.Resolved.{numbered_at}
use Rattle.wast_resolve_names.specs.Resolvers.{known_of, scope_of}
use Rattle.wast_resolve_names.proofs.Parts.{more_refused}
use Rattle.wast_resolve_passes.proofs.instrs.walk_number.Goals as goal

pub returns : goal.returns
returns c =
    more_refused ⊤ (HasMany []) (site_demands (scope_of c.args.names.now) (at_index c.args.space c.args.index.now))
    (numbered_at (known_of c.args.names.now) c.args.space c.args.index.now)
    c.walk_outside_index.new.index c.walk_outside_index.result c.walk_outside_index.ensures
