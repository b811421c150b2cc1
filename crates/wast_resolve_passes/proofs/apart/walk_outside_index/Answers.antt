use Rattle.wast_tree_nodes.specs.Sites.{in_index}
use Rattle.wast_resolve_rules.specs.Resolved.{numbered_at}
use Rattle.wast_resolve_names.specs.Resolvers.{known_of, scope_of}
use Rattle.wast_resolve_names.proofs.Parts.{walks_asking}
use Rattle.wast_resolve_passes.proofs.apart.walk_outside_index.Goals as goal

pub returns : goal.returns
returns c = walks_asking (scope_of c.args.names.now) (in_index c.args.space c.args.index.now)
    (numbered_at (known_of c.args.names.now) c.args.space c.args.index.now) c.walk_index.new.index c.walk_index.result c.walk_index.ensures
