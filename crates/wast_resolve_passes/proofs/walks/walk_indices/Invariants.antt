use Rattle.wast_tree_nodes.specs.Sites.{in_index}
use Rattle.wast_resolve_rules.specs.Demands.{ask_demand}
use Rattle.wast_resolve_rules.specs.Resolved.{numbered_at}
use Rattle.wast_resolve_names.specs.Resolvers.{known_of}
use Rattle.wast_resolve_passes.proofs.Each.{IsHalfway}
use Rattle.wast_resolve_passes.proofs.walks.walk_indices.Given as goal

abbrev pub invariant-loop-i : goal.invariant-loop-i
invariant-loop-i l = IsHalfway (ask_demand (known_of l.names)) (in_index l.space) (numbered_at (known_of l.names) l.space) l.fn.indices l.indices l.i
