use Rattle.wast_tree_nodes.specs.Sites.{in_field}
use Rattle.wast_resolve_rules.specs.Demands.{site_demand}
use Rattle.wast_tree_map.specs.Mapped.{mapped_field}
use Rattle.wast_resolve_rules.specs.Resolved.{numbering_change}
use Rattle.wast_resolve_names.specs.Resolvers.{scope_of}
use Rattle.wast_resolve_passes.proofs.Each.{IsHalfway}
use Rattle.wast_resolve_passes.proofs.walks.walk_fields.Given as goal

abbrev pub invariant-loop-i : goal.invariant-loop-i
invariant-loop-i l = IsHalfway (site_demand (scope_of l.names)) in_field (mapped_field (numbering_change (scope_of l.names))) l.fn.fields l.fields l.i
