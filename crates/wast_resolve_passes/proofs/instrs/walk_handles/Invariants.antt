use Rattle.wast_tree_nodes.specs.Sites.{in_handle}
use Rattle.wast_tree_map.specs.Mapped.{mapped_handle}
use Rattle.wast_resolve_rules.specs.Demands.{site_demand}
use Rattle.wast_resolve_rules.specs.Resolved.{numbering_change}
use Rattle.wast_resolve_names.specs.Resolvers.{scope_of}
use Rattle.wast_resolve_passes.proofs.Each.{IsHalfway}
use Rattle.wast_resolve_passes.proofs.instrs.walk_handles.Given as goal

abbrev pub invariant-loop-i : goal.invariant-loop-i
invariant-loop-i l = IsHalfway (site_demand (scope_of l.names)) (in_handle l.labels)
    (mapped_handle (numbering_change (scope_of l.names)) l.labels) l.fn.handles l.handles l.i
