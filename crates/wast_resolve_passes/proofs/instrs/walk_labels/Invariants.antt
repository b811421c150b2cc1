use Rattle.wast_resolve_labels.specs.OpenBlocks.{label_depth}
use Rattle.wast_tree_nodes.specs.Sites.{at_label}
use Rattle.wast_resolve_rules.specs.Demands.{site_demand}
use Rattle.wast_resolve_rules.specs.Resolved.{resolved_index}
use Rattle.wast_resolve_names.specs.Resolvers.{Resolution, scope_of}
use Rattle.wast_resolve_passes.proofs.Each.{IsHalfway}
use Rattle.wast_resolve_passes.proofs.instrs.walk_labels.Given as goal

abbrev pub invariant-loop-i : goal.invariant-loop-i
invariant-loop-i l = (names : Resolution)
    → IsHalfway (site_demand (scope_of names)) (at_label l.labels) (resolved_index (λ name. label_depth name l.labels)) l.fn.indices l.indices l.i
