use Rattle.std.specs.Prelude.{⊤, []}
use Rattle.wast_resolve_labels.specs.OpenBlocks.{label_depth}
use Rattle.wast_tree_nodes.specs.Sites.{at_label}
use Rattle.wast_resolve_rules.specs.Demands.{HasMany, site_demands}
use Rattle.wast_resolve_rules.specs.Resolved.{resolved_index}
use Rattle.wast_resolve_names.specs.Resolvers.{scope_of}
use Rattle.wast_resolve_names.proofs.Parts.{more_refused}
use Rattle.wast_resolve_passes.proofs.instrs.walk_branch.Goals as goal

pub returns : goal.returns
returns c names =
    let blocks = c.args.labels.now in
    more_refused ⊤ (HasMany []) (site_demands (scope_of names) (at_label blocks c.args.label.now))
    (resolved_index (λ name. label_depth name blocks) c.args.label.now)
    c.walk_label.new.label c.walk_label.result (c.walk_label.ensures names)
