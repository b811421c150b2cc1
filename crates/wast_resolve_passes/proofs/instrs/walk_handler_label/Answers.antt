use Rattle.wast_tree_nodes.specs.Sites.{at_label}
use Rattle.wast_resolve_rules.specs.Demands.{site_demands}
use Rattle.wast_resolve_rules.specs.Resolved.{numbering_change}
use Rattle.wast_resolve_names.specs.Resolvers.{scope_of}
use Rattle.wast_resolve_passes.specs.Tree.{Index}
use Rattle.wast_resolve_passes.specs.Tree.handle
use Rattle.wast_resolve_names.proofs.Parts.{walks_in}
use Rattle.wast_resolve_passes.proofs.instrs.walk_handler_label.Goals as goal

pub returns-in-OnLabel : goal.returns-in-OnLabel
returns-in-OnLabel c names =
    let blocks = c.args.labels.now in
    let l = c.in-OnLabel.label in
    rw c.in-OnLabel.is (walks_in ⊥ ⊥ (λ (i : Index). handle.OnLabel c.in-OnLabel.tag i) (site_demands (scope_of names) (at_label blocks l))
    ((numbering_change (scope_of names)).label blocks l) c.walk_label.new.label c.walk_label.result (c.walk_label.ensures names))
