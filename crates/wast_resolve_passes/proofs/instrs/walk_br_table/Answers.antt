use Rattle.std.specs.Prelude.{⊤}
use Rattle.std.proofs.lemmas.Result.{err_from_is_err_and}
use Rattle.std.specs.List.{flat_map}
use Rattle.wast_base.specs.Faults.{diagnostic_of}
use Rattle.wast_tree_nodes.specs.Sites.{at_label, in_br_table}
use Rattle.wast_resolve_rules.specs.Demands.{HasMany, open_counts, site_demand}
use Rattle.wast_resolve_names.specs.Resolvers.{scope_of}
use Rattle.wast_resolve_names.proofs.Parts.{both_met, fails_first, fails_behind}
use Rattle.wast_resolve_passes.proofs.instrs.walk_br_table.Goals as goal

pub returns-in_err-walk_labels : goal.returns-in_err-walk_labels
returns-in_err-walk_labels c names =
    let x = c.args.table.now in
    let blocks = c.args.labels.now in
    let p = err_from_is_err_and c.from_residual.result c.from_residual.ensures.1 in
    rw (p.1, p.2) (fails_first ⊤ (HasMany (open_counts (in_br_table blocks x))) (scope_of names) (flat_map (at_label blocks) x.labels)
    (at_label blocks x.default) (diagnostic_of c.in_err-walk_labels.field-0.0)
    (c.in_err-walk_labels.ensures names))

pub returns-in_err-walk_label : goal.returns-in_err-walk_label
returns-in_err-walk_label c names =
    let x = c.args.table.now in
    let blocks = c.args.labels.now in
    let p = err_from_is_err_and c.from_residual-in_err-walk_label.result c.from_residual-in_err-walk_label.ensures.1 in
    rw (p.1, p.2) (fails_behind ⊤ (HasMany (open_counts (in_br_table blocks x))) (scope_of names) (flat_map (at_label blocks) x.labels)
    (at_label blocks x.default) (diagnostic_of c.in_err-walk_label.field-0.0)
    (c.in_ok-walk_labels.ensures names).0 (c.in_err-walk_label.ensures names))

pub returns : goal.returns
returns c names =
    let x = c.args.table.now in
    let blocks = c.args.labels.now in
    let some = c.in_ok-walk_labels.ensures names in
    let last = c.in_ok-walk_label.ensures names in (
      both_met (site_demand (scope_of names)) (flat_map (at_label blocks) x.labels) (at_label blocks x.default) some.0 last.0,
      λ i. record
          { labels = some.1 i; default = last.1 i },
    )
