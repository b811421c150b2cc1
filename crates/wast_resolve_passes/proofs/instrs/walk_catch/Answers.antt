use Rattle.std.proofs.Common.{ap, sym, subst, ◌∙◌}
use Rattle.std.proofs.lemmas.Result.{err_from_is_err_and}
use Rattle.wast_base.specs.Faults.{diagnostic_of}
use Rattle.wast_tree_nodes.specs.Sites.{check_sites, at_label, in_caught}
use Rattle.wast_resolve_rules.specs.Demands.{first_unmet, site_demand, Answers}
use Rattle.wast_resolve_names.specs.Resolvers.{scope_of}
use Rattle.wast_resolve_names.proofs.Parts.{asking_demands, both_met, fails_first, fails_behind}
use Rattle.wast_resolve_passes.proofs.instrs.walk_catch.Goals as goal

pub returns-in_err-walk_caught : goal.returns-in_err-walk_caught
returns-in_err-walk_caught c =
    let x = c.args.catch.now in
    let s = scope_of c.args.names.now in
    let t = diagnostic_of c.in_err-walk_caught.field-0.0 in
    let p = err_from_is_err_and c.from_residual.result c.from_residual.ensures.1 in
    rw (p.1, p.2) (fails_first ⊥ ⊥ s (check_sites (in_caught x.kind)) (at_label c.args.labels.now x.label) t
    (subst (λ ds. Answers ⊥ ⊥ t (first_unmet ds)) (sym (asking_demands s (in_caught x.kind))) c.in_err-walk_caught.ensures))

pub returns-in_err-walk_label : goal.returns-in_err-walk_label
returns-in_err-walk_label c =
    let x = c.args.catch.now in
    let s = scope_of c.args.names.now in
    let t = diagnostic_of c.in_err-walk_label.field-0.0 in
    let p = err_from_is_err_and c.from_residual-in_err-walk_label.result c.from_residual-in_err-walk_label.ensures.1 in
    rw (p.1, p.2) (fails_behind ⊥ ⊥ s (check_sites (in_caught x.kind)) (at_label c.args.labels.now x.label) t
    (ap first_unmet (asking_demands s (in_caught x.kind)) ∙ c.in_ok-walk_caught.ensures.0) (c.in_err-walk_label.ensures c.args.names.now))

pub returns : goal.returns
returns c =
    let x = c.args.catch.now in
    let s = scope_of c.args.names.now in
    let named = c.in_ok-walk_label.ensures c.args.names.now in (
      both_met (site_demand s) (check_sites (in_caught x.kind)) (at_label c.args.labels.now x.label)
          (ap first_unmet (asking_demands s (in_caught x.kind)) ∙ c.in_ok-walk_caught.ensures.0) named.0,
      λ i. record { kind = c.in_ok-walk_caught.ensures.1 i; label = named.1 i },
    )
