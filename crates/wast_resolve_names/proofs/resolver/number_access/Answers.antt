use Rattle.std.proofs.Common.{ap, sym, ◌∙◌, subst, append-nil}
use Rattle.std.proofs.lemmas.Result.{err_from_is_err_and}
use Rattle.wast_base.specs.Faults.{diagnostic_of}
use Rattle.wast_tree_nodes.specs.Sites.{ItemIndex}
use Rattle.wast_resolve_names.specs.Tree.space
use Rattle.wast_resolve_rules.specs.Demands.{first_unmet, ask_demand, field_at, Answers}
use Rattle.wast_resolve_names.specs.Resolvers.{scope_of}
use Rattle.wast_resolve_rules.specs.Scopes.{denoted, field_in, type_at}
use Rattle.wast_resolve_rules.specs.Resolved.{resolved_index}
use Rattle.wast_resolve_rules.proofs.Unmet.{answers_first, answers_after, first_unmet-append}
use Rattle.wast_resolve_names.proofs.Accesses.{owner_met}
use Rattle.wast_resolve_names.proofs.resolver.number_access.Goals as goal

pub returns-in_err-owner : goal.returns-in_err-owner
returns-in_err-owner c =
    let s = scope_of c.args.names.now in
    let a = c.args.access.now in
    let asked = ask_demand s.known (ItemIndex space.Ty a.owner) in
    let t = diagnostic_of c.in_err-owner.field-0.0 in
    let p = err_from_is_err_and c.from_residual.result c.from_residual.ensures.1 in
    rw (p.1, p.2) (answers_first t asked (field_at s.types (denoted (s.known.number space.Ty) a.owner) a.field) (λ l. l) (λ m. m)
    (subst (λ ds. Answers ⊥ ⊥ t (first_unmet ds)) (append-nil asked) c.in_err-owner.ensures.refusal))

pub returns-in_err-number_field : goal.returns-in_err-number_field
returns-in_err-number_field c =
    let s = scope_of c.args.names.now in
    let a = c.args.access.now in
    let number = c.in_ok-owner.ensures.number in
    let t = diagnostic_of c.in_err-number_field.field-0.0 in
    let p = err_from_is_err_and c.from_residual-in_err-number_field.result c.from_residual-in_err-number_field.ensures.1 in
    rw (p.1, p.2) (answers_after t (ask_demand s.known (ItemIndex space.Ty a.owner))
    (field_at s.types (denoted (s.known.number space.Ty) a.owner) a.field) (λ l. l) (λ m. m) (owner_met s a.owner number)
    (subst (λ o. Answers ⊥ ⊥ t (first_unmet (field_at s.types o a.field))) (sym number) c.in_err-number_field.ensures))

pub returns : goal.returns
returns c =
    let s = scope_of c.args.names.now in
    let a = c.args.access.now in
    let number = c.in_ok-owner.ensures.number in
    let found = c.in_ok-number_field.ensures in (
      first_unmet-append (ask_demand s.known (ItemIndex space.Ty a.owner)) (field_at s.types (denoted (s.known.number space.Ty) a.owner) a.field)
          (owner_met s a.owner number)
          ∙ (ap (λ o. first_unmet (field_at s.types o a.field)) number ∙ found.0),
      λ i. record { owner = c.number.ensures.index i; field = (found.1 ∙ ap (λ o. resolved_index (field_in (type_at s.types o)) a.field) (sym number)) i },
    )
