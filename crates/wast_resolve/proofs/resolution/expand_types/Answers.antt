use Rattle.std.proofs.Common.{◌+◌, ◌∙◌, List, ap, sym, subst}
use Rattle.std.proofs.lemmas.Result.{err_from_is_err_and}
use Rattle.std.specs.Prelude.{All}
use Rattle.wast_expand_keys.specs.Expanded.{expanded_fields, type_id_count, StopsExpanding}
use Rattle.wast_expand_types.specs.Binding.{IsPassedField}
use Rattle.wast_resolve_passes.specs.NumberedBodies.{IsNumberedField}
use Rattle.wast_resolve.specs.Tree.{ModuleField}
use Rattle.wast_resolve.proofs.StableBodies.{all_passed, all_numbered}
use Rattle.wast_resolve.proofs.resolution.expand_types.Goals as goal

pub expand_with-requires : goal.expand_with-requires
expand_with-requires c h =
    subst (All IsPassedField) (sym c.has_stable_bodies-is_stable.ensures.stays)
    (all_passed c.args.fields (sym c.has_stable_bodies-is_stable.ensures.stable ∙ h))

pub returns-in_err-expanded-clause-refusal : goal.returns-in_err-expanded-clause-refusal
returns-in_err-expanded-clause-refusal c =
    let p = err_from_is_err_and c.from_residual.result c.from_residual.ensures.1 in
    rw (p.1, p.2) (subst (λ (xs : List ModuleField). StopsExpanding c.args.gensym.now xs c.in_err-expanded.field-0.0)
    c.has_stable_bodies-is_stable.ensures.stays c.in_err-expanded.ensures.refusal)

pub returns-clause-list : goal.returns-clause-list
returns-clause-list c = c.in_ok-expanded.ensures.list ∙ ap (expanded_fields c.args.gensym.now) c.has_stable_bodies-is_stable.ensures.stays

pub returns-clause-numbered : goal.returns-clause-numbered
returns-clause-numbered c h =
    let list = c.in_ok-expanded.ensures.list ∙ ap (expanded_fields c.args.gensym.now) c.has_stable_bodies-is_stable.ensures.stays in
    subst (All IsNumberedField) (sym list)
    (all_numbered c.args.gensym.now c.args.fields (sym c.has_stable_bodies-is_stable.ensures.stable ∙ h))

pub returns-clause-counted : goal.returns-clause-counted
returns-clause-counted c = c.in_ok-expanded.ensures.counted
    ∙ ap (λ (xs : List ModuleField). c.args.gensym.now + type_id_count xs) c.has_stable_bodies-is_stable.ensures.stays
