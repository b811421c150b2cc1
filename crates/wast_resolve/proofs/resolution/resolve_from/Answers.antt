use Rattle.std.proofs.Common.{◌∙◌, ◌+◌, ℕ, ap, sym, subst, subst₂, List}
use Rattle.std.proofs.lemmas.Result.{err_from_is_err_and}
use Rattle.wast_tree_nodes.specs.Items.{items}
use Rattle.wast_tree_nodes.specs.Known.{id_context}
use Rattle.wast_expand_keys.specs.Expanded.{type_id_count, StopsExpanding}
use Rattle.wast_base.specs.FirstUnmet.{first_unmet, Answers}
use Rattle.wast_base.specs.Faults.{diagnostic_of}
use Rattle.wast_resolve.specs.Tree.{ModuleField}
use Rattle.wast_resolve_rules.specs.Demands.{order_demands}
use Rattle.wast_resolve_rules.specs.Resolved.{resolved_fields}
use Rattle.wast_resolve_laws.proofs.Explicit.{wants_as_many}
use Rattle.wast_resolve_laws.proofs.Resolving.{expands_all, unordered_still, unexpanded_still, met_still, unnumbered_still}
use Rattle.wast_resolve.proofs.resolution.resolve_from.Goals as goal

pub returns-in_err-fields-2-clause-refusal : goal.returns-in_err-fields-2-clause-refusal
returns-in_err-fields-2-clause-refusal c =
    let p = err_from_is_err_and c.from_residual-in_err-fields-2.result c.from_residual-in_err-fields-2.ensures.1 in
    rw (p.1, p.2)
    (unordered_still c.args.gensym.now c.args.fields c.requires c.in_err-fields-2.field-0.0
    (subst (λ (xs : List ModuleField). Answers ⊥ ⊥ (diagnostic_of c.in_err-fields-2.field-0.0)
    (first_unmet (order_demands xs))) c.in_ok-fields.ensures.list c.in_err-fields-2.ensures.refusal))

pub returns-in_err-fields-3-clause-refusal : goal.returns-in_err-fields-3-clause-refusal
returns-in_err-fields-3-clause-refusal c =
    let p = err_from_is_err_and c.from_residual-in_err-fields-3.result c.from_residual-in_err-fields-3.ensures.1 in
    rw (p.1, p.2)
    (unexpanded_still c.args.gensym.now c.args.fields c.requires c.in_err-fields-3.field-0.0
    (subst₂ (λ (m : ℕ) (xs : List ModuleField). StopsExpanding m xs c.in_err-fields-3.field-0.0) c.in_ok-fields.ensures.counted
    (c.in_ok-fields-2.ensures.list ∙ c.in_ok-fields.ensures.list) c.in_err-fields-3.ensures.refusal))

pub resolve_with-requires : goal.resolve_with-requires
resolve_with-requires c = c.in_ok-fields-3.ensures.numbered

pub returns-in_err-fields-4-clause-refusal : goal.returns-in_err-fields-4-clause-refusal
returns-in_err-fields-4-clause-refusal c =
    let p = err_from_is_err_and c.from_residual-in_err-fields-4.result c.from_residual-in_err-fields-4.ensures.1 in
    rw (p.1, p.2)
    (unnumbered_still c.args.gensym.now c.args.fields c.requires c.in_ok-fields-3.fields
    (expands_all c.args.gensym.now c.args.fields c.in_ok-fields.ensures.list c.in_ok-fields.ensures.counted c.in_ok-fields-2.ensures.list
    c.in_ok-fields-3.ensures.list)
    (ap (λ (xs : List ModuleField). first_unmet (order_demands xs)) (sym c.in_ok-fields.ensures.list)
    ∙ c.in_ok-fields-2.ensures.met) c.in_err-fields-4.field-0.0 c.in_err-fields-4.ensures.refusal)

pub returns-clause-met : goal.returns-clause-met
returns-clause-met c =
    met_still c.args.gensym.now c.args.fields c.requires c.in_ok-fields-3.fields
    (expands_all c.args.gensym.now c.args.fields c.in_ok-fields.ensures.list c.in_ok-fields.ensures.counted c.in_ok-fields-2.ensures.list
    c.in_ok-fields-3.ensures.list)
    (ap (λ (xs : List ModuleField). first_unmet (order_demands xs)) (sym c.in_ok-fields.ensures.list)
    ∙ c.in_ok-fields-2.ensures.met) c.in_ok-fields-4.ensures.met

pub returns-clause-list : goal.returns-clause-list
returns-clause-list c = c.in_ok-fields-4.ensures.list
    ∙ ap resolved_fields (expands_all c.args.gensym.now c.args.fields c.in_ok-fields.ensures.list c.in_ok-fields.ensures.counted
    c.in_ok-fields-2.ensures.list c.in_ok-fields-3.ensures.list)

pub returns-clause-names : goal.returns-clause-names
returns-clause-names c = c.in_ok-fields-4.ensures.names
    ∙ ap (λ (xs : List ModuleField). id_context (items xs))
    (expands_all c.args.gensym.now c.args.fields c.in_ok-fields.ensures.list c.in_ok-fields.ensures.counted c.in_ok-fields-2.ensures.list
    c.in_ok-fields-3.ensures.list)

pub returns-clause-counter : goal.returns-clause-counter
returns-clause-counter c =
    c.in_ok-fields-3.ensures.counted
    ∙ ((λ i. c.in_ok-fields.ensures.counted i + type_id_count ((c.in_ok-fields-2.ensures.list ∙ c.in_ok-fields.ensures.list) i))
    ∙ wants_as_many c.args.gensym.now c.args.fields)
