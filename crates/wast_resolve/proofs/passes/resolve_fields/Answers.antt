use Rattle.std.proofs.Common.{◌∙◌, ap, map}
use Rattle.std.proofs.lemmas.Result.{err_from_is_err_and}
use Rattle.wast_base.specs.Faults.{diagnostic_of}
use Rattle.wast_resolve_rules.specs.Scopes.{Scope, shapes_of_types}
use Rattle.wast_tree_map.specs.Mapped.{mapped_field}
use Rattle.wast_resolve_rules.specs.Resolved.{numbering_change}
use Rattle.wast_resolve_names.specs.Resolvers.{known_of, scope_of}
use Rattle.wast_resolve.proofs.BothPasses.{items_stop, items_met, items_known, shapes_need, shapes_stop, scope_known, uses_stop, both_pass}
use Rattle.wast_resolve.proofs.passes.resolve_fields.Goals as goal

pub returns-in_err-spaces-clause-refusal : goal.returns-in_err-spaces-clause-refusal
returns-in_err-spaces-clause-refusal c =
    let p = err_from_is_err_and c.from_residual.result c.from_residual.ensures.1 in
    rw (p.1, p.2) (items_stop c.args.fields.now c.as_slice.result.now c.as_slice.ensures
    (diagnostic_of c.in_err-spaces.field-0.0) c.in_err-spaces.ensures.refusal)

pub type_shapes-requires : goal.type_shapes-requires
type_shapes-requires c =
    let fs = c.args.fields.now in
    shapes_need fs c.as_slice-2.result.now c.as_slice-2.ensures (items_met fs c.as_slice.result.now c.as_slice.ensures c.in_ok-spaces.ensures.met)

pub returns-in_err-types-clause-refusal : goal.returns-in_err-types-clause-refusal
returns-in_err-types-clause-refusal c =
    let fs = c.args.fields.now in
    let p = err_from_is_err_and c.from_residual-in_err-types.result c.from_residual-in_err-types.ensures.1 in
    rw (p.1, p.2) (shapes_stop fs c.as_slice-2.result.now c.as_slice-2.ensures
    (items_met fs c.as_slice.result.now c.as_slice.ensures c.in_ok-spaces.ensures.met) c.in_err-types.field-0.0 c.in_err-types.ensures.refusal)

pub walk_fields-requires : goal.walk_fields-requires
walk_fields-requires c = c.requires

pub returns-in_err-walk_fields-clause-refusal : goal.returns-in_err-walk_fields-clause-refusal
returns-in_err-walk_fields-clause-refusal c =
    let fs = c.args.fields.now in
    let gs = c.as_slice.result.now in
    let read = c.in_ok-spaces.ensures in
    let s = scope_of c.with_types-names.result in
    let known = items_known fs gs c.as_slice.ensures (known_of c.in_ok-spaces.spaces) read.names in
    let same = scope_known fs c.in_ok-spaces.spaces c.with_types-names.result c.in_ok-types.types.items known (c.in_ok-types.ensures.types
    ∙ ap shapes_of_types c.as_slice-2.ensures) c.with_types-names.ensures in
    let p = err_from_is_err_and c.from_residual-in_err-walk_fields.result c.from_residual-in_err-walk_fields.ensures.1 in
    rw (p.1, p.2) (uses_stop fs s same (items_met fs gs c.as_slice.ensures read.met)
    (diagnostic_of c.in_err-walk_fields.field-0.0) c.in_err-walk_fields.ensures)

pub returns-clause-met : goal.returns-clause-met
returns-clause-met c =
    let fs = c.args.fields.now in
    let gs = c.as_slice.result.now in
    let read = c.in_ok-spaces.ensures in
    let s = scope_of c.with_types-names.result in
    let known = items_known fs gs c.as_slice.ensures (known_of c.in_ok-spaces.spaces) read.names in
    let same = scope_known fs c.in_ok-spaces.spaces c.with_types-names.result c.in_ok-types.types.items known (c.in_ok-types.ensures.types
    ∙ ap shapes_of_types c.as_slice-2.ensures) c.with_types-names.ensures in
    both_pass fs s same (items_met fs gs c.as_slice.ensures read.met) c.in_ok-walk_fields.ensures.0

pub returns-clause-list : goal.returns-clause-list
returns-clause-list c =
    let fs = c.args.fields.now in
    let known = items_known fs c.as_slice.result.now c.as_slice.ensures (known_of c.in_ok-spaces.spaces) c.in_ok-spaces.ensures.names in
    let same = scope_known fs c.in_ok-spaces.spaces c.with_types-names.result c.in_ok-types.types.items known (c.in_ok-types.ensures.types
    ∙ ap shapes_of_types c.as_slice-2.ensures) c.with_types-names.ensures in
    c.in_ok-walk_fields.ensures.1 ∙ ap (λ (s : Scope). map (mapped_field (numbering_change s)) fs) same

pub returns-clause-names : goal.returns-clause-names
returns-clause-names c =
    ap known_of c.with_types-names.ensures
    ∙ items_known c.args.fields.now c.as_slice.result.now c.as_slice.ensures (known_of c.in_ok-spaces.spaces) c.in_ok-spaces.ensures.names

pub returns-clause-scope : goal.returns-clause-scope
returns-clause-scope c =
    let fs = c.args.fields.now in
    let known = items_known fs c.as_slice.result.now c.as_slice.ensures (known_of c.in_ok-spaces.spaces) c.in_ok-spaces.ensures.names in
    scope_known fs c.in_ok-spaces.spaces c.with_types-names.result c.in_ok-types.types.items known (c.in_ok-types.ensures.types
    ∙ ap shapes_of_types c.as_slice-2.ensures) c.with_types-names.ensures
