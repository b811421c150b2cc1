use Rattle.std.proofs.Common.{map, length, ap, ◌∙◌, subst}
use Rattle.std.proofs.lemmas.List.{length-map}
use Rattle.std.proofs.lemmas.Result.{err_from_is_err_and}
use Rattle.wast_base.specs.Faults.{diagnostic_of}
use Rattle.wast_base.specs.Spaces.{name_if, position_of}
use Rattle.wast_tree_nodes.specs.Items.{field_ids}
use Rattle.wast_resolve_namespace.specs.Filling.{FillsSpace, IsFilled}
use Rattle.wast_resolve_spaces.proofs.FieldClashes.{no_clash}
use Rattle.wast_resolve_spaces.proofs.Shaping.{stops_refused}
use Rattle.wast_resolve_spaces.proofs.shapes.field_names.Goals as goal

pub returns-in_err-gather_fields-clause-refusal : goal.returns-in_err-gather_fields-clause-refusal
returns-in_err-gather_fields-clause-refusal c =
    let ids = field_ids c.args.fields.now in
    let p = err_from_is_err_and c.from_residual.result c.from_residual.ensures.1 in
    rw (p.1, p.2) (stops_refused (diagnostic_of c.in_err-gather_fields.field-0.0) 0 (length (map name_if ids)) (length ids)
    (length-map ids name_if) c.in_err-gather_fields.ensures)

pub returns-clause-names : goal.returns-clause-names
returns-clause-names c = λ name.
    let filled : IsFilled c.in_ok-gather_fields.field-0 c.in-Ok.names = subst (FillsSpace c.in_ok-gather_fields.field-0) c.in-Ok.is c.in_ok-names.ensures in
    filled.number name ∙ ap (position_of name) c.in_ok-gather_fields.ensures

pub unreachable-requires : goal.unreachable-requires
unreachable-requires c =
    no_clash (field_ids c.args.fields.now) c.in_ok-gather_fields.ensures
    (subst (FillsSpace c.in_ok-gather_fields.field-0) c.in-Err.is c.in_ok-names.ensures) c.requires
