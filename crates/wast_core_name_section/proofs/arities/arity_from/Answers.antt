use Rattle.std.proofs.Common.{◌∙◌, sym, ap}
use Rattle.std.specs.Prelude.{slice_get}
use Rattle.std.specs.List.{flat_map}
use Rattle.wast_core_name_section.specs.WithinItems.{arity_of}
use Rattle.wast_core_name_section.proofs.ListedNames.{found_at, found_past}
use Rattle.wast_core_name_section.proofs.arities.arity_from.Goals as goal

pub returns-in-Ok : goal.returns-in-Ok
returns-in-Ok g c =
    let types = g.T.FieldTypes.types in
    let xs = c.args.fields.now in
    let left = c.loop-field.left in
    let here = c.in-Ok.ensures.found in
    here.1
    ∙ ap arity_of (sym (found_at types xs c.loop-field.field-index left c.field-item.result c.loop-field-test.true c.field-item.is here.0)
    ∙ ap (slice_get (flat_map types xs)) c.loop-field.invariant)

pub returns : goal.returns
returns g c =
    ap arity_of (sym (found_past g.T.FieldTypes.types c.args.fields.now c.loop-field.field-index c.loop-field.left c.args.index
    c.loop-field-test.false c.loop-field.invariant))
