use Rattle.std.proofs.Common.{◌∙◌, ap, ◌+◌, ◌*◌, ◌-◌}
use Rattle.std.specs.Prelude.{slice_get}
use Rattle.std.specs.List.{flat_map}
use Rattle.wast_core_name_section.specs.WithinItems.{arity_of}
use Rattle.wast_core_name_section.proofs.Checkpoints.{behind, from_place}
use Rattle.wast_core_name_section.proofs.arities.TypesOfArities.arity_of.Goals as goal

pub returns : goal.returns
returns g c =
    let types = g.T.FieldTypes.types in
    let s = c.args.self.now in
    let at = c.last-at.result.0 in
    let before = c.last-at.result.1 in
    let place = s.checkpoints.places.first + at * s.checkpoints.places.every in
    let told = s.told.told at c.last-at.ensures.inside in
    c.arity_from.ensures ∙ ap (λ fields. arity_of (slice_get (flat_map types fields) (c.args.index - before))) (from_place s.fields.now place)
    ∙ ap arity_of (behind types s.fields.now place before c.args.index (c.last-at.ensures.there ∙ told.1) c.last-at.ensures.below)
