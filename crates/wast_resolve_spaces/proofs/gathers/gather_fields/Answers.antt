use Rattle.std.proofs.Common.{◌++◌, map, sym, ap, ◌∙◌}
use Rattle.std.proofs.lemmas.Simd.{map-map}
use Rattle.wast_base.specs.Ids.{mark_of_option}
use Rattle.wast_base.specs.Spaces.{name_if}
use Rattle.wast_resolve_spaces.proofs.gathers.gather_fields.Goals as goal

pub returns : goal.returns
returns c =
    let fs = c.args.fields.now in
    c.in_ok-gather_each.ensures ∙ (ap (λ ns. ns ++ map (λ f. name_if (mark_of_option f.id)) fs) c.in_ok-gathering.ensures
    ∙ sym (map-map name_if (λ f. mark_of_option f.id) fs))
