use Rattle.std.proofs.Common.{◌∙◌, take, sym, ap, refl, length}
use Rattle.std.specs.List.{flat_map}
use Rattle.wast_core_name_section.specs.FoundNames.{saturated_count}
use Rattle.wast_core_name_section.specs.GivenNames.{named_from}
use Rattle.wast_core_name_section.proofs.Each.{each_more}
use Rattle.wast_core_name_section.proofs.NameEntries.{count_more}
use Rattle.wast_core_name_section.proofs.name_maps.count_each.Goals as goal

pub loop-part-preserved : goal.loop-part-preserved
loop-part-preserved g c =
    let f = g.W.NameItems.items c.args.way.now in
    let xs = c.args.parts.now in
    let k = c.loop-part.part-index in
    let x = c.part-item.result in
    c.saturating_add-sum.ensures
    ∙ count_more (flat_map f (take k xs)) (f x) c.loop-part.sum c.count.result c.loop-part.invariant c.count.ensures
    ∙ ap (λ z. saturated_count (length (named_from 0 z))) (sym (each_more f xs k x (f x) c.loop-part-test.true c.part-item.is refl))
