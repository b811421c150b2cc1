use Rattle.std.proofs.Common.{◌∙◌, take, sym, ap, refl, length}
use Rattle.std.specs.List.{flat_map}
use Rattle.wast_core_name_section.specs.FoundNames.{saturated_count}
use Rattle.wast_core_name_section.specs.GivenNames.{named_from}
use Rattle.wast_core_name_section.proofs.Each.{each_more}
use Rattle.wast_core_name_section.proofs.NameEntries.{count_more}
use Rattle.wast_core_name_section.proofs.within.count_lists.Goals as goal

pub loop-part-preserved : goal.loop-part-preserved
loop-part-preserved g c =
    let lists = g.T.CountLists.lists in
    let f = lists (flat_map g.T.FieldTypes.types c.args.fields.now) c.args.within in
    let xs = c.args.there.now in
    let k = c.loop-part.part-index in
    let x = c.part-item.result in
    let here = c.count_lists.ensures
    ∙ ap (λ fs. saturated_count (length (named_from 0 (lists (flat_map g.T.FieldTypes.types fs) c.args.within x)))) c.new-arities.ensures in
    c.saturating_add-sum.ensures
    ∙ count_more (flat_map f (take k xs)) (f x) c.loop-part.sum c.count_lists.result c.loop-part.invariant here
    ∙ ap (λ z. saturated_count (length (named_from 0 z))) (sym (each_more f xs k x (f x) c.loop-part-test.true c.part-item.is refl))
