use Rattle.std.proofs.Common.{◌∙◌, ◌+◌, take, drop, ap, refl, sym, nat_lt, length}
use Rattle.std.specs.List.{flat_map}
use Rattle.std.proofs.lemmas.List.{take_all}
use Rattle.wast_core_name_section.specs.FoundNames.{saturated_count}
use Rattle.wast_core_name_section.specs.GivenNames.{named_from}
use Rattle.wast_core_name_section.proofs.Each.{each_more, each_around}
use Rattle.wast_core_name_section.proofs.NameEntries.{some_more, none_more}
use Rattle.wast_core_name_section.proofs.within.any_lists.Goals as goal

pub returns-then-count_lists-ne0 : goal.returns-then-count_lists-ne0
returns-then-count_lists-ne0 g c =
    let lists = g.T.CountLists.lists in
    let f = lists (flat_map g.T.FieldTypes.types c.args.fields.now) c.args.within in
    let xs = c.args.there.now in
    let k = c.loop-part.part-index in
    let x = c.part-item.result in
    let here = c.count_lists.ensures
    ∙ ap (λ fs. saturated_count (length (named_from 0 (lists (flat_map g.T.FieldTypes.types fs) c.args.within x)))) c.new-arities.ensures in
    some_more (flat_map f (take k xs)) (f x) (flat_map f (drop (k + 1) xs)) (flat_map f xs) c.count_lists.result
    (each_around f xs k x (f x) c.loop-part-test.true c.part-item.is refl) here c.if-count_lists-ne0.true

pub loop-part-preserved : goal.loop-part-preserved
loop-part-preserved g c =
    let lists = g.T.CountLists.lists in
    let f = lists (flat_map g.T.FieldTypes.types c.args.fields.now) c.args.within in
    let xs = c.args.there.now in
    let k = c.loop-part.part-index in
    let x = c.part-item.result in
    let here = c.count_lists.ensures
    ∙ ap (λ fs. saturated_count (length (named_from 0 (lists (flat_map g.T.FieldTypes.types fs) c.args.within x)))) c.new-arities.ensures in
    ap (named_from 0) (each_more f xs k x (f x) c.loop-part-test.true c.part-item.is refl)
    ∙ none_more (flat_map f (take k xs)) (f x) c.count_lists.result c.loop-part.invariant here c.if-count_lists-ne0.false

pub returns : goal.returns
returns g c =
    let f = g.T.CountLists.lists (flat_map g.T.FieldTypes.types c.args.fields.now) c.args.within in
    let xs = c.args.there.now in
    ap (λ es. nat_lt 0 (length es)) (sym (ap (λ ys. named_from 0 (flat_map f ys)) (sym (take_all c.loop-part.part-index xs c.loop-part-test.false))
    ∙ c.loop-part.invariant))
