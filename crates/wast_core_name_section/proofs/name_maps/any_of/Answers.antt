use Rattle.std.proofs.Common.{◌∙◌, ◌+◌, take, drop, ap, refl, sym, nat_lt, length}
use Rattle.std.specs.List.{flat_map}
use Rattle.std.proofs.lemmas.List.{take_all}
use Rattle.wast_core_name_section.specs.GivenNames.{named_from}
use Rattle.wast_core_name_section.proofs.Each.{each_more, each_around}
use Rattle.wast_core_name_section.proofs.NameEntries.{some_more, none_more}
use Rattle.wast_core_name_section.proofs.name_maps.any_of.Goals as goal

pub returns-then-count-ne0 : goal.returns-then-count-ne0
returns-then-count-ne0 g c =
    let f = g.W.NameItems.items c.args.way in
    let xs = c.args.parts.now in
    let k = c.loop-part.part-index in
    let x = c.part-item.result in
    some_more (flat_map f (take k xs)) (f x) (flat_map f (drop (k + 1) xs)) (flat_map f xs) c.count.result
    (each_around f xs k x (f x) c.loop-part-test.true c.part-item.is refl) c.count.ensures c.if-count-ne0.true

pub loop-part-preserved : goal.loop-part-preserved
loop-part-preserved g c =
    let f = g.W.NameItems.items c.args.way in
    let xs = c.args.parts.now in
    let k = c.loop-part.part-index in
    let x = c.part-item.result in
    ap (named_from 0) (each_more f xs k x (f x) c.loop-part-test.true c.part-item.is refl)
    ∙ none_more (flat_map f (take k xs)) (f x) c.count.result c.loop-part.invariant c.count.ensures c.if-count-ne0.false

pub returns : goal.returns
returns g c =
    let f = g.W.NameItems.items c.args.way in
    let xs = c.args.parts.now in
    ap (λ es. nat_lt 0 (length es)) (sym (ap (λ ys. named_from 0 (flat_map f ys)) (sym (take_all c.loop-part.part-index xs c.loop-part-test.false))
    ∙ c.loop-part.invariant))
