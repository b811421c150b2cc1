use Rattle.std.proofs.Common.{◌+◌, ◌∙◌, take, sym, ap, length, length-append, arith}
use Rattle.std.specs.List.{flat_map}
use Rattle.std.proofs.lemmas.List.{take_all}
use Rattle.wast_core_name_section.specs.FoundNames.{item_seen}
use Rattle.wast_core_name_section.specs.GivenNames.{named_from}
use Rattle.wast_core_name_section.proofs.Checkpoints.{from_place}
use Rattle.wast_core_name_section.proofs.Each.{each_more}
use Rattle.wast_core_name_section.proofs.NameEntries.{nameless_more, named_behind}
use Rattle.wast_core_name_section.proofs.names_each.from_named.Goals as goal

pub returns-then-names_in-ne0 : goal.returns-then-names_in-ne0
returns-then-names_in-ne0 g c n =
    let f = g.T.MayHaveName.names in
    let xs = c.args.parts.now in
    let i = c.loop-i.invariant in
    ap (λ ys. named_from (n + c.loop-i.before) (flat_map f ys)) (from_place xs c.loop-i.i) ∙ named_behind f xs c.loop-i.i c.loop-i.before i.count i.none n

pub loop-i-preserved : goal.loop-i-preserved
loop-i-preserved g c =
    let f = g.T.MayHaveName.names in
    let xs = c.args.parts.now in
    let k = c.loop-i.i in
    let x = c.index-parts-i.result in
    let i = c.loop-i.invariant in
    let items = flat_map f (take k xs) in
    let one = item_seen c.item-item.result in
    let more = each_more f xs k x one c.loop-i-test.true c.index-parts-i.is c.item-item.ensures in
    let count = c.items_in-before.ensures in
    record {
      none = λ n. ap (named_from n) more ∙ nameless_more items one c.names_in.result i.none c.names_in.ensures c.if-names_in-ne0.false n;
      count = omega (arith, i.count, count.count, ap length more, length-append items one);
      few = omega (arith, i.few, count.few);
    }

pub returns : goal.returns
returns g c n =
    let f = g.T.MayHaveName.names in
    let xs = c.args.parts.now in
    let i = c.loop-i.invariant in
    sym (ap (λ ys. named_from n (flat_map f ys)) (sym (take_all c.loop-i.i xs c.loop-i-test.false)) ∙ i.none n)
