use Rattle.std.proofs.Common.{◌+◌, ◌≤◌, sym, ◌∙◌, length, take, subst}
use Rattle.std.specs.List.{flat_map}
use Rattle.std.specs.Prelude.{All}
use Rattle.std.proofs.lemmas.List.Folds.{length-flat_map-take}
use Rattle.wasm_ops.proofs.Sinking.{cut_back, one_item_more}
use Rattle.wasm_ops.proofs.encode.EachEncode.encode.Goals as goal

pub returns-then-is_err : goal.returns-then-is_err
returns-then-is_err g c =
    let rules = g.S.Sink.rules in
    let xs = c.args.self.now.0.now in
    let way = c.args.self.now.1 in
    let k = c.loop-item.item-index in
    let f = g.W.EncodeWith.spelling way in
    let fits = g.W.EncodeWith.in_range way in
    let x = flat_map f (take k xs) in
    let y = f c.item-item.result in
    let is = c.item-item.is in
    cut_back rules (All fits xs) (fits c.item-item.result) c.args.out.now c.loop-item.out c.spell-result.new.out c.cut.new.self x y
    (flat_map f xs) c.size-start.result c.spell-result.result
    g.met.S.Sink.laws (subst (λ v. length x + length (f v) ≤ length (flat_map f xs)) (sym is)
    (length-flat_map-take f xs k c.item-item.result c.loop-item-test.true))
    (λ t. subst fits (sym is) (t k c.item-item.result c.loop-item-test.true)) c.loop-item.invariant.told c.spell-result.ensures
    (sym c.is_err.ensures.value ∙ c.if-is_err.true) c.size-start.ensures c.cut.ensures

pub loop-item-preserved : goal.loop-item-preserved
loop-item-preserved g c =
    let rules = g.S.Sink.rules in
    let way = c.args.self.now.1 in
    let i = c.loop-item.invariant in
    let more = one_item_more rules (g.W.EncodeWith.spelling way)
    (g.W.EncodeWith.in_range way) c.args.out.now c.loop-item.out c.spell-result.new.out c.args.self.now.0.now c.loop-item.item-index
    c.item-item.result c.spell-result.result
    g.met.S.Sink.laws c.loop-item-test.true c.item-item.is i.told i.fitting c.spell-result.ensures (sym c.is_err.ensures.value ∙ c.if-is_err.false) in
    record { told = more.0; fitting = more.1; at = i.at }
