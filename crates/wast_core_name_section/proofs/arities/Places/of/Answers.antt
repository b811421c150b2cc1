use Rattle.std.proofs.Common.{◌≡◌, ◌≤◌, ◌<◌, ◌+◌, ◌*◌, length, take, sym, ap, subst₂, ◌∙◌, arith}
use Rattle.std.specs.List.{flat_map}
use Rattle.wast_core_name_section.proofs.Checkpoints.{IsFilled, filled_first, filled_more, sum_more, counted_all, tells_filled}
use Rattle.wast_core_name_section.proofs.arities.Places.of.Goals as goal
use Rattle.wast_core_name_section.proofs.arities.Places.of.Goals.{then-i-next+then-count-room+then-sum, else-i-next}

pub loop-i-init : goal.loop-i-init
loop-i-init g c = record {
  filled = filled_first g.T.FieldTypes.types c.args.fields.now c.args.first c.saturating_add-every.result c.args.room.now
      (omega (arith, c.requires.inside.0, c.requires.inside.1)) c.requires.front c.requires.room;
  next = λ h. omega arith;
  sum = λ h. ap length (sym c.requires.front);
  inside = c.requires.inside.0;
}

pub loop-i-preserved : goal.loop-i-preserved
loop-i-preserved g c =
    let types = g.T.FieldTypes.types in
    let fields = c.args.fields.now in
    let first = c.args.first in
    let every = c.saturating_add-every.result in
    let at = c.loop-i.i in
    let i = c.loop-i.invariant in
    let inside : at + 1 ≤ c.args.end = omega (arith, c.loop-i-test.true) in
    let lt : at < length fields = omega (arith, inside, c.requires.inside.1) in
    let sum = sum_more types fields at c.loop-i.sum c.count_types.result c.saturating_add-sum.result c.index-fields-i.result lt c.index-fields-i.is
    i.sum c.count_types.ensures c.saturating_add-sum.ensures in
    elim c.if-i-next.branch [
      | then-i-next+then-count-room+then-sum w ↦
          let here : at ≡ first + c.loop-i.count * every = w.if-i-next.true ∙ i.next (omega (arith, lt)) in
          record {
            filled = subst₂ (λ n room. IsFilled types fields first every n room) (sym w.count-is) (sym w.room-is)
                (filled_more types fields first every c.loop-i.count c.loop-i.room at c.loop-i.sum w.if-count-room.true here (omega (arith, lt))
                (i.sum (omega (arith, w.if-sum.true))) i.filled);
            next = λ h. let was : c.loop-i.next ≡ first + c.loop-i.count * every = i.next (omega (arith, lt))
                in omega (arith, h, was, w.next-is, w.saturating_add-next-then-sum.ensures, ap (λ n. n * every) w.count-is);
            sum = sum;
            inside = inside;
          }
      | else-i-next w ↦ record {
        filled = subst₂ (λ n room. IsFilled types fields first every n room) (sym w.count-is) (sym w.room-is) i.filled;
        next = λ h. w.next-is ∙ (i.next (omega (arith, h, w.next-is)) ∙ ap (λ n. first + n * every) (sym w.count-is));
        sum = sum;
        inside = inside;
      }
    ]

pub returns : goal.returns
returns g c =
    let types = g.T.FieldTypes.types in
    let fields = c.args.fields.now in
    let i = c.loop-i.invariant in
    let all : c.loop-i.i ≡ c.args.end = omega (arith, i.inside, c.loop-i-test.false) in
    tells_filled types fields c.loop-i.room _ i.filled (λ h. counted_all types fields c.args.end c.loop-i.sum c.requires.back (i.sum h
    ∙ ap (λ n. length (flat_map types (take n fields))) all))
