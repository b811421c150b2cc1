-- Closes the sum, which is below 2 to 64, and the bits: by whether the mantissa goes to the right or to the left.
use Rattle.std.proofs.Common.{◌∙◌, ◌+◌, ◌-◌, ◌*◌, ◌<◌, ◌≤◌, sym, ap, subst, arith}
use Rattle.std.specs.Prelude.{min, ◌^◌}
use Rattle.std.specs.Float.Ieee.{hid, ones}
use Rattle.fast_float.specs.Rounding.{IsNearestBits}
use Rattle.wat_tokens.specs.Fractions.{ieee, IsHalved}
use Rattle.wat_tokens.proofs.Rounded.{IsPlaced, left_fits, right_fits, rounded_left, rounded_right}
use Rattle.wat_tokens.proofs.floats.rounded.Goals as goal
use Rattle.wat_tokens.proofs.floats.rounded.Goals.{then-steps-place, else-steps-place}

pub overflow_add-result : goal.overflow_add-result
overflow_add-result c =
    let f = ieee c.args.format in
    let x = c.args.place in
    let w = c.width_of.result in
    let steps = c.saturating_sub-steps.result in
    let s = c.if-steps-place.significand in
    let placed : IsPlaced f c.args.mantissa x w steps = record {
      some = c.width_of.ensures.some;
      from = c.width_of.ensures.from;
      below = c.width_of.ensures.below;
      steps_is = c.saturating_sub-steps.ensures ∙ ap (λ k. x + w - (4096 + k)) c.precision.ensures;
    } in
    let most : hid f ≤ 2 ^ 52 = subst (λ k. k ≤ 2 ^ 52) c.step.ensures.value c.step.ensures.most in
    let total : steps * hid f + s < 2 ^ 64 = elim c.if-steps-place.branch [
      | then-steps-place v ↦ right_fits f c.args.mantissa x w steps (steps + 4096 - x) s c.args.is_more placed
          (omega (arith, v.if-steps-place.true)) (subst (IsHalved c.args.mantissa (steps + 4096 - x) c.args.is_more)
          (sym v.significand-is) v.halved-significand.ensures) c.requires.place c.width_of.ensures.most most
      | else-steps-place v ↦ (left_fits f c.args.mantissa x w steps (x - steps - 4096) s placed
          (omega (arith, v.if-steps-place.false)) v.significand-is c.requires.place c.width_of.ensures.most most).1
    ] in
    omega (arith, total, ap (λ k. steps * k) c.step.ensures.value)

pub returns : goal.returns
returns c = λ num den h.
    let f = ieee c.args.format in
    let x = c.args.place in
    let w = c.width_of.result in
    let steps = c.saturating_sub-steps.result in
    let s = c.if-steps-place.significand in
    let placed : IsPlaced f c.args.mantissa x w steps = record {
      some = c.width_of.ensures.some;
      from = c.width_of.ensures.from;
      below = c.width_of.ensures.below;
      steps_is = c.saturating_sub-steps.ensures ∙ ap (λ k. x + w - (4096 + k)) c.precision.ensures;
    } in
    let most : hid f ≤ 2 ^ 52 = subst (λ k. k ≤ 2 ^ 52) c.step.ensures.value c.step.ensures.most in
    subst (λ k. IsNearestBits f num den (min (steps * k + s) (ones f * hid f))) (sym c.step.ensures.value) (elim c.if-steps-place.branch [
      | then-steps-place v ↦ rounded_right f num den c.args.mantissa x w steps c.args.is_more placed h
          (steps + 4096 - x) s (omega (arith, v.if-steps-place.true))
          (subst (IsHalved c.args.mantissa (steps + 4096 - x) c.args.is_more) (sym v.significand-is) v.halved-significand.ensures)
      | else-steps-place v ↦ rounded_left f num den c.args.mantissa x w steps c.args.is_more placed h
          (x - steps - 4096) s (omega (arith, v.if-steps-place.false))
          (left_fits f c.args.mantissa x w steps (x - steps - 4096) s placed
          (omega (arith, v.if-steps-place.false)) v.significand-is c.requires.place c.width_of.ensures.most most).0
    ])
