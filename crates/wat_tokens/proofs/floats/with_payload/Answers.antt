-- Closes the arms: the lemmas say what the rules make of a payload that is read.
use Rattle.std.proofs.Common.{◌≡◌, ◌∙◌, ◌+◌, ◌<◌, ◌≤◌, Ok, ap, subst, arith}
use Rattle.wat_grammar.specs.Integers.{hexnum}
use Rattle.wat_tokens.specs.Numbers.{sized}
use Rattle.wat_tokens.specs.Fractions.{ieee}
use Rattle.wat_tokens.proofs.FloatBits.{payload_ok, payload_zero, payload_wide, payload_err}
use Rattle.wat_tokens.proofs.floats.with_payload.Goals as goal
use Rattle.wat_tokens.proofs.floats.with_payload.Goals.{then-payload-eq0-via-then-payload-eq0, then-payload-eq0-via-else-payload-eq0+then-payload-step}

pub returns-then-payload-eq0 : goal.returns-then-payload-eq0
returns-then-payload-eq0 c =
    let read : Ok c.in-Ok.payload ≡ sized (hexnum c.args.digits.now) = c.in-Ok.ensures ∙ ap (λ t. sized (hexnum t)) c.as_bytes.ensures.value in
    elim c.then-payload-eq0.branch [
      | then-payload-eq0-via-then-payload-eq0 w ↦ payload_zero (ieee c.args.format) (hexnum c.args.digits.now) c.in-Ok.payload read w.if-payload-eq0.true
      | then-payload-eq0-via-else-payload-eq0+then-payload-step w ↦ payload_wide (ieee c.args.format) (hexnum c.args.digits.now) c.in-Ok.payload read
          (subst (λ k. k ≤ c.in-Ok.payload) w.step.ensures.value w.if-payload-step.true)
    ]

pub returns-else-payload-step : goal.returns-else-payload-step
returns-else-payload-step c =
    let read : Ok c.in-Ok.payload ≡ sized (hexnum c.args.digits.now) = c.in-Ok.ensures ∙ ap (λ t. sized (hexnum t)) c.as_bytes.ensures.value in
    ap (λ k. Ok (k + c.in-Ok.payload)) c.infinity.ensures.value ∙ payload_ok (ieee c.args.format) (hexnum c.args.digits.now) c.in-Ok.payload read (omega arith)
    (subst (λ k. c.in-Ok.payload < k) c.step.ensures.value c.if-payload-step.false)

pub returns-in-Err : goal.returns-in-Err
returns-in-Err c = payload_err (ieee c.args.format) (hexnum c.args.digits.now) c.in-Err.fault
    (c.in-Err.ensures ∙ ap (λ t. sized (hexnum t)) c.as_bytes.ensures.value)
