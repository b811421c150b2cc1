use Rattle.std.proofs.Common.{◌≡◌, ◌∙◌, ◌-◌, ◌+◌, suc, false, reverse, refl, sym, ap, arith}
use Rattle.wat_syntax.specs.Bodies.{folded_expression}
use Rattle.wat_syntax.specs.BareInstructions.{bare_expression}
use Rattle.wat_text.specs.Readers.{left}
use Rattle.wat_text.proofs.Levels.{One}
use Rattle.wat_text.proofs.Kept.{folded_first, held_on, one_goes, folded_last, not_both}
use Rattle.wat_text.proofs.reader.Reader.folded.Goals as goal
use Rattle.wat_text.proofs.reader.Reader.folded.Goals.{else-loop-test, then-loop-test+then-is_closed}

pub loop-init : goal.loop-init
loop-init c = folded_first c.args.self.now c.open.new.self c.folded_operator.new.self
    (c.left-end.result - 0) c.left-end.result c.new-body.result c.folded_operator.new.body
    c.open.ensures c.folded_operator.ensures (omega arith) c.left-end.ensures
    c.new-body.ensures.levels c.new-body.ensures.waiting c.new-body.ensures.instrs c.new-body.ensures.hints

pub loop-preserved : goal.loop-preserved
loop-preserved c = held_on false One (folded_expression (left c.args.self.now)) c.args.self.now c.loop.self c.body_step.new.self
    (suc (c.left-end.result - c.loop.counter)) (suc c.left-end.result) (suc (c.left-end.result - (c.loop.counter + 1)))
    (c.left-end.result - (c.loop.counter + 1)) c.loop.body c.body_step.new.body
    c.body_step.ensures (one_goes (reverse c.loop.body.levels.items) (left c.loop.self) (sym c.is_closed.ensures ∙ c.if-is_closed.false))
    (omega (arith, c.loop-test.true)) refl c.loop.invariant

pub returns : goal.returns
returns c = folded_last c.args.self.now c.loop.self c.end_body.new.self
    (suc (c.left-end.result - c.loop.counter)) (suc c.left-end.result) c.loop.body c.is_closed-2.result (bare_expression c.finish.result)
    c.loop.invariant c.is_closed-2.ensures c.end_body.ensures (ap bare_expression c.finish.ensures)
    (λ e. elim c.loop-test.branch as (λ w. suc (c.left-end.result - c.loop.counter) ≡ 1) [
      | else-loop-test w ↦ omega (arith, w.loop-test)
      | then-loop-test+then-is_closed w ↦ absurd (not_both (sym c.is_closed-2.ensures ∙ e) (sym w.is_closed.ensures ∙ w.if-is_closed.true))
    ])
