use Rattle.std.proofs.Common.{◌≡◌, ◌∙◌, ◌-◌, ◌+◌, suc, reverse, refl, sym, ap, arith}
use Rattle.wat_syntax.specs.Bodies.{expression}
use Rattle.wat_syntax.specs.BareInstructions.{bare_expression}
use Rattle.wat_text.specs.Readers.{left}
use Rattle.wat_text.specs.Machine.{may_hint}
use Rattle.wat_text.proofs.Levels.{Whole}
use Rattle.wat_text.proofs.Kept.{held_first, held_on, whole_goes, whole_last, not_both}
use Rattle.wat_text.proofs.reader.Reader.instructions.Goals as goal
use Rattle.wat_text.proofs.reader.Reader.instructions.Goals.{else-loop-test, then-loop-test+then-is_done}

pub loop-init : goal.loop-init
loop-init c = held_first (may_hint c.args.purpose) c.args.self.now (c.left-end.result - 0) c.left-end.result c.new-body.result (omega arith) c.left-end.ensures
    c.new-body.ensures.levels c.new-body.ensures.waiting c.new-body.ensures.instrs c.new-body.ensures.hints

pub loop-preserved : goal.loop-preserved
loop-preserved c = held_on (may_hint c.args.purpose) Whole
    (expression (may_hint c.args.purpose) (left c.args.self.now)) c.args.self.now c.loop.self c.body_step.new.self
    (suc (c.left-end.result - c.loop.counter)) c.left-end.result (suc (c.left-end.result - (c.loop.counter + 1)))
    (c.left-end.result - (c.loop.counter + 1)) c.loop.body c.body_step.new.body
    c.body_step.ensures (whole_goes (reverse c.loop.body.levels.items) (left c.loop.self) (sym c.is_done.ensures ∙ c.if-is_done.false))
    (omega (arith, c.loop-test.true)) refl c.loop.invariant

pub returns : goal.returns
returns c = whole_last (may_hint c.args.purpose) c.args.self.now c.loop.self c.end_body.new.self
    (suc (c.left-end.result - c.loop.counter))
    (c.left-end.result - c.loop.counter) c.left-end.result c.loop.body c.is_done-is_done.result (bare_expression c.finish.result)
    c.loop.invariant refl c.is_done-is_done.ensures c.end_body.ensures (ap bare_expression c.finish.ensures)
    (λ e. elim c.loop-test.branch as (λ w. suc (c.left-end.result - c.loop.counter) ≡ 1) [
      | else-loop-test w ↦ omega (arith, w.loop-test)
      | then-loop-test+then-is_done w ↦ absurd (not_both (sym c.is_done-is_done.ensures ∙ e) (sym w.is_done.ensures ∙ w.if-is_done.true))
    ])
