-- Closes the steps of the loop, each by the lemma on that step.
use Rattle.std.proofs.Common.{◌∙◌, ◌+◌, ◌-◌, Some, sym, ap, arith, drop, length}
use Rattle.std.proofs.lemmas.List.{take_all, length-drop}
use Rattle.wat_tokens.proofs.Scanned.{cut_here, cut_on, cut_end}
use Rattle.wat_tokens.proofs.floats.cut_at.Goals as goal

pub returns-then-is_either-clause-front : goal.returns-then-is_either-clause-front
returns-then-is_either-clause-front c =
    sym (ap (λ t. t.0) (cut_here c.args.upper c.args.lower c.loop-i.i c.args.text.now c.loop-i-test.true
    (sym c.is_either.ensures ∙ c.if-is_either.true) c.loop-i.invariant))

pub returns-then-is_either-clause-rest : goal.returns-then-is_either-clause-rest
returns-then-is_either-clause-rest c =
    ap (λ t. t.1) (cut_here c.args.upper c.args.lower c.loop-i.i c.args.text.now c.loop-i-test.true
    (sym c.is_either.ensures ∙ c.if-is_either.true) c.loop-i.invariant)
    ∙ ap Some (sym (take_all (length c.args.text.now - (c.loop-i.i + 1))
    (drop (c.loop-i.i + 1) c.args.text.now) (omega (arith, length-drop (c.loop-i.i + 1) c.args.text.now))))

pub loop-i-preserved : goal.loop-i-preserved
loop-i-preserved c = cut_on c.args.upper c.args.lower c.loop-i.i c.args.text.now c.loop-i-test.true
    (sym c.is_either.ensures ∙ c.if-is_either.false) c.loop-i.invariant

pub returns-clause-front : goal.returns-clause-front
returns-clause-front c = sym (ap (λ t. t.0) (cut_end c.args.upper c.args.lower c.loop-i.i c.args.text.now c.loop-i-test.false c.loop-i.invariant))

pub returns-clause-rest : goal.returns-clause-rest
returns-clause-rest c = ap (λ t. t.1) (cut_end c.args.upper c.args.lower c.loop-i.i c.args.text.now c.loop-i-test.false c.loop-i.invariant)
