-- Closes the steps of the loop, each by the lemma on that step.
use Rattle.std.proofs.Common.{◌∙◌, get_or, ap, ne_eqb}
use Rattle.wat_tokens.proofs.Scanned.{bare_nothing, copy_on, pass_on}
use Rattle.wat_tokens.proofs.floats.put_bare.Goals as goal
use Rattle.wat_tokens.proofs.floats.put_bare.Goals.{then-byte-ne95+in_ok-put, else-byte-ne95}

pub loop-byte-init : goal.loop-byte-init
loop-byte-init c = bare_nothing c.args.plain.now.items

pub loop-byte-preserved : goal.loop-byte-preserved
loop-byte-preserved c = elim c.if-byte-ne95.branch [
  | then-byte-ne95+in_ok-put w ↦ copy_on c.loop-byte.byte-index c.args.text.now c.loop-byte.plain.items
      c.args.plain.now.items c.if-byte-ne95.plain.items c.loop-byte-test.true
      (ne_eqb (get_or c.args.text.now c.loop-byte.byte-index 0) 0x5f w.if-byte-ne95.true) c.loop-byte.invariant
      (ap (λ p. p.items) w.plain-is ∙ w.in_ok-put.ensures.ok)
  | else-byte-ne95 w ↦ pass_on c.loop-byte.byte-index c.args.text.now c.loop-byte.plain.items
      c.args.plain.now.items c.if-byte-ne95.plain.items c.loop-byte-test.true
      w.if-byte-ne95.false c.loop-byte.invariant (ap (λ p. p.items) w.plain-is)
]
