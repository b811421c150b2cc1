-- Closes the three ways out of the loop by the lemma on each: the definition of a string hides the text that the lemmas name.
use Rattle.std.proofs.Common.{◌∙◌, ◌-◌, sym, arith, length}
use Rattle.wat_tokens.proofs.Elements.{done, stuck, run_out, empty_is}
use Rattle.wat_tokens.proofs.strings.unescaped.Goals as goal

pub returns-then-is_empty-clause-read : goal.returns-then-is_empty-clause-read
returns-then-is_empty-clause-read c = done c.args.content.now c.loop.out.items c.loop.rest.now (length c.args.content.now - c.loop.counter)
    (empty_is c.loop.rest.now (sym c.is_empty.ensures ∙ c.if-is_empty.true)) c.loop.invariant

pub returns-in-Err-clause-read : goal.returns-in-Err-clause-read
returns-in-Err-clause-read c = λ known.
    let none = c.in-Err.ensures known in
    let s = stuck c.args.content.now c.loop.out.items c.loop.rest.now (length c.args.content.now - c.loop.counter)
    (sym c.is_empty.ensures ∙ c.if-is_empty.false) none.1 c.loop.invariant in
    (s.0, none.0 ∙ s.1)

pub returns-clause-read : goal.returns-clause-read
returns-clause-read c = run_out c.args.content.now c.loop.out.items c.loop.rest.now (length c.args.content.now - c.loop.counter)
    (omega (arith, c.loop-test.false)) c.loop.invariant
