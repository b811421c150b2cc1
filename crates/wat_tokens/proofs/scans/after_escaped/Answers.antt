-- Closes the ways out by the lemma on each.
use Rattle.std.proofs.Common.{arith, ltb-false}
use Rattle.wat_tokens.proofs.Quotes.{two_past, one_past, none_past}
use Rattle.wat_tokens.proofs.scans.after_escaped.Goals as goal

pub returns-in-empty-clause-past : goal.returns-in-empty-clause-past
returns-in-empty-clause-past c = none_past c.args.text.now (omega arith)

pub returns-in-empty-rest-clause-past : goal.returns-in-empty-rest-clause-past
returns-in-empty-rest-clause-past c = one_past c.args.text.now (omega (arith, ltb-false))

pub returns-in-34-clause-past : goal.returns-in-34-clause-past
returns-in-34-clause-past c = one_past c.args.text.now (omega (arith, ltb-false))

pub returns-in-92-clause-past : goal.returns-in-92-clause-past
returns-in-92-clause-past c = one_past c.args.text.now (omega (arith, ltb-false))

pub returns-in-len1-up-rest-clause-past : goal.returns-in-len1-up-rest-clause-past
returns-in-len1-up-rest-clause-past c = two_past c.args.text.now (omega (arith, ltb-false)) (omega (arith, ltb-false)) (λ e. omega (arith, e))
    (λ e. omega (arith, e))
