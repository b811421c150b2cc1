-- Closes the arm of a short number: it has no sign.
use Rattle.std.proofs.Common.{◌∙◌, sym, ap}
use Rattle.wat_grammar.specs.Integers.{natural}
use Rattle.wat_tokens.proofs.ShortNumbers.{wrapped_short}
use Rattle.wat_tokens.proofs.integers.wrapped.Goals as goal

pub returns-in-Some-clause-value : goal.returns-in-Some-clause-value
returns-in-Some-clause-value c = wrapped_short c.args.half c.in-Some.value c.args.text.now c.bits.result c.ok_or.result
    (ap natural (sym c.as_bytes.ensures.value) ∙ c.in-Some.ensures.value)
    c.bits.ensures c.ok_or.ensures.value
