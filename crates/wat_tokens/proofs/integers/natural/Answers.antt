-- Closes the arm of a short number: its value is that of the rule.
use Rattle.std.proofs.Common.{◌∙◌, sym, ap}
use Rattle.wat_grammar.specs.Integers.{natural}
use Rattle.wat_tokens.proofs.ShortNumbers.{natural_short}
use Rattle.wat_tokens.proofs.integers.natural.Goals as goal

pub returns-in-Some : goal.returns-in-Some
returns-in-Some c = natural_short c.args.text.now c.in-Some.value (ap natural (sym c.as_bytes.ensures.value) ∙ c.in-Some.ensures.value) c.in-Some.ensures.below
