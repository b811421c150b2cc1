-- The loop of `alternative_steps`: the rule has the same result from all tokens as from the tokens that are left, with the values so far.
use Rattle.std.proofs.Common.{◌+◌, ◌-◌, ◌≤◌}
use Rattle.wat_syntax.specs.Tokens.{with_parts}
use Rattle.wast_script.specs.Constants.{alternatives, all_alternatives}
use Rattle.wast_script.specs.Readers.{left, read_values}
use Rattle.wast_script.proofs.Onto.{Adds}
use Rattle.wast_script.proofs.reader.Reader.alternative_steps.Given as goal

abbrev pub invariant-loop : goal.invariant-loop
invariant-loop l = Adds l.fn.self l.self (with_parts (read_values l.fn.self.lists) (all_alternatives (left l.fn.self)))
    (with_parts (read_values l.self.lists) (alternatives (l.end - l.counter) l.depth (left l.self))) × (l.depth ≤ l.counter + 1)
