-- The loop of `all_values`: the rule has the same result from all tokens as from the tokens that are left, with the values so far.
use Rattle.std.proofs.Common.{◌-◌}
use Rattle.wat_syntax.specs.Tokens.{many_lists, with_parts}
use Rattle.wast_script.specs.Constants.{is_form_next, argument_or_result, values}
use Rattle.wast_script.specs.Readers.{left, read_values}
use Rattle.wast_script.proofs.Onto.{Adds}
use Rattle.wast_script.proofs.reader.Reader.all_values.Given as goal

abbrev pub invariant-loop : goal.invariant-loop
invariant-loop l = Adds l.fn.self l.self (with_parts (read_values l.fn.self.lists) (values l.usage (left l.fn.self)))
    (with_parts (read_values l.self.lists) (many_lists is_form_next (argument_or_result l.usage) (l.end - l.counter) (left l.self)))
