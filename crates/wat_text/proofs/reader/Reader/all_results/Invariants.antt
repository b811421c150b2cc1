-- The loop of `all_results`: the rule has the same result from all tokens as from the tokens that are left, with the parts so far.
use Rattle.std.proofs.Common.{◌-◌}
use Rattle.wat_syntax.specs.Tokens.{many_lists, with_parts, is_form}
use Rattle.wat_tokens.specs.declared.words.Key.TheVariants as key
use Rattle.wat_syntax.specs.Types.{result, all_results}
use Rattle.wat_syntax.specs.Bare.{bare_vals}
use Rattle.wat_text.specs.Readers.{left}
use Rattle.wat_text.proofs.Steps.{Steps}
use Rattle.wat_text.proofs.reader.Reader.all_results.Given as goal

abbrev pub invariant-loop : goal.invariant-loop
invariant-loop l = Steps l.fn.self l.self (with_parts (bare_vals l.fn.results) (all_results (left l.fn.self)))
    (with_parts (bare_vals l.results) (many_lists (is_form key.Result) result (l.end - l.counter) (left l.self)))
