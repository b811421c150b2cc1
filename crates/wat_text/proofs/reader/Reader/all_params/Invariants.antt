-- The loop of `all_params`: the rule has the same result from all tokens as from the tokens that are left, with the parts so far.
use Rattle.std.proofs.Common.{◌-◌, map}
use Rattle.wat_syntax.specs.Tokens.{many_lists, with_parts, is_form}
use Rattle.wat_tokens.specs.declared.words.Key.TheVariants as key
use Rattle.wat_syntax.specs.Types.{param, all_params}
use Rattle.wat_syntax.specs.Bare.{bare_param}
use Rattle.wat_text.specs.Readers.{left}
use Rattle.wat_text.proofs.Steps.{Steps}
use Rattle.wat_text.proofs.reader.Reader.all_params.Given as goal

abbrev pub invariant-loop : goal.invariant-loop
invariant-loop l = Steps l.fn.self l.self (with_parts (map bare_param l.fn.params) (all_params l.fn.are_named (left l.fn.self)))
    (with_parts (map bare_param l.params) (many_lists (is_form key.Param) (param l.fn.are_named) (l.end - l.counter) (left l.self)))
