-- The loop of `on_clauses`: the rule has the same result from all tokens as from the tokens that are left, with the parts so far.
use Rattle.std.proofs.Common.{◌-◌, map}
use Rattle.wat_tokens.specs.declared.words.Key.TheVariants as key
use Rattle.wat_syntax.specs.Tokens.{is_form, many, with_parts}
use Rattle.wat_syntax.specs.Instructions.{on, on_clauses}
use Rattle.wat_syntax.specs.BareInstructions.{bare_handle}
use Rattle.wat_text.specs.Readers.{left}
use Rattle.wat_text.proofs.Steps.{Steps}
use Rattle.wat_text.proofs.reader.Reader.on_clauses.Given as goal

abbrev pub invariant-loop : goal.invariant-loop
invariant-loop l = Steps l.fn.self l.self (with_parts (map bare_handle l.fn.handlers) (on_clauses (left l.fn.self)))
    (with_parts (map bare_handle l.handlers) (many (is_form key.On) on (l.end - l.counter) (left l.self)))
