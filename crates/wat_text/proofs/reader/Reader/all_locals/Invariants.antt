-- The loop of `all_locals`: the rule has the same result from all tokens as from the tokens that are left, with the parts so far.
use Rattle.std.proofs.Common.{◌-◌, map}
use Rattle.wat_syntax.specs.Tokens.{many_lists, with_parts, is_form}
use Rattle.wat_tokens.specs.declared.words.Key.TheVariants as key
use Rattle.wat_syntax.specs.Modules.{local, locals}
use Rattle.wat_syntax.specs.BareFields.{bare_local}
use Rattle.wat_text.specs.Readers.{left}
use Rattle.wat_text.proofs.Steps.{Steps}
use Rattle.wat_text.proofs.reader.Reader.all_locals.Given as goal

abbrev pub invariant-loop : goal.invariant-loop
invariant-loop l = Steps l.fn.self l.self (with_parts (map bare_local l.fn.locals) (locals (left l.fn.self)))
    (with_parts (map bare_local l.locals) (many_lists (is_form key.Local) local (l.end - l.counter) (left l.self)))
