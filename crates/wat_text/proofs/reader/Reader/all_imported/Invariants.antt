-- The loop of `all_imported`: the rule has the same result from all tokens as from the tokens that are left, with the parts so far.
use Rattle.std.proofs.Common.{◌-◌, map}
use Rattle.wat_tokens.specs.declared.words.Key.TheVariants as key
use Rattle.wat_syntax.specs.Tokens.{with_parts}
use Rattle.wat_syntax.specs.Customs.{entries, imported, imports_info}
use Rattle.wat_syntax.specs.BareFields.{bare_imported}
use Rattle.wat_text.specs.Readers.{left}
use Rattle.wat_text.proofs.Steps.{Steps}
use Rattle.wat_text.proofs.reader.Reader.all_imported.Given as goal

abbrev pub invariant-loop : goal.invariant-loop
invariant-loop l = Steps l.fn.self l.self (with_parts (map bare_imported l.fn.items) (imports_info (left l.fn.self)))
    (with_parts (map bare_imported l.items) (entries key.ImportInfo imported (l.end - l.counter) (left l.self)))
