-- The loop of `export_names`: the rule has the same result from all tokens as from the tokens that are left, with the parts so far.
use Rattle.std.proofs.Common.{◌-◌, map}
use Rattle.wat_syntax.specs.Tokens.{many, with_parts, is_form}
use Rattle.wat_tokens.specs.declared.words.Key.TheVariants as key
use Rattle.wat_syntax.specs.Modules.{inline_export, export_names}
use Rattle.wat_syntax.specs.Bare.{bare_text}
use Rattle.wat_text.specs.Readers.{left}
use Rattle.wat_text.proofs.Steps.{Steps}
use Rattle.wat_text.proofs.reader.Reader.export_names.Given as goal

abbrev pub invariant-loop : goal.invariant-loop
invariant-loop l = Steps l.fn.self l.self (with_parts (map bare_text l.fn.names) (export_names (left l.fn.self)))
    (with_parts (map bare_text l.names) (many (is_form key.Export) inline_export (l.end - l.counter) (left l.self)))
