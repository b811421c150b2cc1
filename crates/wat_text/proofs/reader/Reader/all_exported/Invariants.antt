-- The loop of `all_exported`: the rule has the same result from all tokens as from the tokens that are left, with the parts so far.
use Rattle.std.proofs.Common.{◌-◌, map}
use Rattle.wat_tokens.specs.declared.words.Key.TheVariants as key
use Rattle.wat_syntax.specs.Tokens.{with_parts}
use Rattle.wat_syntax.specs.Customs.{entries, exported, exports_info}
use Rattle.wat_syntax.specs.BareFields.{bare_exported}
use Rattle.wat_text.specs.Readers.{left}
use Rattle.wat_text.proofs.Steps.{Steps}
use Rattle.wat_text.proofs.reader.Reader.all_exported.Given as goal

abbrev pub invariant-loop : goal.invariant-loop
invariant-loop l = Steps l.fn.self l.self (with_parts (map bare_exported l.fn.items) (exports_info (left l.fn.self)))
    (with_parts (map bare_exported l.items) (entries key.ExportInfo exported (l.end - l.counter) (left l.self)))
