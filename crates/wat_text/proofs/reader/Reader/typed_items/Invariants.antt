-- The loop of `typed_items`: the rule has the same result from all tokens as from the tokens that are left, with the parts so far.
use Rattle.std.proofs.Common.{◌-◌, map}
use Rattle.wat_syntax.specs.Tokens.{many, with_parts, is_form}
use Rattle.wat_tokens.specs.declared.words.Key.TheVariants as key
use Rattle.wat_syntax.specs.Modules.{import_item, import_items_of}
use Rattle.wat_syntax.specs.BareFields.{bare_import_item}
use Rattle.wat_text.specs.Readers.{left}
use Rattle.wat_text.proofs.Steps.{Steps}
use Rattle.wat_text.proofs.reader.Reader.typed_items.Given as goal

abbrev pub invariant-loop : goal.invariant-loop
invariant-loop l = Steps l.fn.self l.self (with_parts (map bare_import_item l.fn.items) (import_items_of (left l.fn.self)))
    (with_parts (map bare_import_item l.items) (many (is_form key.Item) import_item (l.end - l.counter) (left l.self)))
