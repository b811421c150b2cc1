-- The goal of `typed_items` that tactics leave open, closed by lemmas of Steps.
use Rattle.std.proofs.Common.{rules}
use Rattle.wat_tokens.specs.declared.words.Key.TheVariants as key
use Rattle.wat_syntax.specs.Tokens.{is_form}
use Rattle.wat_syntax.specs.Modules.{import_item}
use Rattle.wat_syntax.specs.BareFields.{bare_import_item}
use Rattle.wat_text.proofs.Steps.{one_read}
use Rattle.wat_text.proofs.reader.Reader.typed_items.Goals as goal

-- `search` does not find what is bare of the item, because that computes to a tuple
pub loop-preserved : goal.loop-preserved
loop-preserved c = one_read bare_import_item (is_form key.Item) import_item _ _ _ _ _ c.loop.counter c.left-end.result c.import_item-item.result _
    _ c.loop-test.true (search rules) c.import_item-item.ensures c.push_item.ensures c.loop.invariant
