-- The goals of `all_exported` that tactics leave open, closed by lemmas of Entries.
use Rattle.std.proofs.Common.{rules}
use Rattle.wat_tokens.specs.declared.words.Key.TheVariants as key
use Rattle.wat_syntax.specs.Customs.{exported, exports_info}
use Rattle.wat_syntax.specs.BareFields.{bare_exported}
use Rattle.wat_text.proofs.Entries.{one_entry, entry_end}
use Rattle.wat_text.proofs.reader.Reader.all_exported.Goals as goal

-- `search` does not find what is bare of the entry, which computes to a tuple
pub loop-preserved : goal.loop-preserved
loop-preserved c = one_entry bare_exported key.ExportInfo exported _ _ _ _ _ _ c.loop.counter c.left-end.result c.exported-item.result _ _
    c.accept_next.result c.loop-test.true c.exported-item.ensures c.push_exported.ensures c.accept_next.ensures (search rules) c.loop.invariant

pub returns-then-not-accept_next : goal.returns-then-not-accept_next
returns-then-not-accept_next c = entry_end bare_exported key.ExportInfo exported exports_info _ _ _ _ _
    c.loop.counter c.left-end.result c.exported-item.result c.args.items.now _ _ c.accept_next.result c.loop-test.true
    c.exported-item.ensures c.push_exported.ensures c.accept_next.ensures (search rules) c.loop.invariant
