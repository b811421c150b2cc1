-- The goal of `labels` that tactics leave open, closed by lemmas of Labels.
use Rattle.std.proofs.Common.{rules, ◌≡◌, true}
use Rattle.wat_syntax.specs.Types.{is_index_next}
use Rattle.wat_text.specs.Readers.{left}
use Rattle.wat_text.proofs.Labels.{one_label}
use Rattle.wat_text.proofs.reader.Reader.labels.Goals as goal

-- `search` does not find which label goes into the list
pub loop-preserved : goal.loop-preserved
loop-preserved c =
    let yet : is_index_next (left c.loop.self) ≡ true = search rules in
    one_label _ c.args.self.now c.loop.self c.index-index.new.self c.push_index.new.self c.loop.counter
    c.left-end.result c.loop.last c.index-index.result c.loop.labels c.push_index.new.indices
    (search rules) yet c.index-index.ensures c.push_index.ensures c.loop.invariant
