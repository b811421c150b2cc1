-- The goal of `producer` that tactics leave open, closed by lemmas of Producing.
use Rattle.wat_text.proofs.Producing.{producer_reads}
use Rattle.wat_text.proofs.reader.Reader.producer.Goals as goal

-- `search` does not find the value, which is a tuple
pub returns : goal.returns
returns c = producer_reads _ _ _ _ c.producer_open-tool.result _ _ c.producer_open-tool.ensures c.push_tool.ensures c.close.ensures
