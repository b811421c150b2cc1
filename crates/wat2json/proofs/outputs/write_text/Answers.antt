-- The text so far is what was written.
use Rattle.std.proofs.Common.{◌∙◌}
use Rattle.wast_script_json.proofs.Pieces.{cut}
use Rattle.wat2json.proofs.outputs.write_text.Goals as goal

pub returns : goal.returns
returns g c =
    cut c.args.json.now c.clear.new.self (g.W.Write.contents c.args.writer.now)
    (g.W.Write.contents c.write_bytes.new.writer) c.as_bytes.result.now c.in_ok-write_bytes.ensures.whole
    (c.as_bytes.ensures.value ∙ c.text.ensures) c.clear.ensures.text c.clear.ensures.stands
