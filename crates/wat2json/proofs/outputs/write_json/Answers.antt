-- The beginning, the commands and the end are the whole.
use Rattle.std.proofs.Common.{true, ◌∙◌}
use Rattle.wast_script_json.specs.Entries.{commands_in}
use Rattle.wast_script_json.specs.Files.{with_modules}
use Rattle.wast_script_json.specs.References.{nothing_known}
use Rattle.wast_script_json.proofs.Pieces.{prints}
use Rattle.wat2json.proofs.outputs.write_json.Goals as goal

pub returns : goal.returns
returns g c =
    prints c.args.script.now c.args.source.now c.as_bytes.result.now
    (with_modules (commands_in c.args.script.now) c.args.modules.now) c.in_ok-json.json c.write_pieces.new.json c.end.new.self
    (g.W.Write.contents c.args.writer.now) (g.W.Write.contents c.write_pieces.new.writer)
    (g.W.Write.contents c.write_bytes.new.writer) c.in_ok-json.ensures.text
    (c.in_ok-write_pieces.ensures nothing_known true (c.in_ok-json.ensures.stands c.args.script.now.text.now)) c.in_ok-end.ensures
    (c.as_bytes.ensures.value ∙ c.text.ensures)
    c.in_ok-write_bytes.ensures.whole
