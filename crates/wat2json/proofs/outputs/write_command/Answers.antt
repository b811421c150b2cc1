-- A command, and perhaps a piece after it.
use Rattle.std.specs.Prelude.{option_copied}
use Rattle.wast_script_json.proofs.Pieces.{passes}
use Rattle.wat2json.proofs.outputs.write_command.Goals as goal

pub returns : goal.returns
returns g c s is_first at =
    passes c.args.script.now s is_first c.args.command.now (option_copied c.args.module) c.args.json.now c.command.new.self c.write_piece.new.json
    (g.W.Write.contents c.args.writer.now)
    (g.W.Write.contents c.write_piece.new.writer) (c.in_ok-command.ensures.appends s is_first at) c.in_ok-write_piece.ensures
