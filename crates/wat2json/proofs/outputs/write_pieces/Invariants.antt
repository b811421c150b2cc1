-- What the loop of `write_pieces` keeps: the commands that are left, and what the text is with them.
use Rattle.std.proofs.Common.{Bool, drop}
use Rattle.wast_script_json.specs.Entries.{commands_in}
use Rattle.wast_script_json.specs.Files.{Stands, with_modules}
use Rattle.wast_script_json.specs.References.{State}
use Rattle.wast_script_json.proofs.Pieces.{Reached}
use Rattle.wat2json.proofs.outputs.write_pieces.Given as goal

abbrev pub invariant-loop-command : goal.invariant-loop-command
invariant-loop-command g l =
    (s : State) (is_first : Bool) → Stands l.script.text.now s is_first l.fn.json
    → Reached l.script s is_first (with_modules (commands_in l.script) l.modules)
    (with_modules (drop l.command-index l.commands) l.rest) l.fn.json l.json (g.W.Write.contents l.fn.writer)
    (g.W.Write.contents l.writer)
