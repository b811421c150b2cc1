-- The loop of `write_pieces` writes one more command, and at its end all of them.
use Rattle.std.proofs.Common.{List, sym, ap, ◌∙◌, subst}
use Rattle.std.specs.Prelude.{is_some, option_copied}
use Rattle.wast_script.specs.declared.commands.Command.{Command}
use Rattle.wast_script_json.specs.Entries.{commands_in}
use Rattle.wast_script_json.specs.Files.{with_modules}
use Rattle.wast_script_json.proofs.Pieces.{Reached, reached_none, reached_next, reached_all}
use Rattle.wat2json.proofs.outputs.write_pieces.Goals as goal

pub loop-command-init : goal.loop-command-init
loop-command-init g c s is_first at =
    let ms = c.args.modules.now in
    let all = with_modules (commands_in c.args.script.now) ms in
    let now = g.W.Write.contents c.args.writer.now in
    subst (λ (cs : List Command). Reached c.args.script.now s is_first all (with_modules cs ms) c.args.json.now c.args.json.now now now)
    (sym c.commands_of-commands.ensures)
    (reached_none c.args.script.now s is_first all c.args.json.now now at)

pub loop-command-preserved : goal.loop-command-preserved
loop-command-preserved g c s is_first at =
    reached_next c.args.script.now s is_first (with_modules (commands_in c.args.script.now) c.args.modules.now) c.commands_of-commands.result.now
    c.loop-command.rest.now
    c.split_module.result.1.now c.loop-command.command-index _ c.is_some-is_needed.result
    (option_copied c.split_module.result.0) c.args.json.now c.loop-command.json
    c.write_command.new.json (g.W.Write.contents c.args.writer.now) (g.W.Write.contents c.loop-command.writer)
    (g.W.Write.contents c.write_command.new.writer) c.loop-command-test.true
    (c.is_some-is_needed.ensures ∙ ap is_some c.module_of.ensures) c.split_module.ensures.first c.split_module.ensures.rest
    (c.loop-command.invariant s is_first at)
    c.in_ok-write_command.ensures

pub returns : goal.returns
returns g c s is_first at =
    reached_all c.args.script.now s is_first (with_modules (commands_in c.args.script.now) c.args.modules.now) c.commands_of-commands.result.now
    c.loop-command.rest.now
    c.loop-command.command-index c.args.json.now c.loop-command.json (g.W.Write.contents c.args.writer.now)
    (g.W.Write.contents c.loop-command.writer) c.loop-command-test.false
    (c.loop-command.invariant s is_first at)
