-- The types of an action's results, by whether the command has results.
use Rattle.std.proofs.Common.{sym, ap, ◌∙◌}
use Rattle.wast_script_json.specs.Commands.{types_for}
use Rattle.wast_script_json.proofs.commands.types_for.Goals as goal

pub returns-in-None : goal.returns-in-None
returns-in-None c s k = c.types_of.ensures s k ∙ ap (types_for s c.args.command.now.action) (sym c.in-None.is)

pub returns-in-Some : goal.returns-in-Some
returns-in-Some c s k = ap (types_for s c.args.command.now.action) (sym c.in-Some.is)
