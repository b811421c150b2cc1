-- Whether a command refers to a module that is skipped, by its kind.
use Rattle.std.proofs.Common.{sym, ap, ◌∙◌}
use Rattle.wast_script_json.specs.Commands.{other_skipped}
use Rattle.wast_script_json.proofs.OtherKinds.{none_skipped}
use Rattle.wast_script_json.proofs.commands.other_skipped.Goals as goal

pub returns-in-Instance : goal.returns-in-Instance
returns-in-Instance c s k = c.is_definition_skipped.ensures s k ∙ ap (other_skipped s) (sym c.in-Instance.is)

pub returns-in-Register : goal.returns-in-Register
returns-in-Register c s k = c.is_skipped.ensures s k ∙ ap (other_skipped s) (sym c.in-Register.is)

pub returns-in_default : goal.returns-in_default
returns-in_default c s k = none_skipped s c.args.kind c.in_default.not-Instance c.in_default.not-Register
