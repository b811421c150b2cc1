-- The position of the line of another command than `register`.
use Rattle.wast_script_json.proofs.OtherKinds.{own_place}
use Rattle.wast_script_json.proofs.commands.other_place.Goals as goal

pub returns-in_default : goal.returns-in_default
returns-in_default c = own_place c.args.kind c.args.span c.in_default.not-Register
