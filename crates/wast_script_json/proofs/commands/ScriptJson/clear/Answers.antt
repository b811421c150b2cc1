-- What is known stays.
use Rattle.wast_script_json.proofs.commands.ScriptJson.clear.Goals as goal

pub returns-clause-stands : goal.returns-clause-stands
returns-clause-stands c text s is_first at = record { counts = at.counts; knows = at.knows; first = at.first }
