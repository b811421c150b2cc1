-- The module of a command, by its entry.
use Rattle.std.proofs.Common.{ap}
use Rattle.wast_script_json.specs.Entries.{module_in}
use Rattle.wast_script_json.proofs.kinds.module_of.Goals as goal

pub returns-in-Module : goal.returns-in-Module
returns-in-Module c = ap module_in c.in-Module.ensures

pub returns-in-Action : goal.returns-in-Action
returns-in-Action c = ap module_in c.in-Action.ensures

pub returns-in-Other : goal.returns-in-Other
returns-in-Other c = ap module_in c.in-Other.ensures
