use Rattle.std.proofs.Common.{ℕ, List, Bool}
use Rattle.wast_script_json.specs.Commands.{of_action, unless_skipped}
use Rattle.wast_script_json.specs.Entries.{told}
use Rattle.wast_script_json.specs.Json.{written}
use Rattle.wast_script_json.proofs.Writing.{said_of_three}
use Rattle.wast_script_json.proofs.commands.action_object.Goals as goal

pub returns-clause-text : goal.returns-clause-text
returns-clause-text c s know k =
    let e = c.args.command in
    said_of_three (λ (l : ℕ) (b : Bool) (t : List ℕ). unless_skipped b l e.ty.now
    (of_action c.args.script.now l e.ty.now e.action (told e.message) e.results t)) (written c.args.json.now)
    (c.line_of-line.ensures.line k) (c.is_skipped-is_skipped.ensures s know) (c.types_for-types.ensures s know) c.in_ok-write_command_of_action.ensures
