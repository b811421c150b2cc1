-- The object of a command, by its entry.
use Rattle.std.proofs.Common.{◌++◌, ap, ◌∙◌}
use Rattle.std.specs.Prelude.{option_copied}
use Rattle.wast_script_json.specs.Json.{written}
use Rattle.wast_script_json.specs.Entries.{Entry}
use Rattle.wast_script_json.specs.Commands.{entry_text}
use Rattle.wast_script_json.proofs.commands.write_object.Goals as goal

pub returns-in_ok-module_object-in-Module-clause-text : goal.returns-in_ok-module_object-in-Module-clause-text
returns-in_ok-module_object-in-Module-clause-text c s know k =
    c.in_ok-module_object-in-Module.ensures.text k
    ∙ ap (λ (e : Entry). written c.args.json.now ++ entry_text c.args.script.now s c.args.command (option_copied c.args.converted) e) c.in-Module.ensures

pub returns-in_ok-action_object-in-Action-clause-text : goal.returns-in_ok-action_object-in-Action-clause-text
returns-in_ok-action_object-in-Action-clause-text c s know k =
    c.in_ok-action_object-in-Action.ensures.text s know k
    ∙ ap (λ (e : Entry). written c.args.json.now ++ entry_text c.args.script.now s c.args.command (option_copied c.args.converted) e) c.in-Action.ensures

pub returns-in_ok-other_object-in-Other-clause-text : goal.returns-in_ok-other_object-in-Other-clause-text
returns-in_ok-other_object-in-Other-clause-text c s know k =
    c.in_ok-other_object-in-Other.ensures.text s know k
    ∙ ap (λ (e : Entry). written c.args.json.now ++ entry_text c.args.script.now s c.args.command (option_copied c.args.converted) e) c.in-Other.ensures
