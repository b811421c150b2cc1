-- The text after a command, and what is known then.
use Rattle.std.proofs.Common.{Bool, List, ℕ, ◌++◌, append_assoc, ap, ◌∙◌}
use Rattle.std.specs.Prelude.{option_copied}
use Rattle.wast_script_json.specs.Json.{written}
use Rattle.wast_script_json.specs.Commands.{closes, object_text, before_command}
use Rattle.wast_script_json.proofs.commands.ScriptJson.command.Goals as goal

pub returns : goal.returns
returns c = record {
  appends = λ s is_first at.
      let next = c.in_ok-pass.ensures s at.knows in
      let object = object_text c.args.script.now s c.args.command.now (option_copied c.args.converted) in
      let before = written c.args.self.now.json in
      let is_end = closes c.args.command.now.kind in
      record {
        next = next.0;
        after = next.1;
        stands = record { counts = c.write_object.ensures.counts at.counts; knows = next.2; first = c.opens-self.ensures };
        text = c.in_ok-write_object.ensures.text s at.knows at.counts
            ∙ ap (λ (l : List ℕ). l ++ object) (c.in_ok-write_separator.ensures
            ∙ ap (λ (b : Bool). before ++ before_command c.args.self.now.is_first b) c.closes.ensures
            ∙ ap (λ (b : Bool). before ++ before_command b is_end) at.first)
            ∙ append_assoc before (before_command is_first is_end) object;
      };
}
