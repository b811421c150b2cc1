use Rattle.std.proofs.Common.{ℕ, Bool, ap, ◌∙◌}
use Rattle.wast_base.specs.Lines.{line_of}
use Rattle.wast_script_json.specs.Commands.{of_other}
use Rattle.wast_script_json.specs.Json.{written}
use Rattle.wast_script_json.proofs.Writing.{said}
use Rattle.wast_script_json.proofs.commands.other_object.Goals as goal

pub returns-clause-text : goal.returns-clause-text
returns-clause-text c s know k =
    said (λ (l : ℕ) (b : Bool). of_other c.args.command.kind l b) (written c.args.json.now)
    (c.line_of-line.ensures.line k ∙ ap (line_of c.args.text.now) c.other_place.ensures) (c.other_skipped-is_skipped.ensures s know) c.in_ok-write_other.ensures
