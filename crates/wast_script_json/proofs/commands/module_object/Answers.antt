use Rattle.std.proofs.Common.{ℕ, ap, ◌∙◌}
use Rattle.std.specs.Prelude.{option_copied}
use Rattle.wast_script_json.specs.Commands.{of_converted, place_of}
use Rattle.wast_script_json.specs.Entries.{told}
use Rattle.wast_script_json.specs.Json.{written}
use Rattle.wast_script_json.proofs.Writing.{said}
use Rattle.wast_script_json.proofs.commands.module_object.Goals as goal

pub returns-clause-text : goal.returns-clause-text
returns-clause-text c k =
    let e = c.args.command in
    said (λ (l : ℕ) (p : ℕ × ℕ). of_converted (option_copied c.args.converted) l p e.ty.now e.«module» e.role e.is_definition (told e.message))
    (written c.args.json.now)
    (c.line_of-line.ensures.line k) (c.place_of-place.ensures.place (c.line_of-line.ensures.counts k)
    ∙ ap (place_of c.args.text.now) c.construct_in.ensures) c.in_ok-write_module.ensures
