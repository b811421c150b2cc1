-- Whether a script has blanks and comments alone, by its first command.
use Rattle.std.proofs.Common.{List, ap, ◌∙◌}
use Rattle.std.specs.Prelude.{slice_get}
use Rattle.wast_script.specs.declared.commands.Command.{Command}
use Rattle.wast_script_json.proofs.Firsts.{starts_with, starts_without}
use Rattle.wast_script_json.proofs.kinds.has_nothing.Goals as goal

pub returns-in-Some : goal.returns-in-Some
returns-in-Some c =
    c.is_nothing.ensures
    ∙ starts_with c.args.script.now.text.now c.args.script.now.commands.items c.in-Some.command.now (c.in-Some.ensures.value
    ∙ ap (λ (cs : List Command). slice_get cs 0) c.as_slice.ensures.value)

pub returns-in-None : goal.returns-in-None
returns-in-None c =
    starts_without c.args.script.now.text.now c.args.script.now.commands.items (c.in-None.ensures.value
    ∙ ap (λ (cs : List Command). slice_get cs 0) c.as_slice.ensures.value)
