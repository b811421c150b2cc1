use Rattle.wast_core_sections.proofs.Hinting.{others_unhinted}
use Rattle.wast_core_sections.proofs.hints.hinted_in.Goals as goal

pub returns-in_default : goal.returns-in_default
returns-in_default c = others_unhinted c.args.field.now c.in_default.not-Func
