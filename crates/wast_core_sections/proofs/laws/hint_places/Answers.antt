use Rattle.wast_core_sections.proofs.Pointing.{hints_point}
use Rattle.wast_core_sections.proofs.laws.hint_places.Goals as goal

pub returns : goal.returns
returns c = hints_point
