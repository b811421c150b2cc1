use Rattle.wast_core_sections.proofs.CustomPlaces.{customs_stand_once}
use Rattle.wast_core_sections.proofs.laws.customs_law.Goals as goal

pub returns : goal.returns
returns c = customs_stand_once
