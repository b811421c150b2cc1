use Rattle.std.proofs.Common.{refl}
use Rattle.wast_core_sections.proofs.laws.order_examples.Goals as goal

pub returns : goal.returns
returns c = (refl, refl, refl)
