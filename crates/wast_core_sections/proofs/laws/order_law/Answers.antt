use Rattle.wast_core_sections.proofs.Ordered.{parts_are_ordered}
use Rattle.wast_core_sections.proofs.laws.order_law.Goals as goal

pub returns : goal.returns
returns c = parts_are_ordered
