use Rattle.wast_core.proofs.ByPosition.{means_what_is_written}
use Rattle.wast_core.proofs.laws.meaning_law.Goals as goal

pub returns : goal.returns
returns c = means_what_is_written c.resolved_laws.ensures.positions
