use Rattle.wast_resolve.proofs.Borne.{settled_stays}
use Rattle.wast_resolve.proofs.laws.borne_law.Goals as goal

pub returns : goal.returns
returns c = settled_stays
