use Rattle.wast_resolve_laws.proofs.Turned.{blocks_are_counted}
use Rattle.wast_resolve_laws.proofs.laws.label_law.Goals as goal

pub returns : goal.returns
returns c = blocks_are_counted c.walking_law.ensures.walk
