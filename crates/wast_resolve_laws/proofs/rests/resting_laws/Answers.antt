use Rattle.wast_resolve_laws.proofs.Rested.{rests_still}
use Rattle.wast_resolve_laws.proofs.StartsFinished.{starts_come_before}
use Rattle.wast_resolve_laws.proofs.rests.resting_laws.Goals as goal

pub returns-clause-still : goal.returns-clause-still
returns-clause-still c = rests_still

pub returns-clause-starts : goal.returns-clause-starts
returns-clause-starts c = starts_come_before
