use Rattle.wast_core.proofs.Overlong.{too_large_is_unbounded}
use Rattle.wast_core.proofs.laws.bounded_law.Goals as goal

pub returns : goal.returns
returns c = too_large_is_unbounded
