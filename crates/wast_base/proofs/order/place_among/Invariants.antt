use Rattle.std.proofs.Common.{◌-◌, map}
use Rattle.wast_base.specs.Ids.{name_of}
use Rattle.wast_base.proofs.Searches.{IsHalved}
use Rattle.wast_base.proofs.order.place_among.Given as goal

abbrev pub invariant-halve : goal.invariant-halve
invariant-halve g l = IsHalved (map g.T.Named.name l.named) (name_of l.id) l.low l.high

abbrev pub decreases-halve : goal.decreases-halve
decreases-halve g l = l.high - l.low
