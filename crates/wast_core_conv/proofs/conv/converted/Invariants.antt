use Rattle.std.proofs.Common.{◌≡◌, map, take}
use Rattle.wast_core_conv.proofs.conv.converted.Given as goal

abbrev pub invariant-loop-item : goal.invariant-loop-item
invariant-loop-item g l = l.made ≡ map g.T.Convert.becomes (take l.item-index l.items)
