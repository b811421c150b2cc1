use Rattle.std.proofs.Common.{◌<◌, ◌≤◌, ◌-◌}
use Rattle.std.specs.Prelude.{slice_index}
use Rattle.wast_core_name_section.proofs.arities.last.Given as goal

abbrev pub invariant-halve : goal.invariant-halve
invariant-halve l = record {
  order : l.low < l.high;
  within : l.high ≤ l.among;
  below : slice_index l.counts l.low ≤ l.most;
}

abbrev pub decreases-halve : goal.decreases-halve
decreases-halve l = l.high - l.low
