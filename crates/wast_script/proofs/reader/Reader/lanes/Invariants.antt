-- The loop of `lanes`: so many lanes are left.
use Rattle.std.proofs.Common.{◌-◌}
use Rattle.wat_syntax.specs.Values.{number}
use Rattle.wast_script.specs.Constants.{lane_of, lane_count}
use Rattle.wast_script.proofs.Rows.{Rows}
use Rattle.wast_script.proofs.reader.Reader.lanes.Given as goal

abbrev pub invariant-loop : goal.invariant-loop
invariant-loop l = Rows (number (lane_of l.shape l.usage)) (lane_count l.shape) (l.end - l.counter) l.fn.self l.self
