-- The goal of `lanes` that tactics leave open, closed by a lemma of Rows.
use Rattle.wat_syntax.specs.Values.{number}
use Rattle.wast_script.specs.Constants.{lane_of, lane_count}
use Rattle.wast_script.proofs.Rows.{rows_more}
use Rattle.wast_script.proofs.reader.Reader.lanes.Goals as goal

pub loop-preserved : goal.loop-preserved
loop-preserved c = rows_more (number (lane_of c.args.shape c.args.usage)) (lane_count c.args.shape) c.loop.counter
    c.lanes-end.result c.args.self.now c.loop.self c.lane-lane.new.self c.push_lane.new.self c.lane-lane.result
    c.loop-test.true c.loop.invariant c.lane-lane.ensures c.push_lane.ensures
