-- The loop of `write_lanes` writes one more lane, and at its end all of them.
use Rattle.std.proofs.Common.{List, ℕ, ◌++◌, ap}
use Rattle.wast_script_json.specs.Json.{written}
use Rattle.wast_script_json.proofs.Lists.{all_lanes, lane_written, lanes_written}
use Rattle.wast_script_json.proofs.values.write_lanes.Goals as goal

pub loop-lane-init : goal.loop-lane-init
loop-lane-init c = ap (λ (l : List ℕ). written c.args.json.now ++ l) (all_lanes c.args.lanes.now)

pub loop-lane-preserved : goal.loop-lane-preserved
loop-lane-preserved c =
    lane_written c.args.lanes.now c.loop-lane.lane-index _ c.loop-lane.is_joined (written c.loop-lane.json) (written c.write_comma.new.json)
    (written c.write_number.new.json) _
    c.loop-lane-test.true c.in_ok-write_comma.ensures c.in_ok-write_number.ensures c.loop-lane.invariant

pub returns : goal.returns
returns c = lanes_written c.args.lanes.now c.loop-lane.lane-index c.loop-lane.is_joined
    (written c.loop-lane.json) _ c.loop-lane-test.false c.loop-lane.invariant
