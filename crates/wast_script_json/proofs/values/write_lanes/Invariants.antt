-- What the loop of `write_lanes` keeps: the text, and the lanes that are left.
use Rattle.std.proofs.Common.{◌≡◌, ◌++◌, drop}
use Rattle.std.specs.Prelude.{codes}
use Rattle.std.specs.List.{join_by}
use Rattle.wast_script_json.specs.Json.{written}
use Rattle.wast_script_json.specs.Values.{number_text}
use Rattle.wast_script_json.proofs.Lists.{lanes_from}
use Rattle.wast_script_json.proofs.values.write_lanes.Given as goal

abbrev pub invariant-loop-lane : goal.invariant-loop-lane
invariant-loop-lane l =
    written l.json ++ lanes_from l.is_joined (drop l.lane-index l.lanes) ≡ written l.fn.json ++ join_by number_text (codes ", ") l.lanes
