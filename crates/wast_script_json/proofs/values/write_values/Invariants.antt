-- What the loop of `write_values` keeps: the text, and the values that are left.
use Rattle.std.proofs.Common.{◌≡◌, ◌++◌, drop, false}
use Rattle.wast_script_json.specs.Json.{written}
use Rattle.wast_script_json.specs.Values.{values_from}
use Rattle.wast_script_json.proofs.values.write_values.Given as goal

abbrev pub invariant-loop-value : goal.invariant-loop-value
invariant-loop-value l =
    written l.json ++ values_from l.script.lanes.items l.is_joined l.left (drop l.value-index l.values)
    ≡ written l.fn.json ++ values_from l.script.lanes.items false 0 l.values
