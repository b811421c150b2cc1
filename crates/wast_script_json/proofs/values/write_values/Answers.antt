-- The loop of `write_values` writes one more value, and at its end all of them.
use Rattle.wast_script_json.specs.Json.{written}
use Rattle.wast_script_json.proofs.Lists.{value_written, values_written}
use Rattle.wast_script_json.proofs.values.write_values.Goals as goal

pub loop-value-preserved : goal.loop-value-preserved
loop-value-preserved c =
    value_written c.args.script.now.lanes.items c.args.values.now c.loop-value.value-index _ c.loop-value.is_joined
    c.is_joined_after-is_joined.result c.loop-value.left
    c.alternatives_after-after.result (written c.loop-value.json) (written c.write_comma.new.json) (written c.write_value.new.json)
    (written c.write_ending.new.json) _
    c.loop-value-test.true c.in_ok-write_comma.ensures c.in_ok-write_value.ensures c.alternatives_after-after.ensures c.in_ok-write_ending.ensures
    c.is_joined_after-is_joined.ensures
    c.loop-value.invariant

pub returns : goal.returns
returns c =
    values_written c.args.script.now.lanes.items c.args.values.now c.loop-value.value-index c.loop-value.is_joined c.loop-value.left
    (written c.loop-value.json) _
    c.loop-value-test.false c.loop-value.invariant
