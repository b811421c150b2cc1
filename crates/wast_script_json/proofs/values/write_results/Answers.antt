-- The text of results, by whether they are one `either`.
use Rattle.std.proofs.Common.{Some, None}
use Rattle.wast_script.specs.Scripts.{part}
use Rattle.wast_script_json.specs.Json.{written}
use Rattle.wast_script_json.proofs.Lists.{results_are}
use Rattle.wast_script_json.proofs.values.write_results.Goals as goal

pub returns-in_ok-write_either-in-Some : goal.returns-in_ok-write_either-in-Some
returns-in_ok-write_either-in-Some c =
    results_are c.args.script.now.lanes.items c.values_in-values.result.now (part c.args.results c.args.script.now.values.items)
    (Some c.in-Some.alternatives.now) _ (written c.args.json.now)
    c.values_in-values.ensures c.in-Some.ensures c.in_ok-write_either-in-Some.ensures

pub returns-in_ok-write_expected-in-None : goal.returns-in_ok-write_expected-in-None
returns-in_ok-write_expected-in-None c =
    results_are c.args.script.now.lanes.items c.values_in-values.result.now (part c.args.results c.args.script.now.values.items) None _
    (written c.args.json.now)
    c.values_in-values.ensures c.in-None.ensures c.in_ok-write_expected-in-None.ensures
