-- Results are one `either` by their first value and the number of the others.
use Rattle.std.proofs.Common.{refl}
use Rattle.wast_script_json.proofs.Lists.{one_is, none_is}
use Rattle.wast_script_json.proofs.values.alternatives.Goals as goal

pub returns-in-Some : goal.returns-in-Some
returns-in-Some c =
    one_is c.args.values.now c.in-Some.rest.now c.in-Some.first.now c.is_either_of.result _ _ c.in-Some.ensures.cases.0 refl c.is_either_of.ensures
    c.values_if.ensures

pub returns-in-None : goal.returns-in-None
returns-in-None c = none_is c.args.values.now c.in-None.ensures.cases
