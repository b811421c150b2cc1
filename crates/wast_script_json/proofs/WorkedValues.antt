-- Proves the examples of specs/WorkedValues by computing them.
use Rattle.std.proofs.Common.{refl}
use Rattle.std.specs.Fmt.{digits}
use Rattle.wast_script_json.specs.Json.{escaped, string, digit_string, key, member}
use Rattle.wast_script_json.specs.Values.{opened, typed, valued, vector_text, values_from, list_text}
use Rattle.wast_script_json.specs.WorkedValues.{WorkedValues, WorkedResults}

pub values : WorkedValues
unfolding escaped string digit_string key member digits opened typed valued vector_text
values = (refl, refl, refl, refl, refl)

pub results : WorkedResults
unfolding escaped string digit_string key digits opened typed valued values_from list_text
results = (refl, refl, refl)
