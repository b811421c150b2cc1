-- Proves the examples of specs/WorkedJson by computing them.
use Rattle.std.proofs.Common.{refl}
use Rattle.std.specs.Fmt.{digits}
use Rattle.wast_script_json.specs.Json.{escaped, string, id_string, digit_string, key, member}
use Rattle.wast_script_json.specs.WorkedJson.{WorkedStrings, WorkedMembers}

pub strings : WorkedStrings
unfolding escaped string id_string
strings = (refl, refl, refl, refl)

pub members : WorkedMembers
unfolding escaped digits string digit_string key member
members = (refl, refl, refl, refl)
