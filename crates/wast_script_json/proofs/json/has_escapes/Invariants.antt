-- What the loop of `has_escapes` keeps: no byte before the index is an escape.
use Rattle.std.proofs.Common.{◌≡◌, false, take}
use Rattle.std.specs.List.{list_any}
use Rattle.wast_script_json.specs.Json.{is_escaped}
use Rattle.wast_script_json.proofs.json.has_escapes.Given as goal

abbrev pub invariant-loop-byte : goal.invariant-loop-byte
invariant-loop-byte l = list_any is_escaped (take l.byte-index l.byte-items) ≡ false
