-- What the loop of `characters` keeps: the text, and the bytes of the characters that are left.
use Rattle.std.proofs.Common.{◌≡◌, ◌++◌}
use Rattle.std.specs.Str.Iter.{chars_rest}
use Rattle.wast_script_json.specs.Json.{written, escaped}
use Rattle.wast_script_json.proofs.json.Json.characters.Given as goal

abbrev pub invariant-loop-character : goal.invariant-loop-character
invariant-loop-character l = written l.self ++ escaped (chars_rest l.character-iterator) ≡ written l.fn.self ++ escaped l.fn.text
