-- What the loop of `push_escape` keeps: the text, and the characters of the escape that are left.
use Rattle.std.proofs.Common.{◌≡◌, ◌++◌, string_bytes, encode_utf8_all}
use Rattle.std.specs.Char.Escape.{escape_default}
use Rattle.std.specs.Char.Iter.{escape_rest}
use Rattle.wat.proofs.names.push_escape.Given as goal

abbrev pub invariant-loop-letter : goal.invariant-loop-letter
invariant-loop-letter l =
    string_bytes l.text ++ encode_utf8_all (escape_rest l.letter-iterator) ≡ string_bytes l.fn.text ++ encode_utf8_all (escape_default l.fn.character)
