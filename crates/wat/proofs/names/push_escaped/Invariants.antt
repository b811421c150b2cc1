-- What the loop of `push_escaped` keeps: the text, and the escapes of the characters that are left.
use Rattle.std.proofs.Common.{◌≡◌, ◌++◌, IsUtf8, string_bytes}
use Rattle.std.specs.Str.Iter.{chars_rest}
use Rattle.wat.specs.Lines.{escaped}
use Rattle.wat.proofs.names.push_escaped.Given as goal

abbrev pub invariant-loop-character : goal.invariant-loop-character
invariant-loop-character l =
    IsUtf8 (chars_rest l.character-iterator) × (string_bytes l.text ++ escaped (chars_rest l.character-iterator) ≡ string_bytes l.fn.text ++ escaped l.fn.name)
