-- What the loop of `is_plain` keeps: each byte before the index can be in an id without quotes.
use Rattle.std.proofs.Common.{◌≡◌, true, take}
use Rattle.std.specs.List.{list_all}
use Rattle.wat.specs.Lines.{is_id_byte}
use Rattle.wat.proofs.names.is_plain.Given as goal

abbrev pub invariant-loop-byte : goal.invariant-loop-byte
invariant-loop-byte l = list_all is_id_byte (take l.byte-index l.name) ≡ true
