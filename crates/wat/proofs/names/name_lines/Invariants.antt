-- What the loop of `name_lines` keeps: the lines of the ids before the index.
use Rattle.std.proofs.Common.{◌≡◌, string_bytes, take}
use Rattle.wat.specs.Lines.{lines_of}
use Rattle.wat.proofs.names.name_lines.Given as goal

abbrev pub invariant-loop-denoted : goal.invariant-loop-denoted
invariant-loop-denoted l = string_bytes l.lines ≡ lines_of (take l.denoted-index l.names)
