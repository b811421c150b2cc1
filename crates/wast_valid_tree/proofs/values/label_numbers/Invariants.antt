use Rattle.std.proofs.Common.{◌≡◌, map, take}
use Rattle.wast_valid_tree.specs.Values.{number_of}
use Rattle.wast_valid_tree.proofs.values.label_numbers.Given as goal

abbrev pub invariant-loop-i : goal.invariant-loop-i
invariant-loop-i l = l.numbers ≡ map number_of (take l.i l.labels)
