use Rattle.std.proofs.Common.{◌≡◌, length, drop}
use Rattle.wast_valid_machine.specs.Control.{all_match}
use Rattle.wast_valid_machine.proofs.tables.do_all_match.Given as goal

abbrev pub invariant-loop-i : goal.invariant-loop-i
invariant-loop-i l = (length l.found ≡ length l.expected) × (all_match l.types l.found l.expected ≡ all_match l.types (drop l.i l.found) (drop l.i l.expected))
