-- The loop of `commands_within`: the commands that are found are those before, at their positions.
use Rattle.std.proofs.Common.{◌≡◌, length, map, take}
use Rattle.wast_script.specs.Scripts.{placed_up_to}
use Rattle.wast_script.proofs.scripts.commands_within.Given as goal

abbrev pub invariant-loop-at : goal.invariant-loop-at
invariant-loop-at l = l.found.items ≡ map (placed_up_to (length l.text)) (take l.at l.commands)
