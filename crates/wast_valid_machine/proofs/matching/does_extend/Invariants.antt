use Rattle.std.proofs.Common.{◌≡◌, length, Some, ◌-◌}
use Rattle.wast_valid_machine.specs.Types.{extends}
use Rattle.wast_valid_machine.proofs.matching.does_extend.Given as goal

abbrev pub invariant-loop-steps : goal.invariant-loop-steps
invariant-loop-steps l = extends l.types (length l.types) (Some l.i) l.j ≡ extends l.types (length l.types - l.steps) (Some l.at) l.j
