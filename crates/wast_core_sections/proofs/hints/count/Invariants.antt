use Rattle.std.proofs.Common.{◌≡◌, length, take}
use Rattle.wast_core_sections.specs.Hints.{hinted_functions}
use Rattle.wast_core_sections.proofs.hints.count.Given as goal

abbrev pub invariant-loop-field : goal.invariant-loop-field
invariant-loop-field l = l.sum ≡ length (hinted_functions (take l.field-index l.fields))
