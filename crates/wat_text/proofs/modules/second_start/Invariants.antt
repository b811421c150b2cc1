use Rattle.std.proofs.Common.{◌≡◌, drop}
use Rattle.wat_text.specs.Denotes.{has_one_start}
use Rattle.wat_text.proofs.Starts.{one_after}
use Rattle.wat_text.proofs.modules.second_start.Given as goal

abbrev pub invariant-loop-field : goal.invariant-loop-field
invariant-loop-field l = one_after l.found (drop l.field-index l.fields) ≡ has_one_start l.fields
