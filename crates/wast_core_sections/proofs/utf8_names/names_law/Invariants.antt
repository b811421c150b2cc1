use Rattle.std.proofs.Common.{take}
use Rattle.std.specs.Prelude.{All}
use Rattle.wast_core_sections.specs.Utf8Names.{HasUtf8Names}
use Rattle.wast_core_sections.proofs.utf8_names.names_law.Given as goal

abbrev pub invariant-loop-field : goal.invariant-loop-field
invariant-loop-field l = All HasUtf8Names (take l.field-index l.fields)
