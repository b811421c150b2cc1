-- The checks of labels: E4 for an unknown label, and E8 at `else` and `end` (text format: control instructions,
-- labels).
--
--   block $a  block $b  br $a  end $c       number_among: $a is 1       wrong_label: E8 at $c
use Rattle.std.specs.Prelude.{ℕ, if◌then◌else◌, Option, Some, None}
use Rattle.wast_base.specs.Blocks.{Blocks}
use Rattle.wast_base.specs.declared.ids.Span.{Span}
use Rattle.wast_base.specs.Faults.{Cause, Labels}
use Rattle.wast_base.specs.Ids.{Name, Mark}
use Rattle.wast_resolve_labels.specs.OpenBlocks.{label_depth, is_expected_label}

-- The depth of a label among enclosing blocks, if one of them has it.
abbrev pub number_among : Blocks → Name → Option ℕ
number_among blocks label = label_depth label blocks

-- The error of a label at `else` or `end`, if it is not that of the innermost block.
abbrev pub wrong_label : Blocks → Option Mark → Option (Cause × Span)
wrong_label blocks None = None
wrong_label blocks (Some m) = if is_expected_label (Some m.0) blocks then None else Some (Labels, m.1)
