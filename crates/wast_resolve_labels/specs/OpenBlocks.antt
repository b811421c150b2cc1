-- Enclosing blocks, and the depth of a label among them (text format, control instructions: labels).
--
-- The enclosing blocks are a list of their labels, innermost first, as in the specification's contexts. The depth of
-- a label is its first position in that list, so an inner block hides an outer one with the same label.
--
--   block $a  block $b  br $a          enclosing: $b, $a            $a is depth 1, $b is depth 0
--   block $a  block $a  br $a          enclosing: $a, $a            $a is depth 0
--   block $a  end $b                   rejected: `end` repeats the label of another block (E8)
--   end $b                             not checked if no block is open, as in the `wast` crate
use Rattle.std.specs.Prelude.{ℕ, Bool, true, false, [], ◌∷◌, Option, Some, None}
use Rattle.wast_base.specs.Blocks.{Blocks}
use Rattle.wast_base.specs.Ids.{Name}
use Rattle.wast_base.specs.Spaces.{is_called, position_of}

-- The depth of a label: the number of blocks that were opened after the innermost one with it.
abbrev pub label_depth : Name → Blocks → Option ℕ
label_depth label blocks = position_of label blocks

-- Whether the innermost block has this label.
abbrev pub is_innermost : Name → Blocks → Bool
is_innermost label [] = false
is_innermost label (l ∷ ls) = is_called label l

-- Whether `else` or `end` may repeat this label: it is that of the innermost block, or no block is open.
abbrev pub is_expected_label : Option Name → Blocks → Bool
is_expected_label None blocks = true
is_expected_label (Some label) [] = true
is_expected_label (Some label) (l ∷ ls) = is_called label l
