-- Enclosing blocks and labels of one expression, which the definitions compute.
use Rattle.std.specs.Prelude.{◌≡◌, true, false, List, [], ◌∷◌, Some, None, codes}
use Rattle.wast_base.specs.Blocks.{without_innermost, BlockEffect, Opens, Closes, Stays}
use Rattle.wast_base.specs.Ids.{Name, Written, Generated}
use Rattle.wast_resolve_labels.specs.OpenBlocks.{label_depth, is_innermost, is_expected_label}
use Rattle.wast_resolve_labels.specs.Turns.{open_blocks, open_count, blocks_after_all}

abbrev pub a : Name
a = Written (codes "a")

abbrev pub b : Name
b = Written (codes "b")

-- The expression `block $a loop $b block nop end block $a`.
abbrev pub nested : List BlockEffect
nested = Opens (Some a) ∷ Opens (Some b) ∷ Opens None ∷ Stays ∷ Closes ∷ Opens (Some a) ∷ []

-- Three of its four openers are not closed, by counting and by walking.
abbrev pub ThreeAreOpen : Type 0
ThreeAreOpen =
    (open_blocks nested ≡ Some a ∷ Some b ∷ Some a ∷ []) × (open_count nested ≡ 3) × (blocks_after_all [] nested ≡ Some a ∷ Some b ∷ Some a ∷ [])

-- At its end `br $a` is `br 0` and `br $b` is `br 1`. After one more `end`, `br $a` is `br 1`. Other labels have no
-- depth.
abbrev pub LabelsThere : Type 0
LabelsThere =
    (label_depth a (blocks_after_all [] nested) ≡ Some 0) × (label_depth b (blocks_after_all [] nested) ≡ Some 1) × (label_depth a (without_innermost (blocks_after_all [] nested)) ≡ Some 1)
    × (label_depth (Generated 1) (blocks_after_all [] nested) ≡ None)

-- At its end `end $a` is allowed, and `end $b` is not. Without enclosing blocks any label is allowed.
abbrev pub EndsThere : Type 0
EndsThere =
    (is_expected_label (Some a) (blocks_after_all [] nested) ≡ true) × (is_expected_label (Some b) (blocks_after_all [] nested) ≡ false) × (is_expected_label None (blocks_after_all [] nested) ≡ true)
    × (is_expected_label (Some b) [] ≡ true) × (is_innermost b [] ≡ false)
