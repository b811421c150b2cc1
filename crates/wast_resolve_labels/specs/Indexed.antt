-- The index of enclosing blocks by label. The position of a block is the number of blocks around it.
--
--   block $a  block $b  block $a       labels: $a has position 2, $b has position 1
--                                      next one further out: none, none, 0
use Rattle.std.specs.Prelude.{◌≡◌, ℕ, ◌≤◌, List, [], ◌∷◌, length, map, reverse, take, if◌then◌else◌, Option, Some, None}
use Rattle.std.specs.BTreeMap.{BTreeMap, get}
use Rattle.wast_base.specs.Blocks.{Blocks}
use Rattle.wast_base.specs.contracts.ids.IdOrd.TheImpl as by_name
use Rattle.wast_base.specs.declared.ids.Id.{Id}
use Rattle.wast_base.specs.Ids.{Name, name_of, mark_of_option}
use Rattle.wast_base.specs.Spaces.{is_called, name_if}

-- The label of a block, if it has one.
abbrev pub label_of : Option Id → Option Name
label_of id = name_if (mark_of_option id)

-- The labels of blocks in a list with the outermost first.
abbrev pub labels_of : List (Option Id) → Blocks
labels_of ids = reverse (map label_of ids)

-- The position of the innermost block with a label.
abbrev pub innermost_of : Name → Blocks → Option ℕ
innermost_of label [] = None
innermost_of label (l ∷ ls) = if is_called label l then Some (length ls) else innermost_of label ls

-- The same for a label that may be missing.
abbrev pub innermost_if : Option Name → Blocks → Option ℕ
innermost_if None blocks = None
innermost_if (Some label) blocks = innermost_of label blocks

-- Each block has the position of the next one further out with its label.
abbrev pub AreChained : List (Option ℕ) → Blocks → Type 0
AreChained [] ls = ls ≡ []
AreChained (o ∷ os) [] = ⊥
AreChained (o ∷ os) (l ∷ ls) = (o ≡ innermost_if l ls) × AreChained os ls

-- Each label has the position of the innermost block with it, and no other label is in the map.
abbrev pub HasPlaces : BTreeMap Id ℕ → Blocks → Type 0
HasPlaces places ls = (id : Id) → get by_name.ghosts.cmp places id ≡ innermost_of (name_of id) ls

-- The map has these positions, and the blocks are chained.
pub record IsIndexed (places : BTreeMap Id ℕ) (outer : List (Option ℕ)) (ls : Blocks) : Type 0 where
  pub innermost : HasPlaces places ls
  pub chained : AreChained (reverse outer) ls

-- The outermost blocks are indexed, as many as the list of next positions is long.
pub record IsIndexOf (blocks : List (Option Id)) (places : BTreeMap Id ℕ) (outer : List (Option ℕ)) : Type 0 where
  pub within : length outer ≤ length blocks
  pub indexed : IsIndexed places outer (labels_of (take (length outer) blocks))
