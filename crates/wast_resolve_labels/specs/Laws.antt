-- The theorems about enclosing blocks: a walk that opens and closes them has those that counting openers and closers
-- yields.
--
-- Walking is what the code does, and counting is a second definition that does not depend on it. For example, after
-- `block $a block end` both have the one block `$a`.
use Rattle.std.specs.Prelude.{◌≡◌, ℕ, suc, ◌+◌, ◌≤◌, true, List, [], ◌∷◌, ◌++◌, length, drop, Option, Some, None}
use Rattle.wast_base.specs.Blocks.{BlockEffect, Opens, openers}
use Rattle.wast_base.specs.Ids.{Name}
use Rattle.wast_base.specs.Spaces.{is_called}
use Rattle.wast_resolve_labels.specs.OpenBlocks.{label_depth, is_expected_label}
use Rattle.wast_resolve_labels.specs.Turns.{open_blocks, open_count, IsOpen, IsLastOpen, IsLastOf, blocks_after, blocks_after_all}

-- One more instruction opens a block, closes one, or neither.
abbrev pub StepsAsCounted : Type 0
StepsAsCounted = (ts : List BlockEffect) (t : BlockEffect) → open_blocks (ts ++ t ∷ []) ≡ blocks_after (open_blocks ts) t

-- A walk from the start of an expression has the blocks that are open there.
abbrev pub WalksAsCounted : Type 0
WalksAsCounted = (ts : List BlockEffect) → blocks_after_all [] ts ≡ open_blocks ts

-- There are at most as many enclosing blocks as openers.
abbrev pub HasFewBlocks : Type 0
HasFewBlocks = (ts : List BlockEffect) → length (open_blocks ts) ≤ openers ts

-- Before an opener there are fewer enclosing blocks than openers in the whole expression.
abbrev pub HasRoom : Type 0
HasRoom = (ts us : List BlockEffect) (label : Option Name) → length (open_blocks ts) + 1 ≤ openers (ts ++ Opens label ∷ us)

-- The depth of a label is the number of unclosed openers after the last unclosed one with the label.
abbrev pub DenotesTheLast : Type 0
DenotesTheLast = (ts : List BlockEffect) (label : Name) (at : ℕ) → IsLastOf ts label at → label_depth label (open_blocks ts) ≡ Some (open_count (drop (suc at) ts))

-- A label has no depth if no unclosed opener has it.
abbrev pub DenotesNothing : Type 0
DenotesNothing = (ts : List BlockEffect) (label : Name) → ((at : ℕ) → IsOpen ts (Some label) at → ⊥) → label_depth label (open_blocks ts) ≡ None

-- If a block is open, a label at `else` or `end` is allowed exactly if it is that of the last unclosed opener.
abbrev pub ExpectsTheLast : Type 0
ExpectsTheLast = (ts : List BlockEffect) (own : Option Name) (at : ℕ) (label : Name) → IsLastOpen ts own at → is_expected_label (Some label) (open_blocks ts) ≡ is_called label own

-- If no block is open, any label is allowed.
abbrev pub ExpectsAny : Type 0
ExpectsAny = (ts : List BlockEffect) (label : Name) → ((at : ℕ) (l : Option Name) → IsOpen ts l at → ⊥) → is_expected_label (Some label) (open_blocks ts) ≡ true
