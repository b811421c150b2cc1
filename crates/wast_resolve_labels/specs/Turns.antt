-- The enclosing blocks at a position of an expression, by counting openers and closers, and by walking (text format,
-- control instructions).
--
--   block $a  block  end       open_blocks: $a       open_count: 1
use Rattle.std.specs.Prelude.{◌≡◌, ℕ, suc, ◌+◌, ◌<◌, true, if◌then◌else◌, List, [], ◌∷◌, ◌++◌, drop, slice_get, Option, Some}
use Rattle.wast_base.specs.Blocks.{Blocks, BlockEffect, Opens, Closes, Stays, stays_open, without_innermost}
use Rattle.wast_base.specs.Ids.{Name}

-- The labels of the blocks that are opened and not closed, innermost first.
abbrev pub open_blocks : List BlockEffect → Blocks
open_blocks [] = []
open_blocks (Opens l ∷ ts) = if stays_open ts then open_blocks ts ++ l ∷ [] else open_blocks ts
open_blocks (Closes ∷ ts) = open_blocks ts
open_blocks (Stays ∷ ts) = open_blocks ts

-- The number of openers whose blocks are not closed.
abbrev pub open_count : List BlockEffect → ℕ
open_count [] = 0
open_count (Opens l ∷ ts) = if stays_open ts then open_count ts + 1 else open_count ts
open_count (Closes ∷ ts) = open_count ts
open_count (Stays ∷ ts) = open_count ts

-- The instruction at a position opens a block with this label, which is not closed by the end of the list.
pub record IsOpen (ts : List BlockEffect) (label : Option Name) (at : ℕ) : Type 0 where
  pub opener : slice_get ts at ≡ Some (Opens label)
  pub stays : stays_open (drop (suc at) ts) ≡ true

-- It is the last such opener.
pub record IsLastOpen (ts : List BlockEffect) (label : Option Name) (at : ℕ) : Type 0 where
  pub is_open : IsOpen ts label at
  pub last : (r : ℕ) (l : Option Name) → at < r → IsOpen ts l r → ⊥

-- It is the last such opener with this label.
pub record IsLastOf (ts : List BlockEffect) (label : Name) (at : ℕ) : Type 0 where
  pub is_open : IsOpen ts (Some label) at
  pub last : (r : ℕ) → at < r → IsOpen ts (Some label) r → ⊥

-- The enclosing blocks after one more instruction.
abbrev pub blocks_after : Blocks → BlockEffect → Blocks
blocks_after blocks (Opens l) = l ∷ blocks
blocks_after blocks Closes = without_innermost blocks
blocks_after blocks Stays = blocks

-- The enclosing blocks after instructions, one after the other.
abbrev pub blocks_after_all : Blocks → List BlockEffect → Blocks
blocks_after_all blocks [] = blocks
blocks_after_all blocks (t ∷ ts) = blocks_after_all (blocks_after blocks t) ts
