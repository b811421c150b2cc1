-- The blocks of an expression: what opens and closes one, whether each is closed, and the labels of the enclosing blocks
-- (text format and binary format: control instructions, expressions).
--
-- An instruction has one effect on the blocks. Only the effects matter for balance, so `is_balanced` is a test of a list
-- of effects, and a new instruction needs no change here.
--
--   block $a  i32.const 0  end     Opens $a, Stays, Closes     balanced
--   end                            Closes                      not balanced: the first closer has no opener
use Rattle.std.specs.Prelude.{ℕ, zero, suc, ◌+◌, ◌==◌, nat_le, ◌&&◌, Bool, true, List, [], ◌∷◌, length, take, Option}
use Rattle.wast_base.specs.Ids.{Name}

-- the labels of the enclosing blocks, innermost first; a block may have no label
abbrev pub Blocks : Type 0
Blocks = List (Option Name)

-- the enclosing blocks after the innermost one is closed
abbrev pub without_innermost : Blocks → Blocks
without_innermost [] = []
without_innermost (l ∷ ls) = ls

-- what an instruction does to the enclosing blocks: it opens one with its label, closes one, or does neither
pub data BlockEffect : Type 0 where
  Opens : Option Name → BlockEffect
  Closes : BlockEffect
  Stays : BlockEffect

-- the number of effects that open a block
abbrev pub openers : List BlockEffect → ℕ
openers [] = 0
openers (Opens l ∷ ts) = openers ts + 1
openers (Closes ∷ ts) = openers ts
openers (Stays ∷ ts) = openers ts

-- the number of effects that close a block
abbrev pub closers : List BlockEffect → ℕ
closers [] = 0
closers (Opens l ∷ ts) = closers ts
closers (Closes ∷ ts) = closers ts + 1
closers (Stays ∷ ts) = closers ts

-- Whether each prefix of 1 to n effects has at most as many closers as openers.
abbrev pub never_closed : List BlockEffect → ℕ → Bool
never_closed ts zero = true
never_closed ts (suc n) = never_closed ts n && nat_le (closers (take (suc n) ts)) (openers (take (suc n) ts))

-- Whether a block that is opened directly before these effects is still open after them.
unfoldable pub stays_open : List BlockEffect → Bool
stays_open ts = never_closed ts (length ts)

-- Whether no prefix has more closers than openers, and the whole list has as many closers as openers.
abbrev pub is_balanced : List BlockEffect → Bool
is_balanced ts = stays_open ts && closers ts == openers ts
