-- Lemmas for is_balanced: counting the enclosing blocks decides whether instructions are balanced.
use Rattle.std.proofs.Common.{◌≡◌, ℕ, zero, suc, ◌+◌, ◌≤◌, ◌<◌, List, [], ◌∷◌, Option, Some, None, Bool, true, false, eqb, refl, ap, sym}
use Rattle.std.proofs.Common.{◌∙◌, length, take, drop, get_or, arith}
use Rattle.std.specs.Prelude.{is_some, option_map}
use Rattle.std.proofs.lemmas.Bool.{and_parts, and_from, eq-eqb, eqb-true}
use Rattle.std.proofs.lemmas.List.{drop_more}
use Rattle.std.proofs.Math.ListN.{drop_of_length-le}
use Rattle.wast_base.specs.Blocks.{BlockEffect, Opens, Closes, Stays, openers, closers, stays_open, is_balanced}
use Rattle.wast_base.proofs.BlockCounts.{Within, never_within, within_never}
use Rattle.wast_tree_visit.specs.Tree.{BlockType, Instruction}
use Rattle.wast_tree_nodes.specs.Instrs.{turn_by, turn_of, block_effects}

-- whether effects close all blocks that they open and n blocks before them, and none too early
abbrev pub balanced_from : List BlockEffect → ℕ → Bool
balanced_from [] n = eqb n 0
balanced_from (Opens l ∷ ts) n = balanced_from ts (suc n)
balanced_from (Closes ∷ ts) zero = false
balanced_from (Closes ∷ ts) (suc n) = balanced_from ts n
balanced_from (Stays ∷ ts) n = balanced_from ts n

balanced_within : (ts : List BlockEffect) (d : ℕ) → balanced_from ts d ≡ true → (k : ℕ) → closers (take k ts) ≤ openers (take k ts) + d
balanced_within ts d h zero = omega arith
balanced_within [] d h (suc k) = omega arith
balanced_within (Opens l ∷ ts) d h (suc k) = omega (arith, balanced_within ts (suc d) h k)
balanced_within (Closes ∷ ts) zero h (suc k) = cc
balanced_within (Closes ∷ ts) (suc d) h (suc k) = omega (arith, balanced_within ts d h k)
balanced_within (Stays ∷ ts) d h (suc k) = balanced_within ts d h k

balanced_whole : (ts : List BlockEffect) (d : ℕ) → balanced_from ts d ≡ true → closers ts ≡ openers ts + d
balanced_whole [] d h = omega (arith, eqb-true d 0 h)
balanced_whole (Opens l ∷ ts) d h = omega (arith, balanced_whole ts (suc d) h)
balanced_whole (Closes ∷ ts) zero h = cc
balanced_whole (Closes ∷ ts) (suc d) h = omega (arith, balanced_whole ts d h)
balanced_whole (Stays ∷ ts) d h = balanced_whole ts d h

within_balanced : (ts : List BlockEffect) (d : ℕ) → Within ts d (length ts) → closers ts ≡ openers ts + d → balanced_from ts d ≡ true
within_balanced [] d h e = eq-eqb d 0 (omega arith)
within_balanced (Opens l ∷ ts) d h e = within_balanced ts (suc d) (λ k le. omega (arith, h (suc k) (omega arith))) (omega arith)
within_balanced (Closes ∷ ts) zero h e = absurd (omega (arith, h 1 (omega arith)))
within_balanced (Closes ∷ ts) (suc d) h e = within_balanced ts d (λ k le. omega (arith, h (suc k) (omega arith))) (omega arith)
within_balanced (Stays ∷ ts) d h e = within_balanced ts d (λ k le. h (suc k) (omega arith)) e

counted : (ts : List BlockEffect) → balanced_from ts 0 ≡ true → is_balanced ts ≡ true
unfolding stays_open
counted ts h = and_from _ _ (within_never ts (length ts) (λ k le. balanced_within ts 0 h k)) (eq-eqb _ _ (omega (arith, balanced_whole ts 0 h)))

counting : (ts : List BlockEffect) → is_balanced ts ≡ true → balanced_from ts 0 ≡ true
unfolding stays_open
counting ts h =
    let parts = and_parts _ _ h in
    within_balanced ts 0 (never_within ts (length ts) parts.0) (omega (arith, eqb-true _ _ parts.1))

same_tests : (a b : Bool) → (a ≡ true → b ≡ true) → (b ≡ true → a ≡ true) → a ≡ b
same_tests true b to from = sym (to refl)
same_tests false true to from = from refl
same_tests false false to from = refl

-- counting decides balance
pub balanced : (ts : List BlockEffect) → balanced_from ts 0 ≡ is_balanced ts
balanced ts = same_tests _ _ (counted ts) (counting ts)

-- one instruction: it opens a block, closes one, closes one although there is none, or does neither
module _ (c : Bool) (ts : List BlockEffect) (n m : ℕ) where
  pub some_opens : (b : Option BlockType) → is_some b ≡ true → m ≡ n + 1 → balanced_from (turn_by b c ∷ ts) n ≡ balanced_from ts m
  some_opens (Some b) h e = ap (balanced_from ts) (omega arith)
  some_opens None h e = cc

  pub none_stays : (b : Option BlockType) → is_some b ≡ false → c ≡ false → m ≡ n → balanced_from (turn_by b c ∷ ts) n ≡ balanced_from ts m
  none_stays (Some b) h k e = cc
  none_stays None h k e = rw k (ap (balanced_from ts) (sym e))

pub none_closes : (c : Bool) (ts : List BlockEffect) (n m : ℕ) (b : Option BlockType) → is_some b ≡ false → c ≡ true → n ≡ m + 1
    → balanced_from (turn_by b c ∷ ts) n ≡ balanced_from ts m
none_closes c ts n m (Some b) h k e = cc
none_closes c ts zero m None h k e = absurd (omega arith)
none_closes c ts (suc n) m None h k e = rw k (ap (balanced_from ts) (omega arith))

pub none_is_open : (c : Bool) (ts : List BlockEffect) (n : ℕ) (b : Option BlockType) → is_some b ≡ false → c ≡ true → n ≡ 0
    → balanced_from (turn_by b c ∷ ts) n ≡ false
none_is_open c ts n (Some b) h k e = cc
none_is_open c ts n None h k e = rw (k, e) refl

pub some_if : {A B : Type 0} (f : A → B) (o : Option A) (b : Option B) → option_map f o ≡ b → is_some b ≡ is_some o
some_if f None b h = ap is_some (sym h)
some_if f (Some x) b h = ap is_some (sym h)

-- the instructions from number n on
module _ (is : List Instruction) (n : ℕ) (i : Instruction) (lt : n < length is) (at : i ≡ get_or is n i) where
  pub turns_from : block_effects (drop n is) ≡ turn_of i ∷ block_effects (drop (n + 1) is)
  turns_from = ap block_effects (drop_more is n i lt ∙ ap (λ x. x ∷ drop (n + 1) is) (sym at))

  pub past : (k m : ℕ) (b : Bool) → balanced_from (turn_of i ∷ block_effects (drop (n + 1) is)) k ≡ balanced_from (block_effects (drop (n + 1) is)) m
      → balanced_from (block_effects (drop n is)) k ≡ b → balanced_from (block_effects (drop (n + 1) is)) m ≡ b
  past k m b e h = sym e ∙ (ap (λ ts. balanced_from ts k) (sym turns_from) ∙ h)

-- no instruction is left
pub at_the_end : (is : List Instruction) (n k : ℕ) (b : Bool) → length is ≤ n → balanced_from (block_effects (drop n is)) k ≡ b → eqb k 0 ≡ b
at_the_end is n k b le h = ap (λ rest. balanced_from (block_effects rest) k) (sym (drop_of_length-le is le)) ∙ h
