-- Opening and closing blocks has the same result as counting openers and closers.
use Rattle.std.proofs.Common.{◌≡◌, ℕ, zero, suc, ◌+◌, ◌-◌, ◌≤◌, List, [], ◌∷◌, ◌++◌, Option, Bool, cond, true, false, refl, ap, sym, ◌∙◌}
use Rattle.std.proofs.Common.{length, take, arith, eqb, inl, inr, append_assoc, append-nil, length-append}
use Rattle.std.proofs.lemmas.Bool.{cases_eq, eq-eqb, ne_eqb, false_from_ne_true}
use Rattle.wast_base.specs.Blocks.{Blocks, without_innermost, BlockEffect, Opens, Closes, Stays, openers, closers, stays_open}
use Rattle.wast_base.specs.Ids.{Name}
use Rattle.wast_base.proofs.BlockCounts.{Within, never_within, within_never, openers-append}
use Rattle.wast_resolve_labels.specs.Turns.{open_blocks, blocks_after, blocks_after_all}

-- The closers without an opener before them in this list.
surplus : List BlockEffect → ℕ
surplus [] = 0
surplus (Opens l ∷ ts) = surplus ts - 1
surplus (Closes ∷ ts) = surplus ts + 1
surplus (Stays ∷ ts) = surplus ts

within_surplus : (ts : List BlockEffect) (d : ℕ) → Within ts d (length ts) → surplus ts ≤ d
unfolding surplus
within_surplus [] d h = omega arith
within_surplus (Opens l ∷ ts) d h = omega (arith, within_surplus ts (d + 1) (λ k le. omega (arith, h (suc k) (omega arith))))
within_surplus (Closes ∷ ts) d h =
    let one : 1 ≤ d = omega (arith, h 1 (omega arith)) in
    omega (arith, within_surplus ts (d - 1) (λ k le. omega (arith, h (suc k) (omega arith))))
within_surplus (Stays ∷ ts) d h = within_surplus ts d (λ k le. h (suc k) (omega arith))

surplus_within : (ts : List BlockEffect) (d : ℕ) → surplus ts ≤ d → (k : ℕ) → closers (take k ts) ≤ openers (take k ts) + d
unfolding surplus
surplus_within ts d h zero = omega arith
surplus_within [] d h (suc k) = omega arith
surplus_within (Opens l ∷ ts) d h (suc k) = omega (arith, surplus_within ts (d + 1) (omega arith) k)
surplus_within (Closes ∷ ts) d h (suc k) = omega (arith, surplus_within ts (d - 1) (omega arith) k)
surplus_within (Stays ∷ ts) d h (suc k) = surplus_within ts d h k

stays_without_surplus : (ts : List BlockEffect) → surplus ts ≡ 0 → stays_open ts ≡ true
unfolding stays_open
stays_without_surplus ts h = within_never ts (length ts) (λ k le. surplus_within ts 0 (omega arith) k)

no_surplus : (ts : List BlockEffect) → stays_open ts ≡ true → surplus ts ≡ 0
unfolding stays_open
no_surplus ts h = omega (arith, within_surplus ts 0 (never_within ts (length ts) h))

-- A block stays open if no closer is left over.
stays : (ts : List BlockEffect) → stays_open ts ≡ eqb (surplus ts) 0
stays ts = elim (cases_eq (surplus ts) 0) [
  | inl e ↦ stays_without_surplus ts e ∙ sym (eq-eqb (surplus ts) 0 e)
  | inr e ↦ false_from_ne_true (stays_open ts) (λ h. e (no_surplus ts h)) ∙ sym (ne_eqb (surplus ts) 0 e)
]

-- The case without enclosing blocks.
none : Blocks → ℕ
none [] = 1
none (l ∷ ls) = 0

kept_closed : (l : Option Name) (ls : Blocks) (s : ℕ)
    → cond (eqb (s + none ls) 0) (without_innermost ls ++ l ∷ []) (without_innermost ls) ≡ without_innermost (cond (eqb s 0) (ls ++ l ∷ []) ls)
unfolding none
kept_closed l [] zero = refl
kept_closed l (m ∷ ls) zero = refl
kept_closed l ls (suc s) = rw (ne_eqb (suc s + none ls) 0 (λ e. omega arith), ne_eqb (suc s) 0 (λ e. omega arith)) refl

kept_surplus : (l : Option Name) (ls : Blocks) (s : ℕ) → (s + none ls) - 1 ≡ (s - 1) + none (cond (eqb s 0) (ls ++ l ∷ []) ls)
unfolding none
kept_surplus l [] zero = refl
kept_surplus l (m ∷ ls) zero = refl
kept_surplus l ls (suc s) = rw (ne_eqb (suc s) 0 (λ e. omega arith)) (omega arith)

-- A closer removes the innermost block.
record Closing (ts : List BlockEffect) : Type 0 where
  blocks : open_blocks (ts ++ Closes ∷ []) ≡ without_innermost (open_blocks ts)
  left : surplus (ts ++ Closes ∷ []) ≡ surplus ts + none (open_blocks ts)

closing : (ts : List BlockEffect) → Closing ts
unfolding surplus none
closing [] = record { blocks = refl; left = refl }
closing (Opens l ∷ ts) =
    let h = closing ts in
    record {
      blocks = rw (stays (ts ++ Closes ∷ []), stays ts, h.blocks, h.left) (kept_closed l (open_blocks ts) (surplus ts));
      left = rw (stays ts, h.left) (kept_surplus l (open_blocks ts) (surplus ts));
    }
closing (Closes ∷ ts) = let h = closing ts in record { blocks = h.blocks; left = rw h.left (omega arith) }
closing (Stays ∷ ts) = let h = closing ts in record { blocks = h.blocks; left = h.left }

opens_surplus : (ts : List BlockEffect) (m : Option Name) → surplus (ts ++ Opens m ∷ []) ≡ surplus ts
unfolding surplus
opens_surplus [] m = refl
opens_surplus (Opens l ∷ ts) m = ap (λ n. n - 1) (opens_surplus ts m)
opens_surplus (Closes ∷ ts) m = ap (λ n. n + 1) (opens_surplus ts m)
opens_surplus (Stays ∷ ts) m = opens_surplus ts m

kept_more : (b : Bool) (l m : Option Name) (ls : Blocks) → cond b ((m ∷ ls) ++ l ∷ []) (m ∷ ls) ≡ m ∷ cond b (ls ++ l ∷ []) ls
kept_more true l m ls = refl
kept_more false l m ls = refl

opens : (ts : List BlockEffect) (m : Option Name) → open_blocks (ts ++ Opens m ∷ []) ≡ m ∷ open_blocks ts
unfolding surplus
opens [] m = rw (stays []) refl
opens (Opens l ∷ ts) m = rw (stays (ts ++ Opens m ∷ []), stays ts, opens_surplus ts m, opens ts m) (kept_more (eqb (surplus ts) 0) l m (open_blocks ts))
opens (Closes ∷ ts) m = opens ts m
opens (Stays ∷ ts) m = opens ts m

stays_surplus : (ts : List BlockEffect) → surplus (ts ++ Stays ∷ []) ≡ surplus ts
unfolding surplus
stays_surplus [] = refl
stays_surplus (Opens l ∷ ts) = ap (λ n. n - 1) (stays_surplus ts)
stays_surplus (Closes ∷ ts) = ap (λ n. n + 1) (stays_surplus ts)
stays_surplus (Stays ∷ ts) = stays_surplus ts

stays_put : (ts : List BlockEffect) → open_blocks (ts ++ Stays ∷ []) ≡ open_blocks ts
stays_put [] = refl
stays_put (Opens l ∷ ts) = rw (stays (ts ++ Stays ∷ []), stays ts, stays_surplus ts, stays_put ts) refl
stays_put (Closes ∷ ts) = stays_put ts
stays_put (Stays ∷ ts) = stays_put ts

-- One more instruction.
pub one_step : (ts : List BlockEffect) (t : BlockEffect) → open_blocks (ts ++ t ∷ []) ≡ blocks_after (open_blocks ts) t
one_step ts (Opens l) = opens ts l
one_step ts Closes = (closing ts).blocks
one_step ts Stays = stays_put ts

walked_from : (ts us : List BlockEffect) → blocks_after_all (open_blocks ts) us ≡ open_blocks (ts ++ us)
walked_from ts [] = ap open_blocks (sym (append-nil ts))
walked_from ts (u ∷ us) = ap (λ ls. blocks_after_all ls us) (sym (one_step ts u)) ∙ walked_from (ts ++ u ∷ []) us ∙ ap open_blocks (append_assoc ts (u ∷ []) us)

pub walked_all : (ts : List BlockEffect) → blocks_after_all [] ts ≡ open_blocks ts
walked_all ts = walked_from [] ts

-- At most as many blocks as openers.
one_longer : (b : Bool) (l : Option Name) (ls : Blocks) (n : ℕ) → length ls ≤ n → length (cond b (ls ++ l ∷ []) ls) ≤ n + 1
one_longer true l ls n h = omega (arith, h, length-append ls (l ∷ []))
one_longer false l ls n h = omega arith

pub few_blocks : (ts : List BlockEffect) → length (open_blocks ts) ≤ openers ts
few_blocks [] = omega arith
few_blocks (Opens l ∷ ts) = one_longer (stays_open ts) l (open_blocks ts) (openers ts) (few_blocks ts)
few_blocks (Closes ∷ ts) = few_blocks ts
few_blocks (Stays ∷ ts) = few_blocks ts

pub room_for_one : (ts us : List BlockEffect) (label : Option Name) → length (open_blocks ts) + 1 ≤ openers (ts ++ Opens label ∷ us)
room_for_one ts us label = omega (arith, few_blocks ts, openers-append ts (Opens label ∷ us))
