-- An end behind instructions in which each block is closed closes a block that was not opened.
use Rattle.std.proofs.Common.{◌≡◌, ◌≤◌, ◌+◌, eqb, true, List, [], ◌∷◌, ◌++◌, length, map, refl, sym, ap, ◌∙◌, subst, append_assoc, arith, length-append}
use Rattle.std.proofs.lemmas.Bool.{eqb-true}
use Rattle.std.proofs.lemmas.List.{map-append, take_at}
use Rattle.wast_base.specs.Blocks.{BlockEffect, Opens, Closes, Stays, openers, closers, stays_open, is_balanced}
use Rattle.wast_base.proofs.BlockCounts.{never_within, openers-append}
use Rattle.wasm_ops.specs.Table.{Instr}
use Rattle.wasm_ops.specs.Turns.{turn_of, are_balanced}
use Rattle.wasm_ops.proofs.Everywhere.{both_true}

-- a front has at most as many closers as openers
front_open : (a b : List BlockEffect) → stays_open (a ++ b) ≡ true → closers a ≤ openers a
unfolding stays_open
front_open a b h =
    subst (λ l. closers l ≤ openers l) (take_at a b (length a) refl)
    (omega (arith, never_within (a ++ b) (length (a ++ b)) h (length a) (omega (arith, length-append a b))))

closers_behind : (ts us : List BlockEffect) → closers (ts ++ us) ≡ closers ts + closers us
closers_behind [] us = omega arith
closers_behind (Opens l ∷ ts) us = closers_behind ts us
closers_behind (Closes ∷ ts) us = omega (arith, closers_behind ts us)
closers_behind (Stays ∷ ts) us = closers_behind ts us

closed_once_more : (a b : List BlockEffect) → is_balanced a ≡ true → is_balanced (a ++ (Closes ∷ b)) ≡ true → ⊥
closed_once_more a b p q =
    let one = both_true (stays_open a) (eqb (closers a) (openers a)) p in
    let two = both_true (stays_open (a ++ (Closes ∷ b))) (eqb (closers (a ++ (Closes ∷ b))) (openers (a ++ (Closes ∷ b)))) q in
    let end = Closes ∷ [] in
    let front = front_open (a ++ end) b (subst (λ l. stays_open l ≡ true) (sym (append_assoc a end b)) two.0) in
    omega (arith, front, closers_behind a end, openers-append a end, eqb-true (closers a) (openers a) one.1)

-- what closes a block cannot stand where each block is closed
pub end_beyond : (front rest : List Instr) (i : Instr) → turn_of i ≡ Closes → are_balanced front ≡ true → are_balanced (front ++ (i ∷ rest)) ≡ true → ⊥
end_beyond front rest i closes p q =
    let a = map turn_of front in
    let b = map turn_of rest in
    closed_once_more a b p (subst (λ l. is_balanced l ≡ true) (map-append turn_of front (i ∷ rest) ∙ ap (λ t. a ++ (t ∷ b)) closes) q)
