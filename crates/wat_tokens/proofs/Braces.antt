-- Closes the loop that looks for the '}' after the number of a character.
use Rattle.std.proofs.Common.{◌≡◌, ◌≢◌, ◌∙◌, ℕ, zero, suc, ◌+◌, ◌<◌, ◌≤◌, ◌==◌, Bool, true, false, List, [], ◌∷◌, ◌++◌, length, drop}
use Rattle.std.proofs.Common.{take, get_or, Option, None, Some, refl, sym, ap, arith, drop-cons, append_assoc, append-nil, eqb-true}
use Rattle.std.proofs.lemmas.Bool.{eq-eqb}
use Rattle.std.proofs.lemmas.List.{take_more}
use Rattle.wat_grammar.specs.Parts.{◌>>=◌}
use Rattle.wat_grammar.specs.Strings.{braced}

-- characters before what is in the braces
abbrev pub ahead : List ℕ → Option (List ℕ × List ℕ) → Option (List ℕ × List ℕ)
ahead xs o = o >>= λ t. Some (xs ++ t.0, t.1)

ahead_twice : (xs : List ℕ) (c : ℕ) (o : Option (List ℕ × List ℕ)) → ahead xs (o >>= λ t. Some (c ∷ t.0, t.1)) ≡ ahead (xs ++ c ∷ []) o
ahead_twice xs c None = refl
ahead_twice xs c (Some t) = ap (λ ys. Some (ys, t.1)) (sym (append_assoc xs (c ∷ []) t.0))

braced_on : (c : ℕ) (cs : List ℕ) → c == 0x7d ≡ false → braced (c ∷ cs) ≡ (braced cs >>= λ t. Some (c ∷ t.0, t.1))
unfolding braced
braced_on c cs h = rw (braced, h) refl

braced_here : (c : ℕ) (cs : List ℕ) → c == 0x7d ≡ true → braced (c ∷ cs) ≡ Some ([], cs)
unfolding braced
braced_here c cs h = rw (braced, h) refl

braced_nowhere : braced [] ≡ None
unfolding braced
braced_nowhere = refl

pub differs : (a b : ℕ) → a ≢ b → a == b ≡ false
differs a b h = go (a == b) refl
  where
    go : (x : Bool) → a == b ≡ x → a == b ≡ false
    go true e = absurd (h (eqb-true a b e))
    go false e = e

pub braced_more : (i : ℕ) (cs : List ℕ) → i < length cs → get_or cs i 0 ≢ 0x7d
    → ahead (take i cs) (braced (drop i cs)) ≡ ahead (take (i + 1) cs) (braced (drop (i + 1) cs))
braced_more i cs below other = ap (λ x. ahead (take i cs) (braced x)) (drop-cons cs i 0 below)
    ∙ ap (ahead (take i cs)) (braced_on (get_or cs i 0) (drop (suc i) cs) (differs (get_or cs i 0) 0x7d other))
    ∙ ahead_twice (take i cs) (get_or cs i 0) (braced (drop (suc i) cs))
    ∙ ap (λ xs. ahead xs (braced (drop (suc i) cs))) (sym (take_more cs i 0 below))
    ∙ ap (λ k. ahead (take (i + 1) cs) (braced (drop k cs))) {x = suc i} {y = i + 1} (omega arith)

pub braced_at : (i : ℕ) (cs : List ℕ) → i < length cs → get_or cs i 0 ≡ 0x7d → ahead (take i cs) (braced (drop i cs)) ≡ Some (take i cs, drop (i + 1) cs)
braced_at i cs below is = ap (λ x. ahead (take i cs) (braced x)) (drop-cons cs i 0 below)
    ∙ ap (ahead (take i cs)) (braced_here (get_or cs i 0) (drop (suc i) cs) (eq-eqb (get_or cs i 0) 0x7d is))
    ∙ ap (λ xs. Some (xs, drop (suc i) cs)) (append-nil (take i cs))
    ∙ ap (λ k. Some (take i cs, drop k cs)) {x = suc i} {y = i + 1} (omega arith)

nothing_left : (i : ℕ) (cs : List ℕ) → length cs ≤ i → drop i cs ≡ []
nothing_left zero [] h = refl
nothing_left zero (x ∷ xs) h = absurd (omega arith)
nothing_left (suc i) [] h = refl
nothing_left (suc i) (x ∷ xs) h = nothing_left i xs (omega arith)

pub braced_end : (i : ℕ) (cs : List ℕ) → length cs ≤ i → ahead (take i cs) (braced (drop i cs)) ≡ None
braced_end i cs over = ap (λ x. ahead (take i cs) (braced x)) (nothing_left i cs over) ∙ ap (ahead (take i cs)) braced_nowhere
