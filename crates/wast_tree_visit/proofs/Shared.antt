-- Lemma: one step of a loop that visits the same element again and again.
use Rattle.std.proofs.Common.{◌≡◌, ℕ, zero, suc, ◌+◌, ◌<◌, List, [], ◌∷◌, ◌++◌, sym, ap, ◌∙◌, subst, append-nil, append_assoc, length, take, add-one, arith}
use Rattle.std.specs.Prelude.{flat_map}
use Rattle.wast_tree_visit.specs.Visits.{Visits}
use Rattle.wast_tree_visit.proofs.Visiting.{visits_both}

module _ {T A : Type 0} where
  taken_more : (ys : List A) (xs : List T) (i : ℕ) → i < length xs → flat_map (λ x. ys) (take (suc i) xs) ≡ flat_map (λ x. ys) (take i xs) ++ ys
  taken_more ys [] i lt = absurd (omega (arith, lt))
  taken_more ys (x ∷ xs) zero lt = append-nil ys
  taken_more ys (x ∷ xs) (suc i) lt = ap (λ zs. ys ++ zs) (taken_more ys xs i (omega (arith, lt))) ∙ sym (append_assoc ys (flat_map (λ x. ys) (take i xs)) ys)

  -- a visitor that visits the same once more
  pub visits_again : {V : Type 0} {told : V → A → V → Type 0} {a b c : V} (ys : List A) (xs : List T) (i : ℕ) → i < length xs
      → Visits told a (flat_map (λ x. ys) (take i xs)) b → Visits told b ys c → Visits told a (flat_map (λ x. ys) (take (i + 1) xs)) c
  visits_again {told = told} {a} {c = c} ys xs i lt h k =
      subst (λ zs. Visits told a zs c) (sym (ap (λ n. flat_map (λ x. ys) (take n xs)) (add-one i) ∙ taken_more ys xs i lt)) (visits_both h k)
