-- Lemmas for the loops of Imports::item_sigs, which append a signature for each item.
use Rattle.std.proofs.Common.{◌≡◌, ℕ, zero, suc, ◌+◌, ◌<◌, List, [], ◌∷◌, ◌++◌, refl, sym, ap, ◌∙◌, append_assoc, length, map, drop, add-one, arith}
use Rattle.std.proofs.lemmas.List.{map-append}

module _ {T A : Type 0} where
  left_less : (y : A) (xs : List T) (i : ℕ) → i < length xs → map (λ x. y) (drop i xs) ≡ y ∷ map (λ x. y) (drop (suc i) xs)
  left_less y [] i lt = absurd (omega (arith, lt))
  left_less y (x ∷ xs) zero lt = refl
  left_less y (x ∷ xs) (suc i) lt = left_less y xs i (omega (arith, lt))

  -- one step: the next of the remaining elements is appended
  pub pushed_again : {S : Type 0} (now : S → A) (x : S) (there next : List S) (all : List A) (xs : List T) (i : ℕ) → i < length xs → next ≡ there ++ x ∷ []
      → map now there ++ map (λ t. now x) (drop i xs) ≡ all → map now next ++ map (λ t. now x) (drop (i + 1) xs) ≡ all
  pushed_again now x there next all xs i lt is h =
      let rest = map (λ t. now x) (drop (suc i) xs) in
      ap (λ n. map now next ++ map (λ t. now x) (drop n xs)) (add-one i)
      ∙ (ap (λ ss. map now ss ++ rest) is ∙ (ap (λ zs. zs ++ rest) (map-append now there (x ∷ []))
      ∙ (append_assoc (map now there) (now x ∷ []) rest ∙ (ap (λ zs. map now there ++ zs) (sym (left_less (now x) xs i lt)) ∙ h))))
