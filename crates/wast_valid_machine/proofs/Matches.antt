-- Lists of types that match, one type at a time.
use Rattle.std.proofs.Common.{◌≡◌, ℕ, zero, suc, ◌+◌, ◌<◌, ◌≤◌, true, false, ◌&&◌, List, [], ◌∷◌, length, drop, Some, slice_get, refl, ap, sym, ◌∙◌, arith, drop-cons}
use Rattle.std.proofs.lemmas.Option.{get_or_from_slice_get}
use Rattle.wast_valid_machine.specs.declared.types.Ty.{Ty}
use Rattle.wast_valid_machine.specs.Types.{Types, matches}
use Rattle.wast_valid_machine.specs.Control.{all_match}

-- the types that are left begin with this one
begins_with : (xs : List Ty) (i : ℕ) (x : Ty) → i < length xs → slice_get xs i ≡ Some x → drop i xs ≡ x ∷ drop (i + 1) xs
begins_with xs i x lt is =
    let e : suc i ≡ i + 1 = omega arith in
    drop-cons xs i x lt ∙ (ap (λ y. y ∷ drop (suc i) xs) (get_or_from_slice_get xs i x x is) ∙ ap (λ n. x ∷ drop n xs) e)

module _ (ts : Types) (xs ys : List Ty) (i : ℕ) (x y : Ty) (lt : i < length xs) (same : length xs ≡ length ys)
    (is : slice_get xs i ≡ Some x) (js : slice_get ys i ≡ Some y) where
  here : all_match ts (drop i xs) (drop i ys) ≡ (matches ts x y && all_match ts (drop (i + 1) xs) (drop (i + 1) ys))
  unfolding all_match
  here = ap (λ zs. all_match ts zs (drop i ys)) (begins_with xs i x lt is) ∙ ap (λ bs. all_match ts (x ∷ drop (i + 1) xs) bs) (begins_with ys i y (omega (arith, lt, same)) js)

  pub one_matches : matches ts x y ≡ true → all_match ts (drop i xs) (drop i ys) ≡ all_match ts (drop (i + 1) xs) (drop (i + 1) ys)
  one_matches h = here ∙ ap (λ b. b && all_match ts (drop (i + 1) xs) (drop (i + 1) ys)) h

  pub one_differs : matches ts x y ≡ false → all_match ts (drop i xs) (drop i ys) ≡ false
  one_differs h = here ∙ ap (λ b. b && all_match ts (drop (i + 1) xs) (drop (i + 1) ys)) h

pub all_matched : (ts : Types) (xs ys : List Ty) (i : ℕ) → length xs ≡ length ys → length xs ≤ i → all_match ts (drop i xs) (drop i ys) ≡ true
unfolding all_match
all_matched ts [] [] zero same le = refl
all_matched ts [] [] (suc i) same le = refl
all_matched ts [] (y ∷ ys) i same le = absurd (omega (arith, same))
all_matched ts (x ∷ xs) [] i same le = absurd (omega (arith, same))
all_matched ts (x ∷ xs) (y ∷ ys) zero same le = absurd (omega (arith, le))
all_matched ts (x ∷ xs) (y ∷ ys) (suc i) same le = all_matched ts xs ys i (omega (arith, same)) (omega (arith, le))

pub lengths_differ : (ts : Types) (xs ys : List Ty) → (length xs ≡ length ys → ⊥) → all_match ts xs ys ≡ false
unfolding all_match
lengths_differ ts [] [] h = absurd (h refl)
lengths_differ ts [] (y ∷ ys) h = refl
lengths_differ ts (x ∷ xs) [] h = refl
lengths_differ ts (x ∷ xs) (y ∷ ys) h = ap (λ b. matches ts x y && b) (lengths_differ ts xs ys (λ e. h (ap suc e))) ∙ never (matches ts x y)
  where
    never : (b : _) → (b && false) ≡ false
    never true = refl
    never false = refl
