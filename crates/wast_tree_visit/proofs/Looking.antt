-- Lemmas: whether the item at an index passes a test, in a list with an item for each element.
use Rattle.std.proofs.Common.{◌≡◌, ℕ, Bool, false, ◌≤◌, ◌<◌, length, get_or, take, drop, List, [], ◌∷◌, refl, sym, ap, ◌∙◌, arith}
use Rattle.std.specs.Prelude.{map}
use Rattle.std.specs.List.{list_any, flat_map}
use Rattle.std.proofs.Math.Bool.{or-false}
use Rattle.std.proofs.lemmas.List.{drop-map, drop_all, drop_more, length-map}
use Rattle.wast_tree_visit.proofs.Visiting.{each_alone}

pub as_many : {X A : Type 0} (f : A → X) (xs : List A) → length xs ≡ length (flat_map (λ y. f y ∷ []) xs)
as_many f xs = sym (sym (ap length (each_alone f xs)) ∙ length-map xs f)

module _ {X : Type 0} (p : X → Bool) where
  past_all : (xs : List X) (i : ℕ) → length xs ≤ i → false ≡ list_any p (take 1 (drop i xs))
  past_all xs i le = sym (ap (λ ys. list_any p (take 1 ys)) (drop_all i xs le))

  module _ {A : Type 0} (f : A → X) (xs : List A) where
    pub of_each : (i : ℕ) (x d : A) (b : Bool) → i < length xs → x ≡ get_or xs i d → b ≡ p (f x)
        → b ≡ list_any p (take 1 (drop i (flat_map (λ y. f y ∷ []) xs)))
    of_each i x d b lt is e =
        e
        ∙ (ap (λ y. p (f y)) is
        ∙ sym (sym (ap (λ ys. list_any p (take 1 (drop i ys))) (each_alone f xs))
        ∙ (ap (λ ys. list_any p (take 1 ys)) (drop-map f i xs ∙ ap (map f) (drop_more xs i d lt)) ∙ or-false (p (f (get_or xs i d))))))

    pub of_no_more : (i : ℕ) → length xs ≤ i → false ≡ list_any p (take 1 (drop i (flat_map (λ y. f y ∷ []) xs)))
    of_no_more i le = past_all (flat_map (λ y. f y ∷ []) xs) i (omega (arith, as_many f xs, le))

  -- all elements have the same item
  pub of_same : {A : Type 0} (f : A → X) (xs : List A) (i : ℕ) (b : Bool) → i < length xs → ((x : A) → b ≡ p (f x))
      → b ≡ list_any p (take 1 (drop i (flat_map (λ y. f y ∷ []) xs)))
  of_same f [] i b lt h = absurd (omega (arith, lt))
  of_same f (x ∷ xs) i b lt h = let y = get_or (x ∷ xs) i x in of_each f (x ∷ xs) i y x b lt refl (h y)
