-- Groups of pairs with keys: one that is sorted among others, and a pair that gets another key.
use Rattle.std.proofs.Common.{◌≡◌, ℕ, ◌<◌, List, ◌++◌, length, get_or, set, take, drop, map, sym, ap, ◌∙◌, subst₂, arith, IsPermutation}
use Rattle.std.proofs.lemmas.List.{map-append, map-set, set-get_or, get_or-map, length-map, take-append-drop}
use Rattle.std.proofs.lemmas.List.Sorted.{IsPermutation-append_left, IsPermutation-append_right}

module _ {P X : Type 0} (f : P → X) where
  -- the pairs of a list, part by part
  parts : (a k : ℕ) (hs ks : List P) → map f (take a hs ++ (ks ++ drop k (drop a hs))) ≡ map f (take a hs) ++ (map f ks ++ map f (drop k (drop a hs)))
  parts a k hs ks =
      map-append f (take a hs) (ks ++ drop k (drop a hs)) ∙ ap (λ l. map f (take a hs) ++ l) (map-append f ks (drop k (drop a hs)))

  whole : (a k : ℕ) (hs : List P) → take a hs ++ (take k (drop a hs) ++ drop k (drop a hs)) ≡ hs
  whole a k hs = ap (λ l. take a hs ++ l) (take-append-drop k (drop a hs)) ∙ take-append-drop a hs

  -- A group of k from the a-th on keeps its pairs in some order, so all do.
  pub part_moved : (a k : ℕ) (hs ks : List P) → IsPermutation (map f (take k (drop a hs))) (map f ks)
      → IsPermutation (map f hs) (map f (take a hs ++ (ks ++ drop k (drop a hs))))
  part_moved a k hs ks h =
      subst₂ IsPermutation (sym (parts a k hs (take k (drop a hs))) ∙ ap (map f) (whole a k hs)) (sym (parts a k hs ks))
      (IsPermutation-append_right (map f (take a hs)) _ _ (IsPermutation-append_left (map f (drop k (drop a hs))) _ _ h))

  -- One more pair gets another key.
  pub reheaded : (hs gs : List P) (i : ℕ) (h d : P) → i < length gs → f h ≡ f (get_or hs i d) → map f hs ≡ map f gs → map f (set hs i h) ≡ map f gs
  reheaded hs gs i h d lt same are =
      let long : length hs ≡ length gs = sym (length-map hs f) ∙ ap length are ∙ length-map gs f in
      let there : f h ≡ get_or (map f hs) i (f d) = same ∙ sym (get_or-map f hs i d (f d) (omega (arith, lt, long))) in
      map-set f hs i h ∙ ap (set (map f hs) i) there ∙ set-get_or (map f hs) i (f d) ∙ are
