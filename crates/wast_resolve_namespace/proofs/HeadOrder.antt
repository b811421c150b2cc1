-- Texts with different prefix keys have the order of their keys.
use Rattle.std.proofs.Common.{◌≡◌, ◌≢◌, ℕ, zero, suc, ◌+◌, ◌*◌, ◌^◌, ◌<◌, ◌≤◌, List, [], ◌∷◌, refl, sym, ap, ◌∙◌, arith, inl, inr, nat_lt}
use Rattle.std.specs.Prelude.{slice_index}
use Rattle.std.specs.declared.cmp.Ordering.{Ordering}
use Rattle.std.specs.declared.cmp.Ordering.TheVariants.{Less, Equal}
use Rattle.std.specs.Ordering.{nat_cmp, ordering_then, ordering_reverse, is_lt}
use Rattle.std.specs.Cmp.{nat_cmp_is}
use Rattle.std.specs.Option.{option_cmp}
use Rattle.std.specs.Cmp.Lexicographic.{slice_cmp, nat_list_cmp_total}
use Rattle.std.specs.Int.{w64, from_be_bytes}
use Rattle.std.proofs.lemmas.Bool.{cases_Bool, ltb-true, ltb-false}
use Rattle.std.proofs.lemmas.Nat.{mul-le}
use Rattle.wast_base.specs.declared.ids.Id.{Id}
use Rattle.wast_base.specs.Ids.{text_of, name_of}
use Rattle.wast_base.specs.Order.{key_cmp}
use Rattle.wast_resolve_namespace.specs.Heads.{IsHead}
use Rattle.wast_resolve_namespace.specs.Filling.{pair_cmp}
use Rattle.wast_resolve_namespace.specs.Places.{entry_of}
use Rattle.wast_resolve_namespace.proofs.Basics.{less, three_cases}

-- the first n bytes as one number
abbrev worth : ℕ → List ℕ → ℕ
worth zero xs = 0
worth (suc n) [] = 0
worth (suc n) (x ∷ xs) = x * 256 ^ n + worth n xs

abbrev AreSmall : ℕ → List ℕ → Type 0
AreSmall n xs = (i : ℕ) → i < n → slice_index xs i < 256

others_small : (n x : ℕ) (xs : List ℕ) → AreSmall (suc n) (x ∷ xs) → AreSmall n xs
others_small n x xs h i lt = h (suc i) (omega arith)

worth_below : (n : ℕ) (xs : List ℕ) → AreSmall n xs → worth n xs < 256 ^ n
worth_below zero xs h = omega arith
worth_below (suc n) [] h =
    let rest = worth_below n [] (λ i lt. omega arith) in
    omega (arith, rest)
worth_below (suc n) (x ∷ xs) h =
    let rest = worth_below n xs (others_small n x xs h) in
    let first : x * 256 ^ n ≤ 255 * 256 ^ n = mul-le x (256 ^ n) 255 (256 ^ n) (omega (arith, h 0 (omega arith))) (omega arith) in
    omega (arith, rest, first)

more_worth : (x y p r s : ℕ) → y < x → s < p → x * p + r < y * p + s → ⊥
more_worth x y p r s lt below h =
    let up : (y + 1) * p ≤ x * p = mul-le (y + 1) p x p (omega (arith, lt)) (omega arith) in
    let split : (y + 1) * p ≡ y * p + p = omega arith in
    omega (arith, up, split, below, h)

-- The text with the lesser key comes first.
first_by_worth : (n : ℕ) (xs ys : List ℕ) → AreSmall n xs → AreSmall n ys → worth n xs < worth n ys → slice_cmp nat_cmp xs ys ≡ Less
first_by_worth zero xs ys s t h = absurd (omega (arith, h))
first_by_worth (suc n) [] [] s t h = absurd (omega (arith, h))
first_by_worth (suc n) [] (y ∷ ys) s t h = refl
first_by_worth (suc n) (x ∷ xs) [] s t h = absurd (omega (arith, h))
first_by_worth (suc n) (x ∷ xs) (y ∷ ys) s t h = elim (three_cases x y) [
  | inl lt ↦ ap (λ o. ordering_then o (slice_cmp nat_cmp xs ys)) (less x y lt)
  | inr m ↦ elim m [
    | inl is ↦
        let same : x * 256 ^ n ≡ y * 256 ^ n = ap (λ z. z * 256 ^ n) is in
        ap (λ o. ordering_then o (slice_cmp nat_cmp xs ys)) (tied x y is)
        ∙ first_by_worth n xs ys (others_small n x xs s) (others_small n y ys t) (omega (arith, same, h))
    | inr gt ↦ absurd (more_worth x y (256 ^ n) (worth n xs) (worth n ys) gt (worth_below n ys (others_small n y ys t)) h)
  ]
]
  where
    tied : (x y : ℕ) → x ≡ y → nat_cmp x y ≡ Equal
    tied x y is = sym (nat_cmp_is x y Equal is)

number_is : (xs : List ℕ) → from_be_bytes w64 xs ≡ worth 8 xs
number_is [] = omega arith
number_is (a ∷ []) = omega arith
number_is (a ∷ b ∷ []) = omega arith
number_is (a ∷ b ∷ c ∷ []) = omega arith
number_is (a ∷ b ∷ c ∷ d ∷ []) = omega arith
number_is (a ∷ b ∷ c ∷ d ∷ e ∷ []) = omega arith
number_is (a ∷ b ∷ c ∷ d ∷ e ∷ f ∷ []) = omega arith
number_is (a ∷ b ∷ c ∷ d ∷ e ∷ f ∷ g ∷ []) = omega arith
number_is (a ∷ b ∷ c ∷ d ∷ e ∷ f ∷ g ∷ h ∷ xs) = omega arith

first_by_head : (a b : List ℕ) (h k : ℕ) → IsHead a h → IsHead b k → h < k → slice_cmp nat_cmp a b ≡ Less
first_by_head a b h k p q lt =
    let at_a : h ≡ worth 8 a = p.number ∙ number_is a in
    let at_b : k ≡ worth 8 b = q.number ∙ number_is b in
    first_by_worth 8 a b p.bytes q.bytes (omega (arith, lt, at_a, at_b))

-- Different keys decide which pair comes first.
pub by_head : (a b : Id × ℕ) (h k : ℕ) → IsHead (text_of (name_of a.0)) h → IsHead (text_of (name_of b.0)) k → h ≢ k
    → nat_lt h k ≡ is_lt (pair_cmp key_cmp (entry_of a) (entry_of b))
by_head a b h k p q apart =
    let s = text_of (name_of a.0) in
    let t = text_of (name_of b.0) in
    let rest : Ordering → Ordering = λ o. ordering_then (ordering_then o (option_cmp nat_cmp (entry_of a).0.1 (entry_of b).0.1)) (nat_cmp a.1 b.1) in
    elim (cases_Bool (nat_lt h k)) [
      | inl e ↦ e ∙ sym (ap (λ o. is_lt (rest o)) (first_by_head s t h k p q (ltb-true h k e)))
      | inr e ↦
          let lt : k < h = omega (arith, ltb-false h k e, apart) in
          e ∙ sym (ap (λ o. is_lt (rest o)) (nat_list_cmp_total.antisymm s t ∙ ap ordering_reverse (first_by_head t s k h q p lt)))
    ]
