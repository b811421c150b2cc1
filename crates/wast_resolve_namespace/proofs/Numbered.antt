-- Keys with their positions: each position once, and each key at its position.
use Rattle.std.proofs.Common.{◌≡◌, ◌≢◌, ℕ, zero, suc, ◌+◌, ◌<◌, List, [], ◌∷◌, Option, Some, None, sym, ap, ap₂, ◌∙◌, map, length, get_or}
use Rattle.std.proofs.Common.{false, Bool, arith, inl, inr, true≢false}
use Rattle.std.specs.declared.cmp.Ordering.TheVariants.{Equal, Greater}
use Rattle.std.specs.Ordering.{nat_cmp, is_eq}
use Rattle.std.specs.Cmp.{nat_cmp_is}
use Rattle.std.specs.List.{Contains, IsDistinct, AllByRecursion}
use Rattle.wast_resolve_namespace.specs.Filling.{numbered_from}
use Rattle.wast_resolve_namespace.proofs.Basics.{less, three_cases}

abbrev pub eqb : ℕ → ℕ → Bool
eqb m n = is_eq (nat_cmp m n)

differ : (m n : ℕ) → m < n → eqb m n ≡ false
differ m n lt = ap is_eq (less m n lt)

module _ {K : Type 0} where
  abbrev from_some : K → Option K → K
  from_some d None = d
  from_some d (Some x) = x

  pub pair_is : (x k : K) (n p : ℕ) → x ≡ k → n ≡ p → ◌≡◌ {A = K × ℕ} (x, n) (k, p)
  pair_is x k n p e f i = (e i, f i)

  pub later : (e x : K × ℕ) (es : List (K × ℕ)) → Contains es x → Contains (e ∷ es) x
  later e x es c = (suc c.0, omega (arith, c.1), c.2)

  pub from_place : (n : ℕ) (xs : List (Option K)) (i p : ℕ) (k : K) → i < length xs → p ≡ n + i → get_or xs i None ≡ Some k
      → Contains (numbered_from n xs) (k, p)
  from_place n [] i p k lt e h = absurd (omega arith)
  from_place n (None ∷ xs) zero p k lt e h = absurd (cc (h))
  from_place n (Some x ∷ xs) zero p k lt e h = (0, omega arith, pair_is x k n p (ap (from_some x) h) (omega (arith, e)))
  from_place n (None ∷ xs) (suc i) p k lt e h = from_place (suc n) xs i p k (omega arith) (omega (arith, e)) h
  from_place n (Some x ∷ xs) (suc i) p k lt e h =
      later (x, n) (k, p) (numbered_from (suc n) xs) (from_place (suc n) xs i p k (omega arith) (omega (arith, e)) h)

  -- The key k is at the position p, and positions are counted from n.
  pub record Stands (n : ℕ) (xs : List (Option K)) (k : K) (p : ℕ) : Type 0 where
    pub at : ℕ
    pub place : p ≡ n + at
    pub within : at < length xs
    pub is : get_or xs at None ≡ Some k

  next : (n : ℕ) (x : Option K) (xs : List (Option K)) (k : K) (p : ℕ) → Stands (suc n) xs k p → Stands n (x ∷ xs) k p
  next n x xs k p s = record { at = suc s.at; place = omega (arith, s.place); within = omega (arith, s.within); is = s.is }

  pub to_place : (n : ℕ) (xs : List (Option K)) (k : K) (p : ℕ) → Contains (numbered_from n xs) (k, p) → Stands n xs k p
  to_place n [] k p c = absurd (omega (arith, c.1))
  to_place n (None ∷ xs) k p c = next n None xs k p (to_place (suc n) xs k p c)
  to_place n (Some x ∷ xs) k p (zero, lt, e) = record {
    at = 0;
    place = (let f : n ≡ p = ap (λ (z : K × ℕ). z.1) e in omega (arith, f));
    within = omega arith;
    is = ap (λ (z : K × ℕ). Some z.0) e;
  }
  to_place n (Some x ∷ xs) k p (suc j, lt, e) = next n (Some x) xs k p (to_place (suc n) xs k p (j, omega (arith, lt), e))

  above : (n m : ℕ) (xs : List (Option K)) → n < m → AllByRecursion (λ y. eqb n y ≡ false) (map (λ (e : K × ℕ). e.1) (numbered_from m xs))
  above n m [] lt = tt
  above n m (None ∷ xs) lt = above n (suc m) xs (omega arith)
  above n m (Some x ∷ xs) lt = (differ n m lt, above n (suc m) xs (omega arith))

  pub distinct : (n : ℕ) (xs : List (Option K)) → IsDistinct eqb (map (λ (e : K × ℕ). e.1) (numbered_from n xs))
  unfolding IsDistinct
  distinct n [] = tt
  distinct n (None ∷ xs) = distinct (suc n) xs
  distinct n (Some x ∷ xs) = (above n (suc n) xs (omega arith), distinct (suc n) xs)

pub flips : (x y : ℕ) → eqb x y ≡ eqb y x
flips x y = elim (three_cases x y) [
  | inl l ↦ ap is_eq (less x y l) ∙ sym (ap is_eq (sym (nat_cmp_is y x Greater l)))
  | inr r ↦ elim r [
    | inl e ↦ ap₂ eqb e (sym e)
    | inr g ↦ ap is_eq (sym (nat_cmp_is x y Greater g)) ∙ sym (ap is_eq (less y x g))
  ]
]

pub not_same : (x y : ℕ) → eqb x y ≡ false → x ≢ y
not_same x y h e = true≢false (ap is_eq (nat_cmp_is x y Equal e) ∙ h)
