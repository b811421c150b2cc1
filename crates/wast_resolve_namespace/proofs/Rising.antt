-- Pairs with increasing keys are sorted, and each key has its number.
use Rattle.std.proofs.Common.{◌≡◌, ℕ, zero, suc, ◌<◌, List, [], ◌∷◌, Option, Some, None, refl, sym, ap, ◌∙◌, subst, T, length, get_or, true}
use Rattle.std.proofs.Common.{false, ◌&&◌, Bool, cond, arith, inl, inr, IsPermutation}
use Rattle.std.specs.declared.cmp.Ordering.{Ordering}
use Rattle.std.specs.declared.cmp.Ordering.TheVariants.{Less, Equal}
use Rattle.std.specs.Ordering.{ordering_reverse, is_lt, is_eq}
use Rattle.std.specs.Cmp.{IsTotalOrder}
use Rattle.std.specs.List.{Contains}
use Rattle.std.specs.List.Sorted.{IsSortedBy}
use Rattle.std.specs.FinMap.{find, is_sorted}
use Rattle.std.specs.FinMap.Entries.{below_all}
use Rattle.std.proofs.lemmas.Bool.{cases_Bool}
use Rattle.std.proofs.lemmas.Cmp.{tied_itself}
use Rattle.std.proofs.lemmas.List.Sorted.{Contains-permutation, IsPermutation-sym}
use Rattle.std.proofs.lemmas.Map.Lookups.{CmpEqualImpliesEq}
use Rattle.wast_resolve_namespace.specs.Filling.{numbered_from, pair_cmp, IsTie}
use Rattle.wast_resolve_namespace.proofs.Basics.{is_equal}
use Rattle.wast_resolve_namespace.proofs.Numbered.{pair_is, later, from_place, to_place}
use Rattle.wast_resolve_namespace.proofs.Ties.{key_rises}

module _ {K : Type 0} {R : K → K → Ordering} (o : IsTotalOrder R) (exact : CmpEqualImpliesEq R) where
  abbrev Rises : List (K × ℕ) → Type 0
  Rises es = (i j : ℕ) (d : K × ℕ) → i < j → j < length es → R (get_or es i d).0 (get_or es j d).0 ≡ Less

  rises_tail : (e : K × ℕ) (es : List (K × ℕ)) → Rises (e ∷ es) → Rises es
  rises_tail e es h i j d lt within = h (suc i) (suc j) d (omega arith) (omega arith)

  both : (a b : Bool) → a ≡ true → T b → T (a && b)
  both true b h t = t
  both false b h t = absurd (cc h)

  all_above : (x : K) (es : List (K × ℕ)) → ((j : ℕ) (d : K × ℕ) → j < length es → R x (get_or es j d).0 ≡ Less) → T (below_all R x es)
  all_above x [] h = tt
  all_above x (e ∷ es) h = both (is_lt (R x e.0)) (below_all R x es) (ap is_lt (h 0 e (omega arith))) (all_above x es (λ j d lt. h (suc j) d (omega arith)))

  sorted_from : (es : List (K × ℕ)) → Rises es → T (is_sorted R es)
  sorted_from [] h = tt
  sorted_from (e ∷ es) h = both_T (below_all R e.0 es) (is_sorted R es) (all_above e.0 es (λ j d lt. h 0 (suc j) d (omega arith) (omega arith)))
      (sorted_from es (rises_tail e es h))
    where
      both_T : (a b : Bool) → T a → T b → T (a && b)
      both_T true b t u = u
      both_T false b t u = absurd t

  find_at : (q : K) (p : ℕ) (es : List (K × ℕ)) (j : ℕ) (d : K × ℕ) → Rises es → j < length es → get_or es j d ≡ (q, p) → find R q es ≡ Some p
  find_at q p [] j d h lt e = absurd (omega arith)
  find_at q p (x ∷ es) zero d h lt e =
      let k : x.0 ≡ q = ap (λ (z : K × ℕ). z.0) e in
      ap (λ (b : Bool). cond b (Some x.1) (find R q es)) (ap is_eq (subst (λ (y : K). R q y ≡ Equal) (sym k) (tied_itself o q)))
      ∙ ap (λ (z : K × ℕ). Some z.1) e
  find_at q p (x ∷ es) (suc j) d h lt e =
      let l : R x.0 q ≡ Less = subst (λ (z : K × ℕ). R x.0 z.0 ≡ Less) e (h 0 (suc j) d (omega arith) lt) in
      ap (λ (b : Bool). cond b (Some x.1) (find R q es)) (ap is_eq (o.antisymm q x.0 ∙ ap ordering_reverse l))
      ∙ find_at q p es j d (rises_tail x es h) (omega (arith, lt)) e

  -- A key at a position is found there.
  pub place_is_found : (xs : List (Option K)) (es : List (K × ℕ)) → IsPermutation (numbered_from 0 xs) es
      → IsSortedBy (λ a b. is_lt (pair_cmp R a b)) es → ((p : ℕ) → IsTie es p → ⊥)
      → (q : K) (p : ℕ) → p < length xs → get_or xs p None ≡ Some q → find R q es ≡ Some p
  place_is_found xs es moved sorted free q p lt h =
      let c = Contains-permutation (numbered_from 0 xs) es (q, p) moved (from_place 0 xs p p q lt (omega arith) h) in
      find_at q p es c.0 (q, p) (key_rises o exact xs es moved sorted free) c.1 c.2

  pub rise_from_free : (xs : List (Option K)) (es : List (K × ℕ)) → IsPermutation (numbered_from 0 xs) es
      → IsSortedBy (λ a b. is_lt (pair_cmp R a b)) es → ((p : ℕ) → IsTie es p → ⊥) → T (is_sorted R es)
  rise_from_free xs es moved sorted free = sorted_from es (key_rises o exact xs es moved sorted free)

  find_none : (q : K) (es : List (K × ℕ)) → ((p : ℕ) → Contains es (q, p) → ⊥) → find R q es ≡ None
  find_none q [] h = refl
  find_none q (x ∷ es) h = elim (cases_Bool (is_eq (R q x.0))) [
    | inr e ↦ ap (λ (b : Bool). cond b (Some x.1) (find R q es)) e ∙ find_none q es (λ p c. h p (later x (q, p) es c))
    | inl e ↦ absurd (h x.1 (0, omega arith, pair_is x.0 q x.1 x.1 (sym (exact q x.0 (is_equal (R q x.0) e))) refl))
  ]

  -- A key at no position is not found.
  pub nowhere_found : (xs : List (Option K)) (es : List (K × ℕ)) → IsPermutation (numbered_from 0 xs) es → (q : K)
      → ((p : ℕ) → p < length xs → get_or xs p None ≡ Some q → ⊥) → find R q es ≡ None
  nowhere_found xs es moved q h = find_none q es (λ p c.
      let s = to_place 0 xs q p (Contains-permutation es (numbered_from 0 xs) (q, p) (IsPermutation-sym (numbered_from 0 xs) es moved) c) in
      h s.at s.within s.is)
