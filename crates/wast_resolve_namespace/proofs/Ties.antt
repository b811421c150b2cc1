-- In pairs sorted by key and number, equal keys are neighbours.
use Rattle.std.proofs.Common.{◌≡◌, ◌≢◌, ℕ, zero, suc, ◌<◌, ◌≤◌, ◌⊎◌, List, Option, Some, None, refl, sym, ap, ◌∙◌, subst, map, length}
use Rattle.std.proofs.Common.{get_or, false, Bool, arith, inl, inr, IsPermutation}
use Rattle.std.specs.declared.cmp.Ordering.{Ordering}
use Rattle.std.specs.declared.cmp.Ordering.TheVariants.{Less, Equal, Greater}
use Rattle.std.specs.Ordering.{nat_cmp, ordering_then, ordering_reverse, is_lt}
use Rattle.std.specs.Cmp.{IsTotalOrder, nat_cmp_total}
use Rattle.std.specs.List.{Contains}
use Rattle.std.specs.List.Sorted.{IsSortedBy}
use Rattle.std.proofs.lemmas.Cmp.{on_total, then_total, tied_itself}
use Rattle.std.proofs.lemmas.List.{get_or-map, length-map}
use Rattle.std.proofs.lemmas.List.Elements.{Contains-get_or}
use Rattle.std.proofs.lemmas.List.Sorted.{ranks_by, sorted_far, Contains-permutation, IsPermutation-sym, IsPermutation-map}
use Rattle.std.proofs.lemmas.Map.Keys.{IsDistinct-IsPermutation, apart_from_distinct}
use Rattle.std.proofs.lemmas.Map.Lookups.{CmpEqualImpliesEq}
use Rattle.wast_resolve_namespace.specs.Filling.{numbered_from, pair_cmp, IsTie}
use Rattle.wast_resolve_namespace.proofs.Basics.{less, three_cases, any_default}
use Rattle.wast_resolve_namespace.proofs.Numbered.{eqb, Stands, from_place, to_place, distinct, flips, not_same}

-- The key at p is at an earlier position too.
pub record IsAgain {K : Type 0} (xs : List (Option K)) (p : ℕ) : Type 0 where
  pub name : K
  pub earlier : ℕ
  pub before : earlier < p
  pub within : p < length xs
  pub first : get_or xs earlier None ≡ Some name
  pub again : get_or xs p None ≡ Some name

module _ {K : Type 0} {R : K → K → Ordering} (o : IsTotalOrder R) (exact : CmpEqualImpliesEq R) where
  abbrev pair_lt : K × ℕ → K × ℕ → Bool
  pair_lt a b = is_lt (pair_cmp R a b)

  pub pairs_total : IsTotalOrder (pair_cmp R)
  pairs_total = then_total (on_total (λ (e : K × ℕ). e.0) o) (on_total (λ (e : K × ℕ). e.1) nat_cmp_total)

  abbrev pub Up : K × ℕ → K × ℕ → Type 0
  Up a b = (R a.0 b.0 ≡ Less) ⊎ ((a.0 ≡ b.0) × (a.1 < b.1))

  split_by : (a b : K × ℕ) (r : Ordering) → R b.0 a.0 ≡ r → is_lt (ordering_then r (nat_cmp b.1 a.1)) ≡ false → a.1 ≢ b.1 → Up a b
  split_by a b Less e h n = absurd (cc (h))
  split_by a b Equal e h n = elim (three_cases a.1 b.1) [
    | inl l ↦ inr (sym (exact b.0 a.0 e), l)
    | inr r ↦ elim r [
      | inl s ↦ absurd (n s)
      | inr g ↦ absurd (cc (h, sym (ap is_lt (less b.1 a.1 g))))
    ]
  ]
  split_by a b Greater e h n = inl (o.antisymm a.0 b.0 ∙ ap ordering_reverse e)

  split : (a b : K × ℕ) → pair_lt b a ≡ false → a.1 ≢ b.1 → Up a b
  split a b h n = split_by a b (R b.0 a.0) refl h n

  never : (q : K) → R q q ≡ Less → ⊥
  never q h = absurd (cc (h, tied_itself o q))

  module _ (xs : List (Option K)) (es : List (K × ℕ)) (moved : IsPermutation (numbered_from 0 xs) es)
      (sorted : IsSortedBy (λ a b. is_lt (pair_cmp R a b)) es) where
    apart : (i j : ℕ) (d : K × ℕ) → i < j → j < length es → (get_or es i d).1 ≢ (get_or es j d).1
    apart i j d lt within e =
        let f = λ (x : K × ℕ). x.1 in
        let ds = IsDistinct-IsPermutation eqb flips (map f (numbered_from 0 xs)) (map f es) (IsPermutation-map f (numbered_from 0 xs) es moved)
        (distinct 0 xs) in
        not_same (get_or (map f es) i d.1) (get_or (map f es) j d.1) (apart_from_distinct eqb (map f es) i j d.1 ds lt (omega (arith, within, length-map es f)))
        (get_or-map f es i d d.1 (omega arith) ∙ e ∙ sym (get_or-map f es j d d.1 within))

    pub rises : (i j : ℕ) (d : K × ℕ) → i < j → j < length es → Up (get_or es i d) (get_or es j d)
    rises i j d lt within =
        split (get_or es i d) (get_or es j d) (sorted_far pair_lt (ranks_by pairs_total (λ (e : K × ℕ). e)) es sorted i j d (omega arith) within)
        (apart i j d lt within)

    stands : (i : ℕ) (d : K × ℕ) → i < length es → Stands 0 xs (get_or es i d).0 (get_or es i d).1
    stands i d lt = to_place 0 xs (get_or es i d).0 (get_or es i d).1 (Contains-permutation es (numbered_from 0 xs) (get_or es i d)
        (IsPermutation-sym (numbered_from 0 xs) es moved) (Contains-get_or es i d lt))

    -- Neighbours with the same key are a key that occurs twice.
    pub tie_is_again : (p : ℕ) (d : K × ℕ) → IsTie es p → IsAgain xs p
    tie_is_again p d t =
        let a = get_or es t.at d in
        let b = get_or es (suc t.at) d in
        let s = stands t.at d (omega (arith, t.within)) in
        let u = stands (suc t.at) d t.within in
        let lt : a.1 < b.1 = elim (rises t.at (suc t.at) d (omega arith) t.within) [
          | inl l ↦ absurd (never b.0 (subst (λ (k : K). R k b.0 ≡ Less) (t.same d) l))
          | inr h ↦ h.1
        ] in
        record {
          name = b.0;
          earlier = s.at;
          before = omega (arith, lt, s.place, t.number d);
          within = omega (arith, u.within, u.place, t.number d);
          first = s.is ∙ ap Some (t.same d);
          again = ap (λ n. get_or xs n None) (let e : p ≡ u.at = omega (arith, u.place, t.number d) in e) ∙ u.is;
        }

    found : (q : K) (n : ℕ) (d : K × ℕ) (c : Contains es (q, n)) → get_or es c.0 d ≡ (q, n)
    found q n d c = any_default es c.0 d (q, n) c.1 ∙ c.2

    same_before : (q : K) (i r a b : ℕ) (d : K × ℕ) → get_or es a d ≡ (q, i) → get_or es (suc b) d ≡ (q, r) → a ≤ b → suc b < length es → (get_or es b d).0 ≡ q
    same_before q i r a b d ha hb le within = elim (rises b (suc b) d (omega arith) within) [
      | inr h ↦ h.0 ∙ ap (λ (z : K × ℕ). z.0) hb
      | inl l ↦ elim (three_cases a b) [
        | inr m ↦ elim m [
          | inl e ↦ ap (λ n. (get_or es n d).0) (sym e) ∙ ap (λ (z : K × ℕ). z.0) ha
          | inr g ↦ absurd (omega arith)
        ]
        | inl lt ↦ elim (rises a b d lt (omega arith)) [
          | inr h ↦ sym h.0 ∙ ap (λ (z : K × ℕ). z.0) ha
          | inl k ↦ absurd (never q (o.trans q (get_or es b d).0 q
              (subst (λ (z : K × ℕ). R z.0 (get_or es b d).0 ≡ Less) ha k)
              (subst (λ (z : K × ℕ). R (get_or es b d).0 z.0 ≡ Less) hb l)))
        ]
      ]
    ]

    in_order : (q : K) (i r a b : ℕ) (d : K × ℕ) → get_or es a d ≡ (q, i) → get_or es b d ≡ (q, r) → i < r → a < length es → b < length es → a < b
    in_order q i r a b d ha hb lt wa wb = elim (three_cases a b) [
      | inl l ↦ l
      | inr m ↦ elim m [
        | inl e ↦ absurd (let f : i ≡ r = ap (λ (z : K × ℕ). z.1) (sym ha ∙ ap (λ n. get_or es n d) e ∙ hb) in omega (arith, f))
        | inr g ↦ elim (rises b a d g wa) [
          | inl l ↦ absurd (never q (subst (λ (z : K × ℕ). R z.0 q ≡ Less) hb (subst (λ (z : K × ℕ). R (get_or es b d).0 z.0 ≡ Less) ha l)))
          | inr h ↦ absurd (let x : (get_or es b d).1 ≡ r = ap (λ (z : K × ℕ). z.1) hb in let y : (get_or es a d).1 ≡ i = ap (λ (z : K × ℕ). z.1) ha
              in omega (arith, h.1, x, y))
        ]
      ]
    ]

    tied_at : (q : K) (i r a b : ℕ) (d : K × ℕ) → get_or es a d ≡ (q, i) → get_or es b d ≡ (q, r) → a < b → b < length es → IsTie es r
    tied_at q i r a zero d ha hb lt within = absurd (omega arith)
    tied_at q i r a (suc b) d ha hb lt within = record {
      at = b;
      within = within;
      same = λ e.
          ap (λ (z : K × ℕ). z.0) (any_default es b e d (omega arith)) ∙ same_before q i r a b d ha hb (omega arith) within
          ∙ ap (λ (z : K × ℕ). z.0) (sym hb ∙ any_default es (suc b) d e within);
      number = λ e. ap (λ (z : K × ℕ). z.1) (any_default es (suc b) e d within ∙ hb);
    }

    -- A key that occurs twice is one of two neighbours.
    pub again_is_tie : (p : ℕ) → IsAgain xs p → IsTie es p
    again_is_tie p c =
        let d : K × ℕ = (c.name, 0) in
        let x = Contains-permutation (numbered_from 0 xs) es (c.name, c.earlier) moved
        (from_place 0 xs c.earlier c.earlier c.name (omega (arith, c.before, c.within)) (omega arith) c.first) in
        let y = Contains-permutation (numbered_from 0 xs) es (c.name, p) moved (from_place 0 xs p p c.name c.within (omega arith) c.again) in
        tied_at c.name c.earlier p x.0 y.0 d (found c.name c.earlier d x) (found c.name p d y)
        (in_order c.name c.earlier p x.0 y.0 d (found c.name c.earlier d x) (found c.name p d y) c.before x.1 y.1) y.1

    -- If no key occurs twice, the keys increase, and each key has its number.
    module _ (free : (p : ℕ) → IsTie es p → ⊥) where
      pub key_rises : (i j : ℕ) (d : K × ℕ) → i < j → j < length es → R (get_or es i d).0 (get_or es j d).0 ≡ Less
      key_rises i j d lt within = elim (rises i j d lt within) [
        | inl l ↦ l
        | inr h ↦
            let s = stands i d (omega arith) in
            let u = stands j d within in
            absurd (free (get_or es j d).1 (again_is_tie (get_or es j d).1 record {
              name = (get_or es j d).0;
              earlier = s.at;
              before = omega (arith, h.1, s.place);
              within = omega (arith, u.within, u.place);
              first = s.is ∙ ap Some h.0;
              again = ap (λ n. get_or xs n None) (let e : (get_or es j d).1 ≡ u.at = omega (arith, u.place) in e) ∙ u.is;
            }))
      ]
