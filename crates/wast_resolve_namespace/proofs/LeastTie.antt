-- The search for the least number of equal neighbours.
use Rattle.std.proofs.Common.{◌≡◌, ◌≢◌, ℕ, suc, ◌+◌, ◌<◌, ◌≤◌, ◌⊎◌, List, cond, Option, Some, None, refl, sym, ap, ◌∙◌, subst, length}
use Rattle.std.proofs.Common.{get_or, true, false, Bool, arith, inl, inr, true≢false}
use Rattle.std.specs.declared.cmp.Ordering.TheVariants.{Equal}
use Rattle.std.specs.Prelude.{nat_lt}
use Rattle.std.specs.Ordering.{is_eq}
use Rattle.std.proofs.lemmas.Bool.{cases_Bool, ltb-true, ltb-false}
use Rattle.std.proofs.lemmas.Cmp.{tied_itself}
use Rattle.std.proofs.lemmas.List.{get_or-map, length-map}
use Rattle.wast_base.specs.declared.ids.Id.{Id}
use Rattle.wast_base.specs.Order.{Key, key_cmp}
use Rattle.wast_resolve_namespace.specs.Places.{key_at, entry_of, entries_of}
use Rattle.wast_resolve_namespace.specs.Filling.{IsTie, IsFirstTie, least_of}
use Rattle.wast_resolve_namespace.proofs.Basics.{is_equal, some_element}
use Rattle.wast_base.proofs.Keys.{exact_keys, keys_total}

abbrev value : Option ℕ → ℕ
value None = 0
value (Some n) = n

cases_lt : (a b : ℕ) → (nat_lt a b ≡ true) ⊎ (nat_lt a b ≡ false)
cases_lt a b = cases_Bool (nat_lt a b)

picked : (b : Bool) (q p : ℕ) → nat_lt q p ≡ b → (cond b q p ≤ q) × (cond b q p ≤ p) × ((cond b q p ≡ p) ⊎ (cond b q p ≡ q))
picked true q p e = let l = ltb-true q p e in (omega arith, omega arith, inr refl)
picked false q p e = let l = ltb-false q p e in (omega arith, omega arith, inl refl)

least_of_le : (r : Option ℕ) (p : ℕ) → least_of r p ≤ p
least_of_le None p = omega arith
least_of_le (Some q) p = (picked (nat_lt q p) q p refl).1

least_of_least : (r : Option ℕ) (p q : ℕ) → r ≡ Some q → least_of r p ≤ q
least_of_least None p q e = absurd (cc e)
least_of_least (Some x) p q e =
    let f : x ≡ q = ap value e in
    let g : least_of (Some x) p ≤ x = (picked (nat_lt x p) x p refl).0 in
    omega (arith, f, g)

least_of_is : (r : Option ℕ) (p : ℕ) → (least_of r p ≡ p) ⊎ (r ≡ Some (least_of r p))
least_of_is None p = inl refl
least_of_is (Some q) p = elim ((picked (nat_lt q p) q p refl).2) [
  | inl e ↦ inl e
  | inr e ↦ inr (ap Some (sym e))
]

module _ {K : Type 0} where
  -- the least among the first n neighbours
  pub record IsLeastTo (es : List (K × ℕ)) (n : ℕ) (r : Option ℕ) : Type 0 where
    pub some : (p : ℕ) → r ≡ Some p → IsTie es p
    pub least : (q : ℕ) (t : IsTie es q) → t.at < n → (p : ℕ) × (r ≡ Some p) × (p ≤ q)

  pub least_skip : (es : List (K × ℕ)) (n : ℕ) (r : Option ℕ) (d : K × ℕ) → (get_or es n d).0 ≢ (get_or es (suc n) d).0 → IsLeastTo es n r
      → IsLeastTo es (suc n) r
  least_skip es n r d other h = record {
    some = h.some;
    least = λ q t lt. elim (cases_lt t.at n) [
      | inl e ↦ h.least q t (ltb-true t.at n e)
      | inr e ↦
          let f = ltb-false t.at n e in
          let s : t.at ≡ n = omega arith in
          absurd (other (subst (λ (i : ℕ). (get_or es i d).0 ≡ (get_or es (suc i) d).0) s (t.same d)))
    ];
  }

  pub least_more : (es : List (K × ℕ)) (n : ℕ) (r : Option ℕ) (p : ℕ) → suc n < length es
      → ((d : K × ℕ) → (get_or es n d).0 ≡ (get_or es (suc n) d).0) → ((d : K × ℕ) → (get_or es (suc n) d).1 ≡ p)
      → IsLeastTo es n r → IsLeastTo es (suc n) (Some (least_of r p))
  least_more es n r p within same place h = record {
    some = λ m e.
        let f : least_of r p ≡ m = ap value e in
        elim (least_of_is r p) [
          | inl g ↦ record { at = n; within = within; same = same; number = λ d. place d ∙ sym g ∙ f }
          | inr g ↦ h.some m (g ∙ ap Some f)
        ];
    least = λ q t lt. elim (cases_lt t.at n) [
      | inl e ↦
          let x = h.least q t (ltb-true t.at n e) in
          (least_of r p, refl, let y = least_of_least r p x.0 x.1 in omega (arith, y, x.2))
      | inr e ↦
          let f = ltb-false t.at n e in
          let s : t.at ≡ n = omega arith in
          let d = some_element es n (omega (arith, within)) in
          let g : q ≡ p = sym (t.number d) ∙ (ap (λ (i : ℕ). (get_or es (suc i) d).1) s ∙ place d) in
          (least_of r p, refl, let y = least_of_le r p in omega (arith, y, g))
    ];
  }

  pub least_all : (es : List (K × ℕ)) (n : ℕ) (r : Option ℕ) → length es ≤ n + 1 → IsLeastTo es n r → IsFirstTie es r
  least_all es n None le h = λ q t. let x = h.least q t (omega (arith, t.within)) in absurd (cc (x.1))
  least_all es n (Some p) le h = record {
    tie = h.some p refl;
    least = λ q t.
        let x = h.least q t (omega (arith, t.within)) in
        let e : p ≡ x.0 = ap (λ (o : Option ℕ). value o) x.1 in
        omega (arith, e, x.2);
  }

-- the same of ids
pub key_get : (es : List (Id × ℕ)) (i : ℕ) (d : Id × ℕ) (x : Key × ℕ) → i < length es → get_or (entries_of es) i x ≡ entry_of (get_or es i d)
key_get es i d x lt = get_or-map entry_of es i d x lt

keys_same : (es : List (Id × ℕ)) (i j : ℕ) (d e : Id × ℕ) → i < length es → j < length es → key_at (get_or es i d) ≡ key_at (get_or es j e)
    → (x : Key × ℕ) → (get_or (entries_of es) i x).0 ≡ (get_or (entries_of es) j x).0
keys_same es i j d e li lj h x = ap (λ (z : Key × ℕ). z.0) (key_get es i d x li) ∙ h ∙ sym (ap (λ (z : Key × ℕ). z.0) (key_get es j e x lj))

pub skip_pairs : (es : List (Id × ℕ)) (n m : ℕ) (r : Option ℕ) (d e : Id × ℕ) → m ≡ suc n → m < length es
    → is_eq (key_cmp (key_at (get_or es n d)) (key_at (get_or es m e))) ≡ false
    → IsLeastTo (entries_of es) n r → IsLeastTo (entries_of es) m r
skip_pairs es n m r d e is lt other h =
    let x = entry_of d in
    let li : n < length es = omega (arith, is) in
    subst (λ (i : ℕ). IsLeastTo (entries_of es) i r) (sym is) (least_skip (entries_of es) n r x (λ same.
    let k : key_at (get_or es n d) ≡ key_at (get_or es m e) =
    sym (ap (λ (z : Key × ℕ). z.0) (key_get es n d x li)) ∙ same ∙ ap (λ (i : ℕ). (get_or (entries_of es) i x).0) (sym is)
    ∙ ap (λ (z : Key × ℕ). z.0) (key_get es m e x lt) in
    true≢false (sym (ap is_eq (subst (λ (y : Key). key_cmp (key_at (get_or es n d)) y ≡ Equal) k (tied_itself keys_total (key_at (get_or es n d)))))
    ∙ other)) h)

pub more_pairs : (es : List (Id × ℕ)) (n m : ℕ) (r : Option ℕ) (p : ℕ) (d e f : Id × ℕ) → m ≡ suc n → m < length es
    → is_eq (key_cmp (key_at (get_or es n d)) (key_at (get_or es m e))) ≡ true
    → p ≡ (get_or es m f).1 → IsLeastTo (entries_of es) n r → IsLeastTo (entries_of es) m (Some (least_of r p))
more_pairs es n m r p d e f is lt same place h =
    let li : n < length es = omega (arith, is) in
    let k : key_at (get_or es n d) ≡ key_at (get_or es m e) = exact_keys (key_at (get_or es n d)) (key_at (get_or es m e))
    (is_equal (key_cmp (key_at (get_or es n d)) (key_at (get_or es m e))) same) in
    subst (λ (i : ℕ). IsLeastTo (entries_of es) i (Some (least_of r p))) (sym is)
    (least_more (entries_of es) n r p (omega (arith, is, lt, length-map es entry_of))
    (λ x. keys_same es n m d e li lt k x ∙ ap (λ (i : ℕ). (get_or (entries_of es) i x).0) is)
    (λ x. ap (λ (i : ℕ). (get_or (entries_of es) i x).1) (sym is) ∙ ap (λ (z : Key × ℕ). z.1) (key_get es m f x lt) ∙ sym place) h)
