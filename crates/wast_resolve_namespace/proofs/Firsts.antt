-- The first pair of each key in a sorted list: its keys increase, and look-ups have the same results.
use Rattle.std.proofs.Common.{◌≡◌, ℕ, zero, suc, ◌+◌, ◌<◌, ◌≤◌, List, [], ◌∷◌, ◌++◌, length, get_or, drop, Option, Some, None, refl, sym}
use Rattle.std.proofs.Common.{ap, ◌∙◌, subst, T, true, false, ◌&&◌, Bool, cond, arith, inl, inr, append_assoc, append-nil, ◌-◌}
use Rattle.std.specs.declared.cmp.Ordering.{Ordering}
use Rattle.std.specs.declared.cmp.Ordering.TheVariants.{Less, Equal, Greater}
use Rattle.std.specs.Ordering.{is_lt, is_eq}
use Rattle.std.specs.Cmp.{IsTotalOrder}
use Rattle.std.specs.List.{Contains}
use Rattle.std.specs.FinMap.{find, is_sorted}
use Rattle.std.specs.FinMap.Entries.{below_all}
use Rattle.std.proofs.lemmas.Cmp.{tied_itself}
use Rattle.std.proofs.lemmas.Map.Lookups.{CmpEqualImpliesEq}
use Rattle.std.proofs.Math.Seq.{drop-cons}
use Rattle.std.proofs.lemmas.List.{length-map, map-append, drop_all}
use Rattle.wast_base.specs.declared.ids.Id.{Id}
use Rattle.wast_base.specs.Order.{Key, key_cmp}
use Rattle.wast_resolve_namespace.specs.Places.{key_at, entry_of, entries_of}
use Rattle.wast_resolve_namespace.proofs.LeastTie.{key_get}
use Rattle.wast_resolve_namespace.specs.Filling.{others_behind, first_of_each}
use Rattle.wast_resolve_namespace.proofs.Basics.{is_equal}
use Rattle.wast_resolve_namespace.proofs.Numbered.{later}
use Rattle.wast_resolve_namespace.proofs.Ties.{Up}

module _ {K : Type 0} {R : K → K → Ordering} (o : IsTotalOrder R) (exact : CmpEqualImpliesEq R) where
  abbrev pub Climbs : List (K × ℕ) → Type 0
  Climbs es = (i j : ℕ) (d : K × ℕ) → i < j → j < length es → Up o exact (get_or es i d) (get_or es j d)

  climbs_tail : (e : K × ℕ) (es : List (K × ℕ)) → Climbs (e ∷ es) → Climbs es
  climbs_tail e es h i j d lt within = h (suc i) (suc j) d (omega arith) (omega arith)

  -- the first pair of a key has its least number
  by_head : (q : K) (p n : ℕ) (x : K × ℕ) (es : List (K × ℕ)) (b : Bool) → is_eq (R q x.0) ≡ b → (x.0 ≡ q → x.1 ≡ p)
      → (is_eq (R q x.0) ≡ false → find R q es ≡ Some p) → cond (is_eq (R q x.0)) (Some x.1) (find R q es) ≡ Some p
  by_head q p n x es true e here rest = ap (λ (b : Bool). cond b (Some x.1) (find R q es)) e ∙ ap Some (here (sym (exact q x.0 (is_equal (R q x.0) e))))
  by_head q p n x es false e here rest = ap (λ (b : Bool). cond b (Some x.1) (find R q es)) e ∙ rest e

  tied : (q : K) → is_eq (R q q) ≡ true
  tied q = ap is_eq (tied_itself o q)

  pub least_found : (q : K) (p : ℕ) (es : List (K × ℕ)) → Climbs es → Contains es (q, p) → ((r : ℕ) → Contains es (q, r) → p ≤ r) → find R q es ≡ Some p
  least_found q p [] climbs (i, lt, is) least = absurd (omega (arith, lt))
  least_found q p (x ∷ es) climbs (zero, lt, is) least =
      by_head q p 0 x es (is_eq (R q x.0)) refl (λ e. ap (λ (z : K × ℕ). z.1) is)
      (λ no. absurd (cc (sym (ap (λ (z : K × ℕ). is_eq (R q z.0)) is ∙ tied q) ∙ no)))
  least_found q p (x ∷ es) climbs (suc i, lt, is) least =
      by_head q p 0 x es (is_eq (R q x.0)) refl
      (λ e. elim (climbs 0 (suc i) (q, p) (omega arith) lt) [
        | inl l ↦ absurd (cc (sym (subst (λ (k : K). R k q ≡ Less) e (subst (λ (z : K × ℕ). R x.0 z.0 ≡ Less) is l)) ∙ tied_itself o q))
        | inr h ↦
            let below : x.1 < p = subst (λ (z : K × ℕ). x.1 < z.1) is h.1 in
            let above : p ≤ x.1 = least x.1 (0, omega arith, λ t. (e t, x.1)) in
            absurd (omega (arith, below, above))
      ])
      (λ no. least_found q p es (climbs_tail x es climbs) (i, omega (arith, lt), is) (λ r c. least r (later x (q, r) es c)))

  -- Pairs that are left out have the key of one before them, so look-ups have the same results.
  found_behind : (q : K) (last : K × ℕ) (es : List (K × ℕ)) → find R q (last ∷ others_behind R last es) ≡ find R q (last ∷ es)
  found_behind q last [] = refl
  found_behind q last (e ∷ es) = by_same (is_eq (R last.0 e.0)) refl (found_behind q e es)
    where
      same_head : (x y : K × ℕ) (a b c : Option ℕ) (t u : Bool) → t ≡ u → cond u (Some y.1) b ≡ cond u (Some y.1) c
          → cond t (Some x.1) b ≡ cond t (Some x.1) (cond u (Some y.1) c)
      same_head x y a b c true true e h = refl
      same_head x y a b c false false e h = h
      same_head x y a b c true false e h = absurd (cc (e))
      same_head x y a b c false true e h = absurd (cc (e))

      by_same : (b : Bool) → is_eq (R last.0 e.0) ≡ b → find R q (e ∷ others_behind R e es) ≡ find R q (e ∷ es)
          → find R q (last ∷ cond b (others_behind R e es) (e ∷ others_behind R e es)) ≡ find R q (last ∷ e ∷ es)
      by_same true h rest = same_head last e None (find R q (others_behind R e es)) (find R q es) (is_eq (R q last.0)) (is_eq (R q e.0))
          (ap (λ k. is_eq (R q k)) (exact last.0 e.0 (is_equal (R last.0 e.0) h))) rest
      by_same false h rest = ap (λ (r : Option ℕ). cond (is_eq (R q last.0)) (Some last.1) r) rest

  pub found_first : (q : K) (es : List (K × ℕ)) → find R q (first_of_each R es) ≡ find R q es
  found_first q [] = refl
  found_first q (e ∷ es) = found_behind q e es

  -- The remaining keys increase.
  both : (a b : Bool) → T a → T b → T (a && b)
  both true b t u = u
  both false b t u = absurd t

  parts : (a b : Bool) → T (a && b) → T a × T b
  parts true b t = (tt, t)
  parts false b t = absurd t

  is_less : (r : Ordering) → T (is_lt r) → r ≡ Less
  is_less Less t = refl
  is_less Equal t = absurd t
  is_less Greater t = absurd t

  less_so : (r : Ordering) → r ≡ Less → T (is_lt r)
  less_so r e = subst (λ (r : Ordering). T (is_lt r)) (sym e) tt

  still_below : (x y : K) (es : List (K × ℕ)) → R x y ≡ Less → T (below_all R y es) → T (below_all R x es)
  still_below x y [] h t = tt
  still_below x y (e ∷ es) h t =
      let p = parts (is_lt (R y e.0)) (below_all R y es) t in
      both (is_lt (R x e.0)) (below_all R x es) (less_so (R x e.0) (o.trans x y e.0 h (is_less (R y e.0) p.0))) (still_below x y es h p.1)

  pub rise_behind : (last : K × ℕ) (es : List (K × ℕ)) → Climbs (last ∷ es) → T (is_sorted R (last ∷ others_behind R last es))
  rise_behind last [] climbs = tt
  rise_behind last (e ∷ es) climbs = by_same (is_eq (R last.0 e.0)) refl (rise_behind e es (climbs_tail last (e ∷ es) climbs))
    where
      rest : List (K × ℕ)
      rest = others_behind R e es

      by_same : (b : Bool) → is_eq (R last.0 e.0) ≡ b → T (is_sorted R (e ∷ others_behind R e es))
          → T (is_sorted R (last ∷ cond b (others_behind R e es) (e ∷ others_behind R e es)))
      by_same true h t = subst (λ (k : K). T (below_all R k (others_behind R e es) && is_sorted R (others_behind R e es)))
          (sym (exact last.0 e.0 (is_equal (R last.0 e.0) h))) t
      by_same false h t =
          let p = parts (below_all R e.0 (others_behind R e es)) (is_sorted R (others_behind R e es)) t in
          let less : R last.0 e.0 ≡ Less = elim (climbs 0 1 e (omega arith) (omega arith)) [
            | inl l ↦ l
            | inr k ↦ absurd (cc (sym (ap (λ (x : K). is_eq (R last.0 x)) (sym k.0) ∙ tied last.0) ∙ h))
          ] in
          both (is_lt (R last.0 e.0) && below_all R last.0 (others_behind R e es)) (is_sorted R (e ∷ others_behind R e es))
          (both (is_lt (R last.0 e.0)) (below_all R last.0 (others_behind R e es)) (less_so (R last.0 e.0) less)
          (still_below last.0 e.0 (others_behind R e es) less p.0)) t

  pub firsts_rise : (es : List (K × ℕ)) → Climbs es → T (is_sorted R (first_of_each R es))
  firsts_rise [] climbs = tt
  firsts_rise (e ∷ es) climbs = rise_behind e es climbs

-- The first n of these pairs are visited, and the kept ones are in the result.
abbrev pub IsLeft : List (Id × ℕ) → List (Id × ℕ) → ℕ → Type 0
IsLeft es kept n = (d : Key × ℕ) → entries_of kept ++ others_behind key_cmp (get_or (entries_of es) (n - 1) d)
    (drop n (entries_of es)) ≡ first_of_each key_cmp (entries_of es)

module _ (es fs : List (Id × ℕ)) (n : ℕ) (begun : 1 ≤ n) where
  next : (d : Key × ℕ) → n < length es → others_behind key_cmp (get_or (entries_of es) (n - 1) d) (drop n (entries_of es))
      ≡ cond (is_eq (key_cmp (get_or (entries_of es) (n - 1) d).0 (get_or (entries_of es) n d).0))
      (others_behind key_cmp (get_or (entries_of es) n d) (drop (suc n) (entries_of es)))
      (get_or (entries_of es) n d ∷ others_behind key_cmp (get_or (entries_of es) n d) (drop (suc n) (entries_of es)))
  next d lt = ap (others_behind key_cmp (get_or (entries_of es) (n - 1) d)) (drop-cons (entries_of es) n d (omega (arith, lt, length-map es entry_of)))

  same_test : (a b : Id × ℕ) (d : Key × ℕ) → n < length es → is_eq (key_cmp (key_at (get_or es (n - 1) a)) (key_at (get_or es n b))) ≡ is_eq
      (key_cmp (get_or (entries_of es) (n - 1) d).0 (get_or (entries_of es) n d).0)
  same_test a b d lt i = is_eq (key_cmp (sym (key_get es (n - 1) a d (omega (arith, begun, lt))) i).0 (sym (key_get es n b d lt) i).0)

  further : (d : Key × ℕ) → others_behind key_cmp (get_or (entries_of es) n d) (drop (suc n) (entries_of es)) ≡ others_behind key_cmp
      (get_or (entries_of es) ((n + 1) - 1) d) (drop (n + 1) (entries_of es))
  further d =
      let one : (n + 1) - 1 ≡ n = omega arith in
      let two : n + 1 ≡ suc n = omega arith in
      λ i. others_behind key_cmp (get_or (entries_of es) (sym one i) d) (drop (sym two i) (entries_of es))

  pub skip_one : (a b : Id × ℕ) → n < length es → is_eq (key_cmp (key_at (get_or es (n - 1) a)) (key_at (get_or es n b))) ≡ true → IsLeft es fs n
      → IsLeft es fs (n + 1)
  skip_one a b lt same h d =
      ap (λ xs. entries_of fs ++ xs) (sym (further d))
      ∙ (ap (λ xs. entries_of fs ++ xs)
      (sym (next d lt ∙ ap (λ (b : Bool). cond b (others_behind key_cmp (get_or (entries_of es) n d) (drop (suc n) (entries_of es)))
      (get_or (entries_of es) n d ∷ others_behind key_cmp (get_or (entries_of es) n d) (drop (suc n) (entries_of es)))) (sym (same_test a b d lt)
      ∙ same))) ∙ h d)

  pub keep_one : (a b c : Id × ℕ) → n < length es → is_eq (key_cmp (key_at (get_or es (n - 1) a)) (key_at (get_or es n b))) ≡ false → IsLeft es fs n
      → IsLeft es (fs ++ get_or es n c ∷ []) (n + 1)
  keep_one a b c lt other h d =
      let rest = others_behind key_cmp (get_or (entries_of es) n d) (drop (suc n) (entries_of es)) in
      ap (λ xs. entries_of (fs ++ get_or es n c ∷ []) ++ xs) (sym (further d))
      ∙ (ap (λ xs. xs ++ rest) (map-append entry_of fs (get_or es n c ∷ []))
      ∙ (append_assoc (entries_of fs) (entry_of (get_or es n c) ∷ []) rest
      ∙ (ap (λ e. entries_of fs ++ e ∷ rest) (sym (key_get es n c d lt))
      ∙ (ap (λ xs. entries_of fs ++ xs)
      (sym (next d lt ∙ ap (λ (b : Bool). cond b rest (get_or (entries_of es) n d ∷ rest)) (sym (same_test a b d lt) ∙ other))) ∙ h d))))

  pub all_left : length es ≤ n → IsLeft es fs n → entries_of fs ≡ first_of_each key_cmp (entries_of es)
  all_left le h =
      let d : Key × ℕ = (([], None), 0) in
      sym (append-nil (entries_of fs))
      ∙ (ap (λ xs. entries_of fs ++ others_behind key_cmp (get_or (entries_of es) (n - 1) d) xs)
      (sym (drop_all n (entries_of es) (omega (arith, le, length-map es entry_of)))) ∙ h d)
