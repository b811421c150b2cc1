-- The result of a search among sorted pairs, and of a change at that position.
use Rattle.std.proofs.Common.{◌≡◌, ℕ, zero, suc, ◌+◌, ◌<◌, ◌≤◌, List, [], ◌∷◌, Some, None, refl, ap, sym, ◌∙◌, subst, subst₂, T, length}
use Rattle.std.proofs.Common.{get_or, set, map, true, false, true≢false, ◌&&◌, Bool, arith, inl, inr}
use Rattle.std.specs.declared.cmp.Ordering.{Ordering}
use Rattle.std.specs.declared.cmp.Ordering.TheVariants.{Less, Equal, Greater}
use Rattle.std.specs.Ordering.{is_lt, is_eq}
use Rattle.std.specs.List.{insert}
use Rattle.std.specs.FinMap.{find, put, is_sorted, get, insert as map_insert, from_sorted, empty, entries-insert, entries-from_sorted}
use Rattle.std.specs.FinMap.{get-from_sorted, same_entries_map, empty_of_len, len-entries}
use Rattle.std.specs.FinMap.Entries.{below_all, is_sorted-put}
use Rattle.std.specs.Prelude.{nat_lt}
use Rattle.std.proofs.lemmas.Bool.{cases_Bool, ltb-true, ltb-false}
use Rattle.std.proofs.lemmas.Cmp.{tied_itself}
use Rattle.std.proofs.lemmas.List.{get_or-map, length-map}
use Rattle.wast_base.specs.Ids.{Name, name_of, same_id, same_name}
use Rattle.wast_base.specs.Order.{Key, key_of, key_cmp, name_lt, AreInOrder, IsPlaceOf}
use Rattle.wast_base.specs.declared.ids.Id.{Id}
use Rattle.wast_resolve_namespace.specs.Places.{key_at, entry_of, entries_of, AreSorted, IsAbove, IsAt, IsGap}
use Rattle.wast_resolve_namespace.proofs.Basics.{some_element, any_default, is_equal}
use Rattle.wast_base.proofs.Names.{same_name_equal, same_name_itself}
use Rattle.wast_base.proofs.Keys.{exact_keys, keys_total, turned, name_from, name_from-key_of}

both_of : (a b : Bool) → T (a && b) → T a × T b
both_of true b p = (tt, p)
both_of false b p = absurd p

is_less : (o : Ordering) → T (is_lt o) → o ≡ Less
is_less Less p = refl
is_less Equal p = absurd p
is_less Greater p = absurd p

-- each later name is above x
above_all : (x : Key) (es : List (Id × ℕ)) → T (below_all key_cmp x (entries_of es)) → (j : ℕ) (d : Id × ℕ) → j < length es
    → key_cmp x (key_at (get_or es j d)) ≡ Less
above_all x [] h j d lt = absurd (omega arith)
above_all x (e ∷ es) h zero d lt = is_less _ (both_of _ _ h).0
above_all x (e ∷ es) h (suc j) d lt = above_all x es (both_of _ _ h).1 j d (omega arith)

pub rises : (es : List (Id × ℕ)) → AreSorted es → (i j : ℕ) (d : Id × ℕ) → i < j → j < length es
    → key_cmp (key_at (get_or es i d)) (key_at (get_or es j d)) ≡ Less
rises [] h i j d lt in_range = absurd (omega arith)
rises (e ∷ es) h i zero d lt in_range = absurd (omega arith)
rises (e ∷ es) h zero (suc j) d lt in_range = above_all (key_at e) es (both_of _ _ h).0 j d (omega arith)
rises (e ∷ es) h (suc i) (suc j) d lt in_range = rises es (both_of _ _ h).1 i j d (omega arith) (omega arith)

above_tail : (e : Id × ℕ) (es : List (Id × ℕ)) (k : Key) (i : ℕ) → IsAbove (e ∷ es) k (suc i) → IsAbove es k i
above_tail e es k i h = record { smaller = λ j d lt. h.smaller (suc j) d (omega arith) }

at_tail : (e : Id × ℕ) (es : List (Id × ℕ)) (k : Key) (i : ℕ) → IsAt (e ∷ es) k (suc i) → IsAt es k i
at_tail e es k i h = record { in_range = omega (arith, h.in_range); above = above_tail e es k i h.above; same = h.same }

gap_tail : (e : Id × ℕ) (es : List (Id × ℕ)) (k : Key) (i : ℕ) → IsGap (e ∷ es) k (suc i) → IsGap es k i
gap_tail e es k i h = record {
  in_range = omega (arith, h.in_range);
  above = above_tail e es k i h.above;
  below = record { greater = λ j d le lt. h.below.greater (suc j) d (omega arith) (omega arith) };
}

gap_after : (e : Id × ℕ) (es : List (Id × ℕ)) (k : Key) → IsGap (e ∷ es) k zero → IsGap es k zero
gap_after e es k h = record {
  in_range = omega arith;
  above = record { smaller = λ j d lt. absurd (omega arith) };
  below = record { greater = λ j d le lt. h.below.greater (suc j) d (omega arith) (omega arith) };
}

module _ (k : Key) where
  pub find_at : (es : List (Id × ℕ)) (i : ℕ) (d : Id × ℕ) → IsAt es k i → find key_cmp k (entries_of es) ≡ Some (get_or es i d).1
  find_at [] i d h = absurd (omega (arith, h.in_range))
  find_at (e ∷ es) zero d h = rw (turned (key_at e) k Equal (h.same d)) refl
  find_at (e ∷ es) (suc i) d h = rw (turned (key_at e) k Less (h.above.smaller 0 d (omega arith))) (find_at es i d (at_tail e es k i h))

  pub find_gap : (es : List (Id × ℕ)) (i : ℕ) → IsGap es k i → find key_cmp k (entries_of es) ≡ None
  find_gap [] i h = refl
  find_gap (e ∷ es) zero h = rw (turned (key_at e) k Greater (h.below.greater 0 e (omega arith) (omega arith))) (find_gap es zero (gap_after e es k h))
  find_gap (e ∷ es) (suc i) h = rw (turned (key_at e) k Less (h.above.smaller 0 e (omega arith))) (find_gap es i (gap_tail e es k i h))

module _ (id : Id) (n : ℕ) where
  pub put_at : (es : List (Id × ℕ)) (i : ℕ) → IsAt es (key_of (name_of id)) i
      → put key_cmp (key_of (name_of id)) n (entries_of es) ≡ entries_of (set es i (id, n))
  put_at [] i h = absurd (omega (arith, h.in_range))
  put_at (e ∷ es) zero h = rw (turned (key_at e) (key_of (name_of id)) Equal (h.same e))
      (ap (λ (x : Key). (x, n) ∷ entries_of es) (exact_keys (key_at e) (key_of (name_of id)) (h.same e)))
  put_at (e ∷ es) (suc i) h = rw (turned (key_at e) (key_of (name_of id)) Less (h.above.smaller 0 e (omega arith)))
      (ap (λ t. entry_of e ∷ t) (put_at es i (at_tail e es (key_of (name_of id)) i h)))

  pub put_gap : (es : List (Id × ℕ)) (i : ℕ) → IsGap es (key_of (name_of id)) i
      → put key_cmp (key_of (name_of id)) n (entries_of es) ≡ entries_of (insert es i (id, n))
  put_gap [] zero h = refl
  put_gap [] (suc i) h = absurd (omega (arith, h.in_range))
  put_gap (e ∷ es) zero h = rw (turned (key_at e) (key_of (name_of id)) Greater (h.below.greater 0 e (omega arith) (omega arith))) refl
  put_gap (e ∷ es) (suc i) h = rw (turned (key_at e) (key_of (name_of id)) Less (h.above.smaller 0 e (omega arith)))
      (ap (λ t. entry_of e ∷ t) (put_gap es i (gap_tail e es (key_of (name_of id)) i h)))

pub any_answer : (es : List (Id × ℕ)) (k : Key) (at : ℕ) (r : Ordering) (e : Id × ℕ) → at < length es → key_cmp (key_at (get_or es at e)) k ≡ r
    → (d : Id × ℕ) → key_cmp (key_at (get_or es at d)) k ≡ r
any_answer es k at r e lt h d = subst (λ (x : Id × ℕ). key_cmp (key_at x) k ≡ r) (any_default es at e d lt) h

-- What a binary search needs and finds.
abbrev pub names_in : List (Id × ℕ) → List Name
names_in es = map (λ e. name_of e.0) es

pub in_order : (es : List (Id × ℕ)) → AreSorted es → AreInOrder (names_in es)
in_order es h k d le lt =
    let within : k + 1 < length es = omega (arith, lt, length-map es (λ e. name_of e.0)) in
    let e = some_element es k (omega (arith, within)) in
    let up = get_or-map (λ e. name_of e.0) es (k + 1) e d within in
    let at = get_or-map (λ e. name_of e.0) es k e d (omega (arith, within)) in
    subst₂ (λ (a b : Name). name_lt a b ≡ false) (sym up) (sym at)
    (ap is_lt (turned (key_at (get_or es k e)) (key_at (get_or es (k + 1) e)) Less (rises es h k (k + 1) e (omega arith) within)))

smaller_key : (o : Ordering) → is_lt o ≡ true → o ≡ Less
smaller_key Less h = refl
smaller_key Equal h = cc
smaller_key Greater h = cc

module _ (es : List (Id × ℕ)) (name : Name) (at : ℕ) (h : IsPlaceOf (names_in es) name at) where
  many : length (names_in es) ≡ length es
  many = length-map es (λ e. name_of e.0)

  above_place : IsAbove es (key_of name) at
  above_place = record {
    smaller = λ j d lt.
        let is = get_or-map (λ (e : Id × ℕ). name_of e.0) es j d name (omega (arith, lt, h.within, many)) in
        smaller_key (key_cmp (key_at (get_or es j d)) (key_of name)) (subst (λ (n : Name). name_lt n name ≡ true) is (h.before j lt));
  }

  -- If another one is there, or none.
  greater_key : AreSorted es → (at < length es → (d : Id × ℕ) → key_at (get_or es at d) ≡ key_of name → ⊥) → (j : ℕ) (d : Id × ℕ) → at ≤ j
      → j < length es → key_cmp (key_at (get_or es j d)) (key_of name) ≡ Greater
  greater_key sorted other j d le lt = by_order (key_cmp (key_at (get_or es j d)) (key_of name)) refl
    where
      not_less : (i : ℕ) → at ≤ i → i < length es → is_lt (key_cmp (key_at (get_or es i d)) (key_of name)) ≡ false
      not_less i from within =
          let is = get_or-map (λ (e : Id × ℕ). name_of e.0) es i d name within in
          subst (λ (n : Name). name_lt n name ≡ false) is (h.behind i from (omega (arith, within, many)))

      by_order : (o : Ordering) → key_cmp (key_at (get_or es j d)) (key_of name) ≡ o → key_cmp (key_at (get_or es j d)) (key_of name) ≡ Greater
      by_order Greater e = e
      by_order Less e = absurd (true≢false (sym (ap is_lt e) ∙ not_less j le lt))
      by_order Equal e =
          let key = exact_keys (key_at (get_or es j d)) (key_of name) e in
          elim (cases_Bool (nat_lt at j)) [
            | inl before ↦
                let less = rises es sorted at j d (ltb-true at j before) lt in
                absurd (true≢false (sym (ap is_lt (subst (λ (k : Key). key_cmp (key_at (get_or es at d)) k ≡ Less) key less))
                ∙ not_less at (omega arith) (omega (arith, le, lt))))
            | inr not ↦
                let here : at ≡ j = omega (arith, le, ltb-false at j not) in
                absurd (other (omega (arith, here, lt)) d (ap (λ i. key_at (get_or es i d)) here ∙ key))
          ]

  pub nowhere : AreSorted es → (at < length es → (d : Id × ℕ) → key_at (get_or es at d) ≡ key_of name → ⊥) → IsGap es (key_of name) at
  nowhere sorted other = record {
    in_range = omega (arith, h.within, many);
    above = above_place;
    below = record { greater = greater_key sorted other };
  }

-- Different names have different keys.
pub another : (a b : Name) → same_name a b ≡ false → key_of a ≡ key_of b → ⊥
another a b h e =
    let same : a ≡ b = sym (name_from-key_of a) ∙ ap name_from e ∙ name_from-key_of b in
    true≢false (sym (same_name_itself b) ∙ ap (λ n. same_name n b) (sym same) ∙ h)

pub get_sorted : (es : List (Id × ℕ)) (k : Key) → AreSorted es → get (from_sorted {R = key_cmp} (entries_of es)) k ≡ find key_cmp k (entries_of es)
get_sorted es k h = get-from_sorted key_cmp (entries_of es) k h

pub insert_sorted : (es fs : List (Id × ℕ)) (k : Key) (n : ℕ) → AreSorted es → put key_cmp k n (entries_of es) ≡ entries_of fs
    → map_insert (from_sorted {R = key_cmp} (entries_of es)) k n ≡ from_sorted (entries_of fs)
insert_sorted es fs k n h e =
    same_entries_map _ _ (entries-insert keys_total (from_sorted (entries_of es)) k n ∙ ap (put key_cmp k n) (entries-from_sorted key_cmp (entries_of es) h)
    ∙ sym (entries-from_sorted key_cmp (put key_cmp k n (entries_of es)) (is_sorted-put key_cmp keys_total k n (entries_of es) h)))
    ∙ ap (λ es. from_sorted es) e

pub still_sorted : (es fs : List (Id × ℕ)) (k : Key) (n : ℕ) → AreSorted es → put key_cmp k n (entries_of es) ≡ entries_of fs → AreSorted fs
still_sorted es fs k n h e = subst (λ es. T (is_sorted key_cmp es)) e (is_sorted-put key_cmp keys_total k n (entries_of es) h)

pub none_sorted : from_sorted {X = ℕ} {R = key_cmp} [] ≡ empty
none_sorted = empty_of_len _ (len-entries (from_sorted {R = key_cmp} []) ∙ ap length (entries-from_sorted {X = ℕ} key_cmp [] tt))

pub another_there : (es : List (Id × ℕ)) (at : ℕ) (e d : Id × ℕ) (id : Id) → at < length es → same_id (get_or es at e).0 id ≡ false
    → key_at (get_or es at d) ≡ key_of (name_of id) → ⊥
another_there es at e d id lt h is =
    another (name_of (get_or es at e).0) (name_of id) h (ap key_at (any_default es at e d lt) ∙ is)

-- If the name of a pair is equal, the pair is found.
pub stands : (es : List (Id × ℕ)) (id : Id) (at : ℕ) (e : Id × ℕ) → AreSorted es → at < length es → same_id (get_or es at e).0 id ≡ true
    → IsAt es (key_of (name_of id)) at
stands es id at e sorted lt same =
    let key : key_at (get_or es at e) ≡ key_of (name_of id) = ap key_of (same_name_equal (name_of (get_or es at e).0) (name_of id) same) in
    record {
      in_range = lt;
      above = record {
        smaller = λ j d before. subst (λ (k : Key). key_cmp (key_at (get_or es j d)) k ≡ Less) (ap key_at (any_default es at d e lt)
            ∙ key) (rises es sorted j at d before lt);
      };
      same = any_answer es (key_of (name_of id)) at Equal e lt (subst (λ (k : Key). key_cmp k (key_of (name_of id)) ≡ Equal) (sym key)
          (tied_itself keys_total (key_of (name_of id))));
    }

-- Names are equal if their keys compare as equal.
same_by_keys : (a b : Name) → is_eq (key_cmp (key_of a) (key_of b)) ≡ same_name a b
same_by_keys a b = elim (cases_Bool (same_name a b)) [
  | inl e ↦ ap is_eq (subst (λ (n : Name). key_cmp (key_of a) (key_of n) ≡ Equal) (same_name_equal a b e) (tied_itself keys_total (key_of a))) ∙ sym e
  | inr e ↦ elim (cases_Bool (is_eq (key_cmp (key_of a) (key_of b)))) [
    | inl f ↦ absurd (another a b e (exact_keys (key_of a) (key_of b) (is_equal (key_cmp (key_of a) (key_of b)) f)))
    | inr f ↦ f ∙ sym e
  ]
]

pub same_at : (es : List (Id × ℕ)) (i j : ℕ) (d e : Id × ℕ) (r : Bool) → same_id (get_or es i d).0 (get_or es j e).0 ≡ r
    → is_eq (key_cmp (key_at (get_or es i d)) (key_at (get_or es j e))) ≡ r
same_at es i j d e r h = same_by_keys (name_of (get_or es i d).0) (name_of (get_or es j e).0) ∙ h
