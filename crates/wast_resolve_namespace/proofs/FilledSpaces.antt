-- Properties of the sorted pairs of all names: which are duplicates, and the position of each.
use Rattle.std.proofs.Common.{◌≡◌, ℕ, ◌+◌, ◌<◌, List, length, get_or, false, true≢false, inl, inr, ◌≤◌, T, Option, Some, None, option_map}
use Rattle.std.proofs.Common.{refl, sym, ap, ◌∙◌, subst, subst₂, arith, IsPermutation}
use Rattle.std.specs.Ordering.{is_lt}
use Rattle.std.specs.List.Sorted.{IsSortedBy}
use Rattle.std.specs.FinMap.{get, from_sorted, find, is_sorted}
use Rattle.std.proofs.lemmas.List.{get_or-map, length-map}
use Rattle.std.proofs.lemmas.List.Sorted.{IsPermutation-map, Contains-permutation, IsPermutation-sym}
use Rattle.std.proofs.lemmas.List.Quantifiers.{position-Some}
use Rattle.wast_base.specs.declared.ids.Id.{Id}
use Rattle.wast_base.specs.Ids.{Name}
use Rattle.std.specs.Prelude.{nat_lt}
use Rattle.std.proofs.lemmas.Bool.{cases_Bool, ltb-true, ltb-false}
use Rattle.wast_base.specs.Spaces.{position_of, is_called}
use Rattle.wast_base.proofs.Names.{is_called_so}
use Rattle.wast_base.specs.Order.{Key, key_of, key_cmp}
use Rattle.wast_resolve_namespace.specs.Namespaces.{NameSpace, number_in}
use Rattle.wast_resolve_namespace.specs.Places.{entry_of, entries_of, AreSorted}
use Rattle.wast_resolve_namespace.specs.Filling.{keys_of, numbered_from, pair_cmp, AreRanked, IsClash, IsFirstClash, IsFilled, IsTie}
use Rattle.wast_resolve_namespace.specs.Filling.{IsLeastTie, IsFirstTie, HasFirstClash, first_of_each, Denotes}
use Rattle.wast_resolve_namespace.proofs.Basics.{some_element}
use Rattle.wast_base.proofs.Keys.{keys_total, exact_keys, name_from, name_from-key_of}
use Rattle.wast_resolve_namespace.proofs.Called.{position_bears, no_position, borne_at, earlier_bearer}
use Rattle.wast_resolve_namespace.proofs.Searches.{get_sorted}
use Rattle.wast_resolve_namespace.proofs.LeastTie.{key_get}
use Rattle.wast_resolve_namespace.proofs.Ties.{IsAgain, tie_is_again, again_is_tie, rises}
use Rattle.wast_resolve_namespace.proofs.Numbered.{from_place, to_place}
use Rattle.wast_resolve_namespace.proofs.Firsts.{least_found, found_first, firsts_rise}
use Rattle.wast_resolve_namespace.proofs.Rising.{place_is_found, nowhere_found, rise_from_free}

-- names and their keys
same_keys_length : (names : List (Option Name)) → length (keys_of names) ≡ length names
same_keys_length names = length-map names (λ o. option_map key_of o)

key_there : (names : List (Option Name)) (i : ℕ) → i < length names → get_or (keys_of names) i None ≡ option_map key_of (get_or names i None)
key_there names i lt = get_or-map (λ o. option_map key_of o) names i None None lt

abbrev key_or : Key → Option Key → Key
key_or d None = d
key_or d (Some k) = k

bearer : (o : Option Name) (k : Key) → option_map key_of o ≡ Some k → (q : Name) × (o ≡ Some q) × (key_of q ≡ k)
bearer None k h = absurd (cc h)
bearer (Some q) k h = (q, refl, ap (key_or k) h)

bears : (o : Option Name) (q : Name) → option_map key_of o ≡ Some (key_of q) → o ≡ Some q
bears o q h =
    let x = bearer o (key_of q) h in
    x.1 ∙ ap Some (sym (name_from-key_of x.0) ∙ (ap name_from x.2 ∙ name_from-key_of q))

-- An item has the name of an earlier one if its key occurs earlier.
clash_from_again : (names : List (Option Name)) (p : ℕ) → IsAgain (keys_of names) p → IsClash names p
clash_from_again names p a =
    let long = same_keys_length names in
    let within : p < length names = omega (arith, a.within, long) in
    let before : a.earlier < length names = omega (arith, a.before, within) in
    let x = bearer (get_or names p None) a.name (sym (key_there names p within) ∙ a.again) in
    let first = bears (get_or names a.earlier None) x.0 (sym (key_there names a.earlier before) ∙ (a.first ∙ ap Some (sym x.2))) in
    record { name = x.0; within = within; bears = x.1; borne = borne_at x.0 names p a.earlier a.before within first }

again_from_clash : (names : List (Option Name)) (p : ℕ) → IsClash names p → IsAgain (keys_of names) p
again_from_clash names p c =
    let x = earlier_bearer c.name names p c.within c.borne in
    let before : x.0 < length names = omega (arith, x.1, c.within) in
    record {
      name = key_of c.name;
      earlier = x.0;
      before = x.1;
      within = omega (arith, c.within, same_keys_length names);
      first = key_there names x.0 before ∙ ap (option_map key_of) x.2;
      again = key_there names p c.within ∙ ap (option_map key_of) c.bears;
    }

-- Pairs are sorted by their names and numbers if their entries are.
sorted_entries : (es : List (Id × ℕ)) → AreRanked es → IsSortedBy (λ a b. is_lt (pair_cmp key_cmp a b)) (entries_of es)
sorted_entries es h k x le lt =
    let long = length-map es entry_of in
    let within : k + 1 < length es = omega (arith, long, lt) in
    let d = some_element es (k + 1) within in
    subst₂ (λ (a b : Key × ℕ). is_lt (pair_cmp key_cmp a b) ≡ false) (sym (key_get es (k + 1) d x within)) (sym (key_get es k d x (omega arith)))
    (h k d le within)

-- No item before the first position has the name.
not_before : (q : Name) (names : List (Option Name)) (i j : ℕ) → position_of q names ≡ Some i → j < length names → get_or names j None ≡ Some q
    → {r : ℕ} → r ≡ 0 + j → i ≤ r
not_before q names i j e within at place = elim (cases_Bool (nat_lt j i)) [
  | inl before ↦ absurd (true≢false (sym (is_called_so q (get_or names j None) at) ∙ (position-Some (is_called q) names i None e).2 j (ltb-true j i before)))
  | inr not ↦ let le = ltb-false j i not in omega (arith, place, le)
]

-- The pairs es are the sorted pairs ps, which are those of the names.
module _ (names : List (Option Name)) (ps es : List (Id × ℕ)) (are : entries_of ps ≡ numbered_from 0 (keys_of names)) (moved : IsPermutation ps es)
    (ordered : AreRanked es) where
  moved_entries : IsPermutation (numbered_from 0 (keys_of names)) (entries_of es)
  moved_entries = subst (λ (xs : List (Key × ℕ)). IsPermutation xs (entries_of es)) are (IsPermutation-map entry_of ps es moved)

  tie_from_clash : (p : ℕ) → IsClash names p → IsTie (entries_of es) p
  tie_from_clash p c = again_is_tie keys_total exact_keys (keys_of names) (entries_of es) moved_entries (sorted_entries es ordered) p
      (again_from_clash names p c)

  clash_from_tie : (p : ℕ) → IsTie (entries_of es) p → IsClash names p
  clash_from_tie p t =
      let lt : t.at < length es = omega (arith, t.within, length-map es entry_of) in
      clash_from_again names p (tie_is_again keys_total exact_keys (keys_of names) (entries_of es) moved_entries (sorted_entries es ordered) p
      (entry_of (some_element es t.at lt)) t)

  pub first_clash : (p : ℕ) → IsLeastTie (entries_of es) p → IsFirstClash names p
  first_clash p h = record { clash = clash_from_tie p h.tie; least = λ r c. h.least r (tie_from_clash r c) }

  pub clash_or_none : (o : Option ℕ) → IsFirstTie (entries_of es) o → HasFirstClash names o
  clash_or_none None h = λ p c. h p (tie_from_clash p c)
  clash_or_none (Some p) h = first_clash p h

  module _ (free : (p : ℕ) → IsTie (entries_of es) p → ⊥) where
    pub names_rise : AreSorted es
    names_rise = rise_from_free keys_total exact_keys (keys_of names) (entries_of es) moved_entries (sorted_entries es ordered) free

    denotes : (q : Name) (r : Option ℕ) → position_of q names ≡ r → get (from_sorted {R = key_cmp} (entries_of es)) (key_of q) ≡ r
    denotes q None e =
        get_sorted es (key_of q) names_rise ∙ nowhere_found keys_total exact_keys (keys_of names) (entries_of es) moved_entries (key_of q) (λ p lt at.
        let within : p < length names = omega (arith, lt, same_keys_length names) in
        no_position q names e p within (bears (get_or names p None) q (sym (key_there names p within) ∙ at)))
    denotes q (Some i) e =
        let x = position_bears q names i e in
        get_sorted es (key_of q) names_rise
        ∙ place_is_found keys_total exact_keys (keys_of names) (entries_of es) moved_entries (sorted_entries es ordered) free
        (key_of q) i (omega (arith, x.0, same_keys_length names)) (key_there names i x.0 ∙ ap (option_map key_of) x.1)

    pub filled_space : (count : ℕ) → count ≡ length names → (s : NameSpace) → s ≡ record { names = from_sorted (entries_of es); count = count }
        → IsFilled names s
    filled_space count long s is = record {
      free = λ p c. free p (tie_from_clash p c);
      count = ap (λ (s : NameSpace). s.count) is ∙ long;
      number = λ q. ap (λ (s : NameSpace). number_in s q) is ∙ denotes q (position_of q names) refl;
    }

  -- Each name has the position of the first item with it, even if others have it.
  found_at : (q : Name) (r : Option ℕ) → position_of q names ≡ r → find key_cmp (key_of q) (entries_of es) ≡ r
  found_at q None e =
      nowhere_found keys_total exact_keys (keys_of names) (entries_of es) moved_entries (key_of q) (λ p lt at.
      let within : p < length names = omega (arith, lt, same_keys_length names) in
      no_position q names e p within (bears (get_or names p None) q (sym (key_there names p within) ∙ at)))
  found_at q (Some i) e =
      let x = position_bears q names i e in
      let keys = numbered_from 0 (keys_of names) in
      let climbs = rises keys_total exact_keys (keys_of names) (entries_of es) moved_entries (sorted_entries es ordered) in
      let here = Contains-permutation keys (entries_of es) (key_of q, i) moved_entries
      (from_place 0 (keys_of names) i i (key_of q) (omega (arith, x.0, same_keys_length names)) (omega arith)
      (key_there names i x.0 ∙ ap (option_map key_of) x.1)) in
      least_found keys_total exact_keys (key_of q) i (entries_of es) climbs here (λ r c.
      let s = to_place 0 (keys_of names) (key_of q) r
      (Contains-permutation (entries_of es) keys (key_of q, r) (IsPermutation-sym keys (entries_of es) moved_entries) c) in
      let within : s.at < length names = omega (arith, s.within, same_keys_length names) in
      not_before q names i s.at e within (bears (get_or names s.at None) q (sym (key_there names s.at within) ∙ s.is)) s.place)

  module _ (firsts : List (Id × ℕ)) (are_firsts : entries_of firsts ≡ first_of_each key_cmp (entries_of es)) where
    pub firsts_sorted : AreSorted firsts
    firsts_sorted = subst (λ (xs : List (Key × ℕ)). T (is_sorted key_cmp xs)) (sym are_firsts)
        (firsts_rise keys_total exact_keys (entries_of es) (rises keys_total exact_keys (keys_of names) (entries_of es) moved_entries
        (sorted_entries es ordered)))

    pub firsts_known : (count : ℕ) (s : NameSpace) → s ≡ record { names = from_sorted (entries_of firsts); count = count } → Denotes names s
    firsts_known count s is q =
        ap (λ (s : NameSpace). number_in s q) is ∙ (get_sorted firsts (key_of q) firsts_sorted
        ∙ (ap (find key_cmp (key_of q)) are_firsts ∙ (found_first keys_total exact_keys (key_of q) (entries_of es) ∙ found_at q (position_of q names) refl)))
