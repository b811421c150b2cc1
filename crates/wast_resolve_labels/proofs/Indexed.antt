-- Indexing a block and removing it keep the index correct, and depths follow from the index.
use Rattle.std.proofs.Common.{◌≡◌, ℕ, suc, ◌+◌, ◌-◌, ◌<◌, ◌≤◌, List, [], ◌∷◌, ◌++◌, length, map, reverse, get_or, take, drop, Option, Some}
use Rattle.std.proofs.Common.{None, IsSome, is_some, option_map, cond, Bool, true, false, refl, sym, ap, ◌∙◌, subst, arith, inl, inr}
use Rattle.std.specs.BTreeMap.{BTreeMap, get, Updates}
use Rattle.std.specs.Cmp.{both_ways}
use Rattle.std.specs.List.{position}
use Rattle.std.specs.Ordering.{is_eq}
use Rattle.std.specs.Prelude.{nat_lt}
use Rattle.std.proofs.lemmas.Bool.{cases_Bool, ltb-true, ltb-false}
use Rattle.std.proofs.lemmas.List.{length-append, length-map, take-append-drop, length-reverse, map-append, reverse-append, get_or-reverse, get_or-map}
use Rattle.wast_base.specs.Blocks.{Blocks}
use Rattle.wast_base.specs.contracts.ids.IdOrd.TheImpl as by_name
use Rattle.wast_base.specs.contracts.ids.IdOrd.TheImpl.Laws as laws
use Rattle.wast_base.specs.contracts.ids.NamePartialEq.TheImpl as names
use Rattle.wast_base.specs.declared.ids.Id.{Id}
use Rattle.wast_base.specs.declared.ids.Name as code
use Rattle.wast_base.specs.declared.ids.Name.TheVariants as name
use Rattle.wast_base.specs.Ids.{Name, name_of, named_by, same_name}
use Rattle.wast_base.specs.Spaces.{is_called}
use Rattle.wast_resolve_labels.specs.OpenBlocks.{label_depth}
use Rattle.wast_resolve_labels.specs.Indexed.{label_of, labels_of, innermost_of, innermost_if, AreChained, HasPlaces, IsIndexed, IsIndexOf}
use Rattle.wast_base.proofs.Names.{same_name_equal, same_name_itself}
use Rattle.wast_base.proofs.Positions.{position_head, first_place, no_place}

-- The position of the innermost block with a label, and the depth of the label.
abbrev pub IsCount : Name → Blocks → Option ℕ → Type 0
IsCount q ls None = label_depth q ls ≡ None
IsCount q ls (Some p) = (p < length ls) × (label_depth q ls ≡ Some (length ls - 1 - p))

one_further : (q : Name) (l : Option Name) (ls : Blocks) (b : Bool) → is_called q l ≡ b → (o : Option ℕ) → IsCount q ls o
    → IsCount q (l ∷ ls) (cond b (Some (length ls)) o)
one_further q l ls true e o h =
    let none : 0 ≡ suc (length ls) - 1 - length ls = omega arith in
    (omega arith, position_head (is_called q) true l ls e ∙ ap Some none)
one_further q l ls false e None h = position_head (is_called q) false l ls e ∙ ap (option_map suc) h
one_further q l ls false e (Some p) h =
    let more : suc (length ls - 1 - p) ≡ suc (length ls) - 1 - p = omega (arith, h.0) in
    (omega (arith, h.0), position_head (is_called q) false l ls e ∙ ap (option_map suc) h.1 ∙ ap Some more)

pub counted : (q : Name) (ls : Blocks) → IsCount q ls (innermost_of q ls)
counted q [] = refl
counted q (l ∷ ls) = one_further q l ls (is_called q l) refl (innermost_of q ls) (counted q ls)

-- Ids are equal in the order exactly if their names are.
name_is : (a b : code.Name) → same_name (named_by a) (named_by b) ≡ names.ghosts.eq a b
name_is (name.Written a) (name.Written b) = refl
name_is (name.Generated a) (name.Generated b) = refl
name_is (name.Written a) (name.Generated b) = refl
name_is (name.Generated a) (name.Written b) = refl

ties : (a b : Id) → is_eq (by_name.ghosts.cmp a b) ≡ same_name (name_of a) (name_of b)
ties a b = sym (laws.matches_eq-law a b) ∙ sym (name_is a.name b.name)

-- Equality of names is symmetric.
same_turned : (a b : Name) → same_name a b ≡ same_name b a
same_turned a b = both_ways (same_name a b) (same_name b a) (turn a b) (turn b a)
  where
    turn : (a b : Name) → same_name a b ≡ true → same_name b a ≡ true
    turn a b h = ap (λ n. same_name n a) (sym (same_name_equal a b h)) ∙ same_name_itself a

-- A new position of a label replaces the old one.
module _ (m n : BTreeMap Id ℕ) (id : Id) (w : Option ℕ) (updates : Updates by_name.ghosts.cmp m n id w) where
  kept_now : (q : Id) → get by_name.ghosts.cmp n q ≡ cond (same_name (name_of q) (name_of id)) w (get by_name.ghosts.cmp m q)
  kept_now q = updates.0 q ∙ ap (λ b. cond b w (get by_name.ghosts.cmp m q)) (ties id q ∙ same_turned (name_of id) (name_of q))

  more_places : (ls : Blocks) → w ≡ Some (length ls) → HasPlaces m ls → HasPlaces n (Some (name_of id) ∷ ls)
  more_places ls is h q =
      let b = same_name (name_of q) (name_of id) in
      kept_now q ∙ ap (cond b w) (h q) ∙ ap (λ o. cond b o (innermost_of (name_of q) ls)) is

  -- The position of the next block further out is stored again.
  fewer_places : (ls : Blocks) → w ≡ innermost_of (name_of id) ls → HasPlaces m (Some (name_of id) ∷ ls) → HasPlaces n ls
  fewer_places ls is h q = elim (cases_Bool (same_name (name_of q) (name_of id))) [
    | inl e ↦ kept_now q ∙ ap (λ b. cond b w (get by_name.ghosts.cmp m q)) e ∙ is
        ∙ ap (λ x. innermost_of x ls) (sym (same_name_equal (name_of q) (name_of id) e))
    | inr e ↦
        kept_now q ∙ ap (λ b. cond b w (get by_name.ghosts.cmp m q)) e ∙ h q
        ∙ ap (λ b. cond b (Some (length ls)) (innermost_of (name_of q) ls)) e
  ]

-- The label of an indexed block is in the index.
is_kept : (m : BTreeMap Id ℕ) (id : Id) (ls : Blocks) → HasPlaces m (Some (name_of id) ∷ ls) → get by_name.ghosts.cmp m id ≡ Some (length ls)
is_kept m id ls h = h id ∙ ap (λ b. cond b (Some (length ls)) (innermost_of (name_of id) ls)) (same_name_itself (name_of id))

-- None of the first blocks has the label.
pub record IsSought (q : Name) (ls : Blocks) (steps : ℕ) : Type 0 where
  pub within : steps ≤ length ls
  pub others : (k : ℕ) → k < steps → is_called q (get_or ls k None) ≡ false

-- A block by its distance from the innermost, in a list with the outermost first.
there : (ids : List (Option Id)) (steps : ℕ) (d : Option Id) → steps < length ids
    → get_or (labels_of ids) steps None ≡ label_of (get_or ids (length ids - 1 - steps) d)
there ids steps d lt =
    let long = length-map ids label_of in
    let last : length (map label_of ids) - 1 - steps ≡ length ids - 1 - steps = omega (arith, long) in
    get_or-reverse (map label_of ids) steps None (omega (arith, long, lt)) ∙ ap (λ n. get_or (map label_of ids) n None) last
    ∙ get_or-map label_of ids (length ids - 1 - steps) d None (omega (arith, lt))

pub as_many : (ids : List (Option Id)) → length (labels_of ids) ≡ length ids
as_many ids = length-reverse (map label_of ids) ∙ length-map ids label_of

module _ (q : Name) (ids : List (Option Id)) (steps : ℕ) (d : Option Id) (h : IsSought q (labels_of ids) steps) (lt : steps < length ids) where
  pub sought_here : is_called q (label_of (get_or ids (length ids - 1 - steps) d)) ≡ true → label_depth q (labels_of ids) ≡ Some steps
  sought_here here = first_place (is_called q) (labels_of ids) steps None (omega (arith, lt, as_many ids)) (ap (is_called q) (there ids steps d lt)
      ∙ here) h.others

  pub sought_on : is_called q (label_of (get_or ids (length ids - 1 - steps) d)) ≡ false → IsSought q (labels_of ids) (steps + 1)
  sought_on other = record {
    within = omega (arith, lt, as_many ids);
    others = λ k below. elim (cases_Bool (nat_lt k steps)) [
      | inl e ↦ h.others k (ltb-true k steps e)
      | inr e ↦
          let same : k ≡ steps = omega (arith, ltb-false k steps e, below) in
          ap (λ n. is_called q (get_or (labels_of ids) n None)) same ∙ ap (is_called q) (there ids steps d lt) ∙ other
    ];
  }

pub sought_all : (q : Name) (ids : List (Option Id)) (steps : ℕ) → IsSought q (labels_of ids) steps → length ids ≤ steps → label_depth q (labels_of ids) ≡ None
sought_all q ids steps h le = no_place (is_called q) (labels_of ids) None (λ k lt. h.others k (omega (arith, lt, le, as_many ids)))

-- The same for a label that exists, and for the chain of blocks.
module _ (m n : BTreeMap Id ℕ) (id : Id) (label : Option Id) (is : label ≡ Some id) where
  pub keeps : (place : ℕ) (old : Option ℕ) → old ≡ get by_name.ghosts.cmp m id → Updates by_name.ghosts.cmp m n id (Some place) → (ls : Blocks)
      → length ls ≡ place → HasPlaces m ls
      → HasPlaces n (label_of label ∷ ls) × (old ≡ innermost_if (label_of label) ls)
  keeps place old was updates ls long h =
      subst (λ (l : Option Id). HasPlaces n (label_of l ∷ ls) × (old ≡ innermost_if (label_of l) ls)) (sym is)
      (more_places m n id (Some place) updates ls (ap Some (sym long)) h, was ∙ h id)

  -- The label of the closed block is in the index, whatever its position is then.
  pub forgets : (further : Option ℕ) → (IsSome (get by_name.ghosts.cmp m id) → Updates by_name.ghosts.cmp m n id further) → (os ps : List (Option ℕ))
      → ps ≡ os ++ further ∷ [] → (ls : Blocks)
      → IsIndexed m ps (label_of label ∷ ls) → IsIndexed n os ls
  forgets further put os ps less ls h =
      let chained = subst (λ (qs : List (Option ℕ)). AreChained qs (label_of label ∷ ls)) (ap reverse less ∙ reverse-append os (further ∷ [])) h.chained in
      let places = subst (λ (l : Option Id). HasPlaces m (label_of l ∷ ls)) is h.innermost in
      let updates = put (ap is_some (is_kept m id ls places)) in
      record {
        innermost = fewer_places m n id further updates ls (chained.0 ∙ ap (λ (l : Option Id). innermost_if (label_of l) ls) is) places;
        chained = chained.1;
      }

-- The first of two lists with an element that passes.
module _ {X : Type 0} (p : X → Bool) (ys : List X) where
  found_later : (xs : List X) (o : Option ℕ) → position p xs ≡ o → (n : ℕ) → option_map suc o ≡ Some n
      → ((m : ℕ) → position p xs ≡ Some m → position p (xs ++ ys) ≡ Some m) → option_map suc (position p (xs ++ ys)) ≡ Some n
  found_later xs None e n h more = absurd (cc (h))
  found_later xs (Some m) e n h more = ap (option_map suc) (more m e) ∙ h

  pub found_first : (xs : List X) (n : ℕ) → position p xs ≡ Some n → position p (xs ++ ys) ≡ Some n
  found_first [] n h = absurd (cc (h))
  found_first (x ∷ xs) n h = elim (cases_Bool (p x)) [
    | inl e ↦ position_head p true x (xs ++ ys) e ∙ sym (position_head p true x xs e) ∙ h
    | inr e ↦ position_head p false x (xs ++ ys) e ∙ found_later xs (position p xs) refl n (sym (position_head p false x xs e) ∙ h) (found_first xs)
  ]

  none_later : (o : Option ℕ) → option_map suc o ≡ None → o ≡ None
  none_later None h = refl
  none_later (Some n) h = cc

  further_on : (k : ℕ) (o : Option ℕ) → option_map suc (option_map (λ n. k + n) o) ≡ option_map (λ n. suc k + n) o
  further_on k None = refl
  further_on k (Some n) = ap Some (omega arith)

  from_start : (o : Option ℕ) → o ≡ option_map (λ n. 0 + n) o
  from_start None = refl
  from_start (Some n) = ap Some (omega arith)

  pub passed_over : (xs : List X) → position p xs ≡ None → position p (xs ++ ys) ≡ option_map (λ n. length xs + n) (position p ys)
  passed_over [] h = from_start (position p ys)
  passed_over (x ∷ xs) h = elim (cases_Bool (p x)) [
    | inl e ↦ absurd (cc (sym (position_head p true x xs e) ∙ h))
    | inr e ↦
        position_head p false x (xs ++ ys) e ∙ ap (option_map suc) (passed_over xs (none_later (position p xs) (sym (position_head p false x xs e) ∙ h)))
        ∙ further_on (length xs) (position p ys)
  ]

-- The depth of a label that one of the innermost blocks has.
pub found_nearest : (id : Id) (ids xs nearest : List (Option Id)) (k : ℕ) → xs ≡ ids → nearest ≡ drop k xs → (o : Option ℕ)
    → o ≡ label_depth (name_of id) (labels_of nearest) → (steps : ℕ) → o ≡ Some steps → label_depth (name_of id) (labels_of ids) ≡ Some steps
found_nearest id ids xs nearest k same back o is steps here =
    let split : ids ≡ take k xs ++ nearest = sym same ∙ (sym (take-append-drop k xs) ∙ ap (λ ys. take k xs ++ ys) (sym back)) in
    let parted : labels_of ids ≡ labels_of nearest ++ labels_of (take k xs) = ap labels_of split
    ∙ (ap reverse (map-append label_of (take k xs) nearest) ∙ reverse-append (map label_of (take k xs)) (map label_of nearest)) in
    ap (label_depth (name_of id)) parted ∙ found_first (is_called (name_of id)) (labels_of (take k xs)) (labels_of nearest) steps (sym is ∙ here)

-- The depth of a label, from the blocks that are not indexed and those that are.
module _ (id : Id) (m : BTreeMap Id ℕ) (outer : List (Option ℕ)) (ids xs further near : List (Option Id)) (k : ℕ) (h : IsIndexOf ids m outer)
    (same : xs ≡ ids) (long : k ≡ length outer) (front : further ≡ take k xs) (back : near ≡ drop k xs) where
  split : ids ≡ further ++ near
  split = sym same ∙ (sym (take-append-drop k xs) ∙ sym (λ i. front i ++ back i))

  parted : labels_of ids ≡ labels_of near ++ labels_of further
  parted = ap labels_of split ∙ (ap reverse (map-append label_of further near) ∙ reverse-append (map label_of further) (map label_of near))

  pub found_near : (o : Option ℕ) → o ≡ label_depth (name_of id) (labels_of near) → (steps : ℕ) → o ≡ Some steps
      → label_depth (name_of id) (labels_of ids) ≡ Some steps
  found_near o is steps here = ap (label_depth (name_of id)) parted
      ∙ found_first (is_called (name_of id)) (labels_of further) (labels_of near) steps (sym is ∙ here)

  module _ (n o : Option ℕ) (near_is : n ≡ label_depth (name_of id) (labels_of near)) (none : n ≡ None) (further_is : o ≡ get by_name.ghosts.cmp m id) where
    over : label_depth (name_of id) (labels_of ids) ≡ option_map (λ n. length (labels_of near) + n) (label_depth (name_of id) (labels_of further))
    over = ap (label_depth (name_of id)) parted ∙ passed_over (is_called (name_of id)) (labels_of further) (labels_of near) (sym near_is ∙ none)

    count : IsCount (name_of id) (labels_of further) o
    count =
        let part : further ≡ take (length outer) ids = front ∙ (λ i. take (long i) (same i)) in
        subst (IsCount (name_of id) (labels_of further))
        (sym (further_is ∙ (h.indexed.innermost id ∙ ap (λ ys. innermost_of (name_of id) (labels_of ys)) (sym part))))
        (counted (name_of id) (labels_of further))

    pub found_nowhere : o ≡ None → label_depth (name_of id) (labels_of ids) ≡ None
    found_nowhere gone = over ∙ ap (option_map (λ n. length (labels_of near) + n)) (subst (IsCount (name_of id) (labels_of further)) gone count)

    pub place_within : (place : ℕ) → o ≡ Some place → place ≤ length ids - 1
    place_within place there =
        let c = subst (IsCount (name_of id) (labels_of further)) there count in
        omega (arith, c.0, as_many further, ap length split, length-append further near)

    pub found_further : (place : ℕ) → o ≡ Some place → label_depth (name_of id) (labels_of ids) ≡ Some (length ids - 1 - place)
    found_further place there =
        let c = subst (IsCount (name_of id) (labels_of further)) there count in
        let n : length (labels_of near) + (length (labels_of further) - 1 - place) ≡ length ids - 1 - place = omega
        (arith, c.0, as_many further, as_many near, ap length split, length-append further near) in
        over ∙ (ap (option_map (λ n. length (labels_of near) + n)) c.1 ∙ ap Some n)
