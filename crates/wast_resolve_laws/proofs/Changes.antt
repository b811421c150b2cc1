-- Items of which some get generated ids: the numbers of older names among them, and duplicates.
use Rattle.std.proofs.Common.{◌≡◌, ℕ, suc, ◌+◌, ◌<◌, ◌≤◌, ◌==◌, Bool, true, false, cond, not, ◌&&◌, ◌||◌, List, [], ◌∷◌, ◌++◌, map, length}
use Rattle.std.proofs.Common.{Option, Some, None, is_some, option_map, refl, sym, ap, ◌∙◌, arith}
use Rattle.std.specs.List.{position}
use Rattle.std.proofs.lemmas.Bool.{eqb-true}
use Rattle.std.proofs.lemmas.List.{map-append, length-map}
use mathlib.Core.Path.{fun_ext}
use Rattle.wast_base.specs.Ids.{Name, Written, Generated, same_name, generation_of, Mark}
use Rattle.wast_base.specs.Faults.{Cause, Duplicate}
use Rattle.wast_base.specs.Spaces.{spaces, word_of, name_if, same_space, is_called, position_of, is_borne}
use Rattle.wast_tree_nodes.specs.Items.{Item}
use Rattle.wast_tree_nodes.specs.Known.{name_in, names_in}
use Rattle.wast_tree_nodes.specs.Generations.{generation_or_zero, greatest_item}
use Rattle.wast_tree_nodes.proofs.Bearing.{borne_among, borne_by_both}
use Rattle.wast_resolve_laws.specs.Tree.{Span, Space}
use Rattle.wast_resolve_rules.specs.Demands.{first_unmet, each_after, new_name_by, own_demand, field_demands, item_demand, item_demands}
use Rattle.wast_resolve_rules.specs.Demands.{space_counts, field_counts, item_counts}
use Rattle.wast_base.proofs.Positions.{position_head}
use Rattle.wast_resolve_rules.proofs.Unmet.{alike_behind}

pub data Change : Type 0 where
  -- an unchanged item
  Kept : Item → Change
  -- an item without an id, with these fields, which gets one at this position
  Given : Space → Span → List (Option Mark) → Change

abbrev pub old_of : Change → Item
old_of (Kept x) = x
old_of (Given s p fields) = record { space = s; id = None; fields = fields }

abbrev pub new_of : ℕ → Change → Item
new_of n (Kept x) = x
new_of n (Given s p fields) = record { space = s; id = Some (Generated n, p); fields = fields }

-- the next generated id
abbrev pub next_of : ℕ → Change → ℕ
next_of n (Kept x) = n
next_of n (Given s p fields) = n + 1

abbrev pub olds : List Change → List Item
olds cs = map old_of cs

abbrev pub news : ℕ → List Change → List Item
news n [] = []
news n (c ∷ cs) = new_of n c ∷ news (next_of n c) cs

-- unchanged items, before others
pub old_kept : (xs : List Item) → xs ≡ olds (map Kept xs)
old_kept [] = refl
old_kept (x ∷ xs) = ap (λ ys. x ∷ ys) (old_kept xs)

pub new_kept : (n : ℕ) (xs ys : List Item) (cs : List Change) → ys ≡ news n cs → xs ++ ys ≡ news n (map Kept xs ++ cs)
new_kept n [] ys cs h = h
new_kept n (x ∷ xs) ys cs h = ap (λ zs. x ∷ zs) (new_kept n xs ys cs h)

not_equal : (b : Bool) (m n : ℕ) → (m == n) ≡ b → (m ≡ n → ⊥) → b ≡ false
not_equal true m n e f = absurd (f (eqb-true m n e))
not_equal false m n e f = refl

rises : (n : ℕ) (c : Change) → n ≤ next_of n c
rises n (Kept x) = omega arith
rises n (Given s p fields) = omega arith

-- An older name is not that of a new id.
other_name : (q : Name) (n : ℕ) → generation_of q < n → same_name q (Generated n) ≡ false
other_name (Written t) n lt = refl
other_name (Generated m) n lt = not_equal (m == n) m n refl (λ e. omega (arith, lt, e))

called_one : (q : Name) (s : Space) (n : ℕ) (c : Change) → generation_of q < n
    → map (is_called q) (name_in s (new_of n c)) ≡ map (is_called q) (name_in s (old_of c))
called_one q s n (Kept x) lt = refl
called_one q s n (Given t p fields) lt = by_space (same_space s t)
  where
    by_space : (b : Bool) → map (is_called q) (cond b (Some (Generated n) ∷ []) []) ≡ map (is_called q) (cond b (None ∷ []) [])
    by_space true = ap (λ z. z ∷ []) (other_name q n lt)
    by_space false = refl

pub called_news : (q : Name) (s : Space) (n : ℕ) (cs : List Change) → generation_of q < n
    → map (is_called q) (names_in s (news n cs)) ≡ map (is_called q) (names_in s (olds cs))
called_news q s n [] lt = refl
called_news q s n (c ∷ cs) lt =
    map-append (is_called q) (name_in s (new_of n c)) (names_in s (news (next_of n c) cs))
    ∙ (ap (λ z. z ++ map (is_called q) (names_in s (news (next_of n c) cs))) (called_one q s n c lt)
    ∙ (ap (λ z. map (is_called q) (name_in s (old_of c)) ++ z) (called_news q s (next_of n c) cs (let r = rises n c in omega arith))
    ∙ sym (map-append (is_called q) (name_in s (old_of c)) (names_in s (olds cs)))))

-- a position is that of the first test that passes
pub position_passes : {X : Type 0} (p : X → Bool) (xs : List X) → position p xs ≡ position (λ b. b) (map p xs)
position_passes p [] = refl
position_passes p (x ∷ xs) =
    position_head p (p x) x xs refl ∙ (ap (λ o. cond (p x) (Some 0) (option_map suc o)) (position_passes p xs)
    ∙ sym (position_head (λ b. b) (p x) (p x) (map p xs) refl))

-- Older names have the same numbers, and there are as many items.
same_position : (q : Name) (s : Space) (n : ℕ) (cs : List Change) → generation_of q < n
    → position_of q (names_in s (news n cs)) ≡ position_of q (names_in s (olds cs))
same_position q s n cs lt =
    position_passes (is_called q) (names_in s (news n cs))
    ∙ (ap (position (λ b. b)) (called_news q s n cs lt) ∙ sym (position_passes (is_called q) (names_in s (olds cs))))

same_length : (s : Space) (n : ℕ) (cs : List Change) → 0 < n → length (names_in s (news n cs)) ≡ length (names_in s (olds cs))
same_length s n cs lt =
    let q = Written [] in
    sym (length-map (names_in s (news n cs)) (is_called q)) ∙ (ap length (called_news q s n cs lt) ∙ length-map (names_in s (olds cs)) (is_called q))

-- No id of an earlier generation has a later name.
later_name : (o : Option Mark) (m : ℕ) → generation_or_zero o < m → is_called (Generated m) (name_if o) ≡ false
later_name None m lt = refl
later_name (Some (Written t, p)) m lt = refl
later_name (Some (Generated k, p)) m lt = not_equal (m == k) m k refl (λ e. omega (arith, lt, e))

and_false : (b c : Bool) → c ≡ false → ((b && c) || false) ≡ false
and_false true c h = ap (λ d. d || false) h
and_false false c h = refl

not_borne : (s : Space) (x : Item) (m : ℕ) → generation_or_zero x.id < m → is_borne (Generated m) (names_in s (x ∷ [])) ≡ false
not_borne s x m lt = borne_among s (Generated m) (x ∷ []) ∙ and_false (same_space s x.space) (is_called (Generated m) (name_if x.id)) (later_name x.id m lt)

-- The items before: they have the same older names, and none of the next generations.
record Before (old n : ℕ) (xs ys : List Item) : Type 0 where
  above : old ≤ n
  same : (s : Space) (q : Name) → generation_of q < old → is_borne q (names_in s ys) ≡ is_borne q (names_in s xs)
  new : (s : Space) (m : ℕ) → n ≤ m → is_borne (Generated m) (names_in s ys) ≡ false

given_below : (n : ℕ) (c : Change) → generation_or_zero (old_of c).id < n → generation_or_zero (new_of n c).id < next_of n c
given_below n (Kept x) lt = lt
given_below n (Given s p fields) lt = omega arith

one_more : (old n : ℕ) (xs ys : List Item) (c : Change) → generation_or_zero (old_of c).id < old → Before old n xs ys
    → Before old (next_of n c) (xs ++ old_of c ∷ []) (ys ++ new_of n c ∷ [])
one_more old n xs ys c lt h = let above = h.above in let r = rises n c in record {
  above = omega arith;
  same = λ s q less.
      borne_by_both s q ys (new_of n c ∷ []) ∙ (ap (λ b. b || is_borne q (names_in s (new_of n c ∷ []))) (h.same s q less)
      ∙ (ap (λ o. is_borne q (names_in s xs) || is_some o) (same_position q s n (c ∷ []) (omega (arith, less, above)))
      ∙ sym (borne_by_both s q xs (old_of c ∷ []))));
  new = λ s m le.
      let g = given_below n c (omega (arith, lt, above)) in
      borne_by_both s (Generated m) ys (new_of n c ∷ [])
      ∙ (ap (λ b. b || is_borne (Generated m) (names_in s (new_of n c ∷ []))) (h.new s m (omega (arith, le, r)))
      ∙ not_borne s (new_of n c) m (omega (arith, g, le)));
}

same_new : (fault : Name → Cause) (xs ys : List (Option Name)) (o : Option Mark) → ((m : Mark) → o ≡ Some m → is_borne m.0 ys ≡ is_borne m.0 xs)
    → new_name_by fault ys o ≡ new_name_by fault xs o
same_new fault xs ys None h = refl
same_new fault xs ys (Some m) h = ap (λ b. record { fault = fault m.0; place = m.1; met = not b } ∷ []) (h m refl)

-- New ids are no duplicates.
clashes : (old n : ℕ) (xs ys : List Item) (cs : List Change) → greatest_item (olds cs) < old → Before old n xs ys
    → first_unmet (each_after item_demand ys (news n cs)) ≡ first_unmet (each_after item_demand xs (olds cs))
clashes old n xs ys [] lt h = refl
clashes old n xs ys (c ∷ cs) lt h =
    one c (clashes old (next_of n c) (xs ++ old_of c ∷ []) (ys ++ new_of n c ∷ []) cs (omega (arith, lt)) (one_more old n xs ys c (omega (arith, lt)) h)) lt
  where
    one : (c : Change)
        → first_unmet (each_after item_demand (ys ++ new_of n c ∷ []) (news (next_of n c) cs)) ≡ first_unmet
        (each_after item_demand (xs ++ old_of c ∷ []) (olds cs))
        → greatest_item (olds (c ∷ cs)) < old → first_unmet (each_after item_demand ys (news n (c ∷ cs))) ≡ first_unmet
        (each_after item_demand xs (olds (c ∷ cs)))
    one (Kept x) rest lt =
        let same : own_demand ys x ≡ own_demand xs x = same_new (λ name. Duplicate (word_of x.space)) (names_in x.space xs) (names_in x.space ys) x.id
        (λ m is. h.same x.space m.0 (let g : generation_or_zero x.id ≡ generation_of m.0 = ap generation_or_zero is in omega (arith, g, lt))) in
        alike_behind (item_demand ys x) (item_demand xs x) (each_after item_demand (ys ++ x ∷ []) (news n cs))
        (each_after item_demand (xs ++ x ∷ []) (olds cs)) (ap (λ ds. first_unmet (ds ++ field_demands x.fields)) same) (λ met. rest)
    one (Given s p fields) rest lt =
        let x = new_of n (Given s p fields) in
        let y = old_of (Given s p fields) in
        alike_behind (item_demand ys x) (item_demand xs y) (each_after item_demand (ys ++ x ∷ []) (news (n + 1) cs))
        (each_after item_demand (xs ++ y ∷ []) (olds cs))
        (ap (λ b. cond (not b) (first_unmet (field_demands fields)) (Some (Duplicate (word_of s), p))) (h.new s n (omega arith))) (λ met. rest)

same_clashes : (n : ℕ) (cs : List Change) → greatest_item (olds cs) < n → first_unmet (item_demands (news n cs)) ≡ first_unmet (item_demands (olds cs))
same_clashes n cs lt = clashes n n [] [] cs lt (record { above = omega arith; same = λ s q less. refl; new = λ s m le. refl })

-- The fields are unchanged.
one_count : (n : ℕ) (c : Change) → length (new_of n c).fields ≡ length (old_of c).fields
one_count n (Kept x) = refl
one_count n (Given s p fields) = refl

same_counts : (n : ℕ) (cs : List Change) → field_counts (news n cs) ≡ field_counts (olds cs)
same_counts n [] = refl
same_counts n (c ∷ cs) = ap (λ m. m ∷ field_counts (news (next_of n c) cs)) (one_count n c)
    ∙ ap (λ ms. length (old_of c).fields ∷ ms) (same_counts (next_of n c) cs)

-- Items before and after they are changed so.
module _ (n : ℕ) (cs : List Change) (xs ys : List Item) (old : xs ≡ olds cs) (new : ys ≡ news n cs) (above : greatest_item xs < n) where
  pub changed_position : (q : Name) (s : Space) → generation_of q < n → position_of q (names_in s ys) ≡ position_of q (names_in s xs)
  changed_position q s lt = ap (λ zs. position_of q (names_in s zs)) new ∙ (same_position q s n cs lt ∙ ap (λ zs. position_of q (names_in s zs)) (sym old))

  pub changed_clashes : first_unmet (item_demands ys) ≡ first_unmet (item_demands xs)
  changed_clashes =
      let e = ap greatest_item old in
      ap (λ zs. first_unmet (item_demands zs)) new ∙ (same_clashes n cs (omega (arith, above, e)) ∙ ap (λ zs. first_unmet (item_demands zs)) (sym old))

  changed_length : (s : Space) → length (names_in s ys) ≡ length (names_in s xs)
  changed_length s = ap (λ zs. length (names_in s zs)) new ∙ (same_length s n cs (omega (arith, above)) ∙ ap (λ zs. length (names_in s zs)) (sym old))

  pub changed_counts : item_counts ys ≡ item_counts xs
  changed_counts =
      let spaces_alike : space_counts ys ≡ space_counts xs = ap (λ (f : Space → ℕ). map f spaces) (fun_ext changed_length) in
      let fields_alike : field_counts ys ≡ field_counts xs = ap field_counts new ∙ (same_counts n cs ∙ ap field_counts (sym old)) in
      ap (λ ns. ns ++ field_counts ys) spaces_alike ∙ ap (λ ns. space_counts xs ++ ns) fields_alike
