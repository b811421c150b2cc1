-- The ranges of all kinds, extended by one field.
use Rattle.std.proofs.Common.{◌≡◌, ℕ, ◌+◌, ◌<◌, ◌≤◌, Bool, true, false, ◌&&◌, List, [], ◌∷◌, ◌++◌, length, get_or, set, replicate, take}
use Rattle.std.proofs.Common.{drop, refl, sym, ap, ◌∙◌, subst, arith}
use Rattle.std.specs.List.{list_all}
use Rattle.std.proofs.lemmas.Bool.{eqb-true, eqb-false, and_parts}
use Rattle.std.proofs.lemmas.List.{get_or-replicate, get_or-set_same, get_or-set_other}
use Rattle.wast_base.proofs.ListTests.{item_passes}
use Rattle.wast_tree_nodes.specs.declared.fields.ModuleField.{ModuleField}
use Rattle.wast_tree_nodes.specs.declared.customs.CustomPlace.{CustomPlace}
use Rattle.wast_tree_nodes.specs.declared.customs.CustomPlaceAnchor.{CustomPlaceAnchor}
use Rattle.wast_tree_nodes.specs.declared.customs.CustomPlaceAnchor.TheVariants as anchor
use Rattle.wast_tree_nodes.specs.declared.customs.CustomPlace.TheVariants as at
use Rattle.wast_tree_nodes.specs.Customs.{anchor_rank, place_rank}
use Rattle.wast_core_ranges.specs.declared.finding.FieldRanges.{FieldRanges}
use Rattle.wast_tree_nodes.specs.declared.kinds.FieldKind.{FieldKind}
use Rattle.wast_tree_nodes.specs.declared.kinds.FieldKind.TheVariants as kind
use Rattle.wast_core_ranges.specs.declared.stretches.FieldRange.{FieldRange}
use Rattle.wast_tree_nodes.specs.Kinds.{kind_in, kind_rank, kinds, is_of}
use Rattle.wast_core_ranges.specs.FieldRanges.{none_pass, is_inside, is_reach, reach_of, are_reaches}
use Rattle.wast_core_ranges.proofs.Reaching.{passed_over}

abbrev nowhere : FieldRange
nowhere = record { first = 0; end = 0 }

-- The range of the kind of the field is the new one, and those of other kinds do not change.
pub one_more : (rs : List FieldRange) (i : ℕ) (new : FieldRange) (k : FieldKind) (before : List ModuleField) (field : ModuleField)
    → i ≡ kind_rank (kind_in field) → i < length rs
    → (is_reach (is_of k) before (get_or rs i nowhere) ≡ true → is_reach (is_of k) (before ++ field ∷ []) new ≡ true)
    → is_reach (is_of k) before (get_or rs (kind_rank k) nowhere) ≡ true
    → is_reach (is_of k) (before ++ field ∷ []) (get_or (set rs i new) (kind_rank k) nowhere) ≡ true
one_more rs i new k before field is lt grows h = by_test (is_of k field) refl
  where
    by_test : (b : Bool) → is_of k field ≡ b → is_reach (is_of k) (before ++ field ∷ []) (get_or (set rs i new) (kind_rank k) nowhere) ≡ true
    by_test true own =
        let same : kind_rank k ≡ i = eqb-true (kind_rank k) (kind_rank (kind_in field)) own ∙ sym is in
        let found : get_or (set rs i new) (kind_rank k) nowhere ≡ new = ap (λ j. get_or (set rs i new) j nowhere) same ∙ get_or-set_same rs i new nowhere lt in
        ap (is_reach (is_of k) (before ++ field ∷ [])) found ∙ grows (ap (λ j. is_reach (is_of k) before (get_or rs j nowhere)) (sym same) ∙ h)
    by_test false other =
        let found : get_or (set rs i new) (kind_rank k) nowhere ≡ get_or rs (kind_rank k) nowhere = get_or-set_other rs i (kind_rank k) new nowhere
        (λ e. eqb-false (kind_rank k) (kind_rank (kind_in field)) other (e ∙ is)) in
        ap (is_reach (is_of k) (before ++ field ∷ [])) found ∙ passed_over (is_of k) before field (get_or rs (kind_rank k) nowhere) other h

each_is : (p : FieldKind → Bool) (ks : List FieldKind) → ((k : FieldKind) → p k ≡ true) → list_all p ks ≡ true
each_is p [] h = refl
each_is p (k ∷ ks) h = ap (λ b. b && list_all p ks) (h k) ∙ each_is p ks h

-- The ranges of all kinds, from the range of each kind.
pub all_found : (fields : List ModuleField) (rs : FieldRanges) → ((k : FieldKind) → is_reach (is_of k) fields (reach_of rs k) ≡ true)
    → are_reaches fields rs ≡ true
unfolding are_reaches
all_found fields rs h = each_is (λ k. is_reach (is_of k) fields (reach_of rs k)) kinds h

-- The range of each kind is at the rank of the kind.
before_at_rank : (a : CustomPlaceAnchor) → get_or kinds (kind_rank (kind.Custom (at.Before a))) kind.Ty ≡ kind.Custom (at.Before a)
before_at_rank anchor.Ty = refl
before_at_rank a = refl

after_at_rank : (a : CustomPlaceAnchor) → get_or kinds (kind_rank (kind.Custom (at.After a))) kind.Ty ≡ kind.Custom (at.After a)
after_at_rank anchor.Ty = refl
after_at_rank a = refl

place_at_rank : (p : CustomPlace) → get_or kinds (kind_rank (kind.Custom p)) kind.Ty ≡ kind.Custom p
place_at_rank at.BeforeFirst = refl
place_at_rank at.AfterLast = refl
place_at_rank (at.Before a) = before_at_rank a
place_at_rank (at.After a) = after_at_rank a

at_rank : (k : FieldKind) → get_or kinds (kind_rank k) kind.Ty ≡ k
at_rank (kind.Custom p) = place_at_rank p
at_rank k = refl

anchor_below : (a : CustomPlaceAnchor) → anchor_rank a < 12
anchor_below anchor.Ty = omega arith
anchor_below a = omega arith

place_below : (p : CustomPlace) → place_rank p < 26
place_below at.BeforeFirst = omega arith
place_below at.AfterLast = omega arith
place_below (at.Before a) = omega (arith, anchor_below a)
place_below (at.After a) = omega (arith, anchor_below a)

rank_below : (k : FieldKind) → kind_rank k < 38
rank_below (kind.Custom p) = omega (arith, place_below p)
rank_below k = omega arith

-- Without fields the range of each kind is empty.
pub none_found : (k : FieldKind) → is_reach (is_of k) [] (get_or (replicate 38 nowhere) (kind_rank k) nowhere) ≡ true
none_found k = ap (is_reach (is_of k) []) (get_or-replicate 38 (kind_rank k) nowhere nowhere (rank_below k))

-- The range of one kind, from the ranges of all kinds.
pub found_for : (fields : List ModuleField) (rs : FieldRanges) (k : FieldKind) → are_reaches fields rs ≡ true → is_reach (is_of k) fields (reach_of rs k) ≡ true
unfolding are_reaches
found_for fields rs k h =
    let p = λ (l : FieldKind). is_reach (is_of l) fields (reach_of rs l) in
    ap p (sym (at_rank k)) ∙ item_passes p kinds (kind_rank k) kind.Ty (rank_below k) h

-- If no field passes outside of an empty range, no field passes.
empty_reach : (p : ModuleField → Bool) (fields : List ModuleField) (r : FieldRange) → r.end ≡ 0 → is_reach p fields r ≡ true → none_pass p fields ≡ true
empty_reach p fields r none h =
    let outside = (and_parts (is_inside fields r) (none_pass p (take r.first fields) && none_pass p (drop r.end fields)) h).1 in
    subst (λ n. none_pass p (drop n fields) ≡ true) none (and_parts (none_pass p (take r.first fields)) (none_pass p (drop r.end fields)) outside).1

-- If the ranges of all custom sections are empty, there are none.
pub no_customs : (rs : FieldRanges) → ((k : ℕ) → 12 ≤ k → k < 38 → (get_or rs.by_rank k nowhere).end ≡ 0)
    → (fields : List ModuleField) (place : CustomPlace) → are_reaches fields rs ≡ true → none_pass (is_of (kind.Custom place)) fields ≡ true
no_customs rs empty fields place h =
    empty_reach (is_of (kind.Custom place)) fields (reach_of rs (kind.Custom place))
    (empty (12 + place_rank place) (omega arith) (omega (arith, place_below place))) (found_for fields rs (kind.Custom place) h)
