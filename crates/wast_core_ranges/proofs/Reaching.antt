-- Properties of the fields in a range, and of ranges that are extended or united.
use Rattle.std.proofs.Common.{◌≡◌, ℕ, ◌≤◌, ◌+◌, ◌-◌, Bool, true, false, ◌&&◌, ◌||◌, not, List, [], ◌∷◌, ◌++◌, length, length-append, take}
use Rattle.std.proofs.Common.{drop, take-append-drop, append-nil, refl, sym, ap, ◌∙◌, arith}
use Rattle.std.specs.Prelude.{nat_le}
use Rattle.std.specs.List.{list_all, flat_map}
use Rattle.std.proofs.lemmas.Bool.{leb-true, le-leb}
use Rattle.std.proofs.lemmas.Grind.{flat_map-append}
use Rattle.std.proofs.lemmas.List.{take-append-le, drop-append-le, take-take, drop-drop}
use Rattle.std.proofs.lemmas.List.Folds.{list_all-append, drop_split}
use Rattle.wast_tree_nodes.specs.declared.fields.ModuleField.{ModuleField}
use Rattle.wast_core_ranges.specs.declared.stretches.FieldRange.{FieldRange}
use Rattle.wast_core_ranges.specs.FieldRanges.{none_pass, is_inside, is_reach, fields_in}

both_pass : (a b : Bool) → (a && b) ≡ true → (a ≡ true) × (b ≡ true)
both_pass true b h = (refl, h)
both_pass false b h = cc

both_true : (a b : Bool) → a ≡ true → b ≡ true → (a && b) ≡ true
both_true true b h k = k
both_true false b h k = cc

-- The parts of a range.
pub record IsReach (p : ModuleField → Bool) (fields : List ModuleField) (r : FieldRange) : Type 0 where
  pub ordered : r.first ≤ r.end
  pub inside : r.end ≤ length fields
  pub before : none_pass p (take r.first fields) ≡ true
  pub behind : none_pass p (drop r.end fields) ≡ true

pub reach_parts : (p : ModuleField → Bool) (fields : List ModuleField) (r : FieldRange) → is_reach p fields r ≡ true → IsReach p fields r
reach_parts p fields r h =
    let both = both_pass (is_inside fields r) (none_pass p (take r.first fields) && none_pass p (drop r.end fields)) h in
    let within = both_pass (nat_le r.first r.end) (nat_le r.end (length fields)) both.0 in
    let outside = both_pass (none_pass p (take r.first fields)) (none_pass p (drop r.end fields)) both.1 in
    record { ordered = leb-true r.first r.end within.0; inside = leb-true r.end (length fields) within.1; before = outside.0; behind = outside.1 }

pub reach_whole : (p : ModuleField → Bool) (fields : List ModuleField) (r : FieldRange) → IsReach p fields r → is_reach p fields r ≡ true
reach_whole p fields r h =
    both_true (is_inside fields r) (none_pass p (take r.first fields) && none_pass p (drop r.end fields))
    (both_true (nat_le r.first r.end) (nat_le r.end (length fields)) (le-leb r.first r.end h.ordered) (le-leb r.end (length fields) h.inside))
    (both_true (none_pass p (take r.first fields)) (none_pass p (drop r.end fields)) h.before h.behind)

pub is_inside_of : (p : ModuleField → Bool) (fields : List ModuleField) (r : FieldRange) → is_reach p fields r ≡ true → is_inside fields r ≡ true
is_inside_of p fields r h = (both_pass (is_inside fields r) (none_pass p (take r.first fields) && none_pass p (drop r.end fields)) h).0

-- ---- lists without a field that passes

none_both : (p : ModuleField → Bool) (xs ys : List ModuleField) → none_pass p (xs ++ ys) ≡ true → (none_pass p xs ≡ true) × (none_pass p ys ≡ true)
none_both p xs ys h = both_pass (none_pass p xs) (none_pass p ys) (sym (list_all-append (λ f. not (p f)) xs ys) ∙ h)

none_joined : (p : ModuleField → Bool) (xs ys : List ModuleField) → none_pass p xs ≡ true → none_pass p ys ≡ true → none_pass p (xs ++ ys) ≡ true
none_joined p xs ys h k = list_all-append (λ f. not (p f)) xs ys ∙ both_true (none_pass p xs) (none_pass p ys) h k

none_first : (p : ModuleField → Bool) (xs : List ModuleField) (n : ℕ) → none_pass p xs ≡ true → none_pass p (take n xs) ≡ true
none_first p xs n h = (none_both p (take n xs) (drop n xs) (ap (none_pass p) (take-append-drop n xs) ∙ h)).0

none_last : (p : ModuleField → Bool) (xs : List ModuleField) (n : ℕ) → none_pass p xs ≡ true → none_pass p (drop n xs) ≡ true
none_last p xs n h = (none_both p (take n xs) (drop n xs) (ap (none_pass p) (take-append-drop n xs) ∙ h)).1

none_fewer : (p : ModuleField → Bool) (xs : List ModuleField) (m n : ℕ) → m ≤ n → none_pass p (take n xs) ≡ true → none_pass p (take m xs) ≡ true
none_fewer p xs m n le h = ap (none_pass p) (sym (take-take m n xs le)) ∙ none_first p (take n xs) m h

none_later : (p : ModuleField → Bool) (xs : List ModuleField) (m n : ℕ) → m ≤ n → none_pass p (drop m xs) ≡ true → none_pass p (drop n xs) ≡ true
none_later p xs m n le h =
    let sum : m + (n - m) ≡ n = omega arith in
    ap (λ i. none_pass p (drop i xs)) (sym sum) ∙ (ap (none_pass p) (sym (drop-drop (n - m) m xs)) ∙ none_last p (drop m xs) (n - m) h)

none_either : (p q : ModuleField → Bool) (xs : List ModuleField) → none_pass p xs ≡ true → none_pass q xs ≡ true → none_pass (λ f. p f || q f) xs ≡ true
none_either p q [] h k = refl
none_either p q (x ∷ xs) h k =
    let first = both_pass (not (p x)) (none_pass p xs) h in
    let other = both_pass (not (q x)) (none_pass q xs) k in
    both_true (not (p x || q x)) (none_pass (λ f. p f || q f) xs) (by_test (p x) (q x) first.0 other.0) (none_either p q xs first.1 other.1)
  where
    by_test : (a b : Bool) → not a ≡ true → not b ≡ true → not (a || b) ≡ true
    by_test true b h k = h
    by_test false b h k = k

-- ---- one more field

-- A field of another kind does not change the range.
pub passed_over : (p : ModuleField → Bool) (xs : List ModuleField) (x : ModuleField) (r : FieldRange) → p x ≡ false → is_reach p xs r ≡ true
    → is_reach p (xs ++ x ∷ []) r ≡ true
passed_over p xs x r other h =
    let it = reach_parts p xs r h in
    let first : r.first ≤ length xs = omega (arith, it.ordered, it.inside) in
    reach_whole p (xs ++ x ∷ []) r record {
      ordered = it.ordered;
      inside = omega (arith, it.inside, length-append xs (x ∷ []));
      before = ap (none_pass p) (take-append-le r.first xs (x ∷ []) first) ∙ it.before;
      behind = ap (none_pass p) (drop-append-le r.end xs (x ∷ []) it.inside) ∙ none_joined p (drop r.end xs) (x ∷ []) it.behind (ap (λ b. not b && true) other);
    }

-- ---- two ranges

-- If the end is 0, no field passes.
none_at_all : (p : ModuleField → Bool) (fields : List ModuleField) (r : FieldRange) → IsReach p fields r → r.end ≡ 0 → none_pass p fields ≡ true
none_at_all p fields r h zero = ap (λ i. none_pass p (drop i fields)) (sym zero) ∙ h.behind

pub first_alone : (p q : ModuleField → Bool) (fields : List ModuleField) (r o : FieldRange) → o.end ≡ 0 → is_reach p fields r ≡ true
    → is_reach q fields o ≡ true → is_reach (λ f. p f || q f) fields r ≡ true
first_alone p q fields r o zero h k =
    let it = reach_parts p fields r h in
    let none = none_at_all q fields o (reach_parts q fields o k) zero in
    reach_whole (λ f. p f || q f) fields r record {
      ordered = it.ordered;
      inside = it.inside;
      before = none_either p q (take r.first fields) it.before (none_first q fields r.first none);
      behind = none_either p q (drop r.end fields) it.behind (none_last q fields r.end none);
    }

pub other_alone : (p q : ModuleField → Bool) (fields : List ModuleField) (r o : FieldRange) → r.end ≡ 0 → is_reach p fields r ≡ true
    → is_reach q fields o ≡ true → is_reach (λ f. p f || q f) fields o ≡ true
other_alone p q fields r o zero h k =
    let it = reach_parts q fields o k in
    let none = none_at_all p fields r (reach_parts p fields r h) zero in
    reach_whole (λ f. p f || q f) fields o record {
      ordered = it.ordered;
      inside = it.inside;
      before = none_either p q (take o.first fields) (none_first p fields o.first none) it.before;
      behind = none_either p q (drop o.end fields) (none_last p fields o.end none) it.behind;
    }

pub both_within : (p q : ModuleField → Bool) (fields : List ModuleField) (r o : FieldRange) (first end : ℕ) → first ≤ r.first → first ≤ o.first
    → r.end ≤ end → o.end ≤ end → end ≤ length fields
    → is_reach p fields r ≡ true → is_reach q fields o ≡ true → is_reach (λ f. p f || q f) fields (record { first = first; end = end }) ≡ true
both_within p q fields r o first end a b c d e h k =
    let it = reach_parts p fields r h in
    let other = reach_parts q fields o k in
    reach_whole (λ f. p f || q f) fields (record { first = first; end = end }) record {
      ordered = omega (arith, it.ordered);
      inside = e;
      before = none_either p q (take first fields) (none_fewer p fields first r.first a it.before) (none_fewer q fields first o.first b other.before);
      behind = none_either p q (drop end fields) (none_later p fields r.end end c it.behind) (none_later q fields o.end end d other.behind);
    }

-- ---- the items of fields in a range

none_give : {A : Type 0} (g : ModuleField → List A) (p : ModuleField → Bool) (xs : List ModuleField) → ((f : ModuleField) → p f ≡ false → g f ≡ [])
    → none_pass p xs ≡ true → flat_map g xs ≡ []
none_give g p [] elsewhere h = refl
none_give g p (x ∷ xs) elsewhere h =
    let both = both_pass (not (p x)) (none_pass p xs) h in
    ap (λ ys. ys ++ flat_map g xs) (elsewhere x (is_false (p x) both.0)) ∙ none_give g p xs elsewhere both.1
  where
    is_false : (b : Bool) → not b ≡ true → b ≡ false
    is_false true h = cc
    is_false false h = refl

-- The list in three parts.
in_three : (fields : List ModuleField) (r : FieldRange) → r.first ≤ r.end → fields ≡ take r.first fields ++ (fields_in r fields ++ drop r.end fields)
in_three fields r le = sym (take-append-drop r.first fields) ∙ ap (λ xs. take r.first fields ++ xs) (drop_split fields r.first r.end le)

-- If only fields that pass a test have items, the fields in their range have all items.
pub all_there : {A : Type 0} (g : ModuleField → List A) (p : ModuleField → Bool) (fields : List ModuleField) (r : FieldRange)
    → ((f : ModuleField) → p f ≡ false → g f ≡ []) → is_reach p fields r ≡ true → flat_map g (fields_in r fields) ≡ flat_map g fields
all_there g p fields r elsewhere h =
    let it = reach_parts p fields r h in
    let first = take r.first fields in
    let middle = fields_in r fields in
    let last = drop r.end fields in
    sym (
    ap (flat_map g) (in_three fields r it.ordered)
    ∙ (flat_map-append g first (middle ++ last)
    ∙ (ap (λ ys. ys ++ flat_map g (middle ++ last)) (none_give g p first elsewhere it.before)
    ∙ (flat_map-append g middle last
    ∙ (ap (λ ys. flat_map g middle ++ ys) (none_give g p last elsewhere it.behind) ∙ append-nil (flat_map g middle)))))
    )

-- A test that each field passes is passed by each field in the range.
pub all_pass_there : (t : ModuleField → Bool) (fields : List ModuleField) (r : FieldRange) → is_inside fields r ≡ true → list_all t fields ≡ true
    → list_all t (fields_in r fields) ≡ true
all_pass_there t fields r h all =
    let within = both_pass (nat_le r.first r.end) (nat_le r.end (length fields)) h in
    let whole = ap (list_all t) (sym (in_three fields r (leb-true r.first r.end within.0))) ∙ all in
    let rest = both_pass (list_all t (take r.first fields)) _
    (sym (list_all-append t (take r.first fields) (fields_in r fields ++ drop r.end fields)) ∙ whole) in
    (both_pass (list_all t (fields_in r fields)) _ (sym (list_all-append t (fields_in r fields) (drop r.end fields)) ∙ rest.1)).0
