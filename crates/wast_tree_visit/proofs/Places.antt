-- Lemmas: the items before and after a position, one step forward and one step back.
use Rattle.std.proofs.Common.{◌≡◌, ℕ, Bool, ◌||◌, ◌+◌, ◌-◌, ◌≤◌, ◌<◌, length, take, drop, List, ◌++◌, sym, ap, ◌∙◌, arith}
use Rattle.std.specs.List.{list_any, flat_map}
use Rattle.std.proofs.Math.Bool.{or_comm}
use Rattle.std.proofs.Math.Seq.{take-add}
use Rattle.std.proofs.lemmas.Grind.{flat_map-append}
use Rattle.std.proofs.lemmas.List.{take-append-drop, drop-drop, append_assoc, append-nil, length-append, take_all, drop_all}
use Rattle.std.proofs.lemmas.List.Folds.{list_any-append}
use Rattle.wast_tree_visit.specs.declared.bearers.Place.{Place}
use Rattle.wast_tree_nodes.specs.Items.{Item}
use Rattle.wast_tree_visit.specs.Private.IdOwners.{items_at, items_behind, items_before, steps_on, steps_back}

-- one element of a list and those after it
drop_one : {A : Type 0} (xs : List A) (i : ℕ) → drop i xs ≡ take 1 (drop i xs) ++ drop (i + 1) xs
drop_one xs i = sym (take-append-drop 1 (drop i xs)) ∙ ap (λ ys. take 1 (drop i xs) ++ ys) (drop-drop 1 i xs)

module _ {T : Type 0} (items : T → List Item) (fields : List T) where
  abbrev at : ℕ → ℕ → Place
  at f i = record { field = f; item = i }

  -- the item after a position
  passed_on : (f i : ℕ) → items_behind items fields (at f i) ≡ take 1 (drop i (items_at items fields f)) ++ items_behind items fields (at f (i + 1))
  passed_on f i =
      let xs = items_at items fields f in let rest = flat_map items (drop (f + 1) fields) in
      ap (λ ys. ys ++ rest) (drop_one xs i) ∙ append_assoc (take 1 (drop i xs)) (drop (i + 1) xs) rest

  -- after the last item of a field
  next_field : (f i : ℕ) → length (items_at items fields f) ≤ i → items_behind items fields (at f i) ≡ items_behind items fields (at (f + 1) 0)
  next_field f i le =
      ap (λ ys. ys ++ flat_map items (drop (f + 1) fields)) (drop_all i (items_at items fields f) le)
      ∙ (ap (flat_map items) (drop_one fields (f + 1)) ∙ flat_map-append items (take 1 (drop (f + 1) fields)) (drop (f + 1 + 1) fields))

  -- the item before a position
  passed_back : (f i : ℕ) → items_before items fields (at f (i + 1)) ≡ items_before items fields (at f i) ++ take 1 (drop i (items_at items fields f))
  passed_back f i =
      let xs = items_at items fields f in let front = flat_map items (take f fields) in
      ap (λ ys. front ++ ys) (take-add i 1 xs) ∙ sym (append_assoc front (take i xs) (take 1 (drop i xs)))

  -- before the first item of a field
  pub field_before : (f i : ℕ) → length (items_at items fields f) ≤ i → items_before items fields (at (f + 1) 0) ≡ items_before items fields (at f i)
  field_before f i le =
      let xs = items_at items fields f in
      append-nil (flat_map items (take (f + 1) fields))
      ∙ (ap (flat_map items) (take-add f 1 fields) ∙ (flat_map-append items (take f fields) (take 1 (drop f fields))
      ∙ ap (λ ys. flat_map items (take f fields) ++ ys) (sym (take_all i xs le))))

  -- the items before a position and those after it are all items
  on_both_sides : (place : Place) → items_before items fields place ++ items_behind items fields place ≡ flat_map items fields
  on_both_sides place =
      let f = place.field in let i = place.item in let xs = items_at items fields f in
      let front = flat_map items (take f fields) in let rest = flat_map items (drop (f + 1) fields) in
      append_assoc front (take i xs) (drop i xs ++ rest)
      ∙ (ap (λ ys. front ++ ys) (sym (append_assoc (take i xs) (drop i xs) rest) ∙ ap (λ ys. ys ++ rest) (take-append-drop i xs))
      ∙ (ap (λ ys. front ++ ys) (sym (flat_map-append items (take 1 (drop f fields)) (drop (f + 1) fields)) ∙ ap (flat_map items) (sym (drop_one fields f)))
      ∙ (sym (flat_map-append items (take f fields) (drop f fields)) ∙ ap (flat_map items) (take-append-drop f fields))))

  module _ (p : Item → Bool) where
    -- a step past an item that is not the last, and past the last
    pub stepped_on : (f i : ℕ) (found : Bool) → found ≡ list_any p (take 1 (drop i (items_at items fields f)))
        → list_any p (items_behind items fields (at f i)) ≡ (found || list_any p (items_behind items fields (at f (i + 1))))
    stepped_on f i found e =
        ap (list_any p) (passed_on f i)
        ∙ (list_any-append p (take 1 (drop i (items_at items fields f))) (items_behind items fields (at f (i + 1)))
        ∙ ap (λ b. b || list_any p (items_behind items fields (at f (i + 1)))) (sym e))

    pub stepped_out : (f i : ℕ) (found : Bool) → length (items_at items fields f) ≤ i + 1 → found ≡ list_any p (take 1 (drop i (items_at items fields f)))
        → list_any p (items_behind items fields (at f i)) ≡ (found || list_any p (items_behind items fields (at (f + 1) 0)))
    stepped_out f i found le e = stepped_on f i found e ∙ ap (λ ys. found || list_any p ys) (next_field f (i + 1) le)

    -- a step back past an item, and to the field before
    pub stepped_back : (f i : ℕ) (found : Bool) → found ≡ list_any p (take 1 (drop i (items_at items fields f)))
        → list_any p (items_before items fields (at f (i + 1))) ≡ (found || list_any p (items_before items fields (at f i)))
    stepped_back f i found e =
        ap (list_any p) (passed_back f i)
        ∙ (list_any-append p (items_before items fields (at f i)) (take 1 (drop i (items_at items fields f)))
        ∙ (or_comm (list_any p (items_before items fields (at f i))) (list_any p (take 1 (drop i (items_at items fields f))))
        ∙ ap (λ b. b || list_any p (items_before items fields (at f i))) (sym e)))

    pub stepped_over : (f : ℕ) (found : Bool) → length (items_at items fields f) ≤ 1 → found ≡ list_any p (take 1 (drop 0 (items_at items fields f)))
        → list_any p (items_before items fields (at (f + 1) 0)) ≡ (found || list_any p (items_before items fields (at f 0)))
    stepped_over f found le e = ap (list_any p) (field_before f 1 le) ∙ stepped_back f 0 found e

    -- an item passes a test if one on either side does
    pub any_aside : (place : Place) → (list_any p (items_before items fields place) || list_any p (items_behind items fields place)) ≡ list_any p
        (flat_map items fields)
    any_aside place = sym (list_any-append p (items_before items fields place) (items_behind items fields place)) ∙ ap (list_any p) (on_both_sides place)

  -- each step comes closer to the end, or to the start
  pub nearer_on : (f i : ℕ) → f < length fields → length (items_at items fields f) ≤ i + 1
      → steps_on items fields (at (f + 1) 0) ≤ steps_on items fields (at f i) - 1
  nearer_on f i lt le =
      let e = ap length (passed_on f i) ∙ length-append (take 1 (drop i (items_at items fields f))) (items_behind items fields (at f (i + 1))) in
      let o = ap length (next_field f (i + 1) le) in
      omega (arith, e, o, lt)

  pub nearer_back : (f i : ℕ) → i ≤ length (items_at items fields f) → steps_back items fields (at f i) ≤ steps_back items fields (at (f + 1) 0) - 1
  nearer_back f i le =
      let e =
      ap length (ap (flat_map items) (take-add f 1 fields) ∙ flat_map-append items (take f fields) (take 1 (drop f fields)))
      ∙ length-append (flat_map items (take f fields)) (items_at items fields f)
      in
      omega (arith, e, le)
