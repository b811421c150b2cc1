-- Lemmas about the numbers of types before checkpoints.
use Rattle.std.proofs.Common.{◌≡◌, ◌<◌, ◌≤◌, ◌+◌, ◌-◌, ◌*◌, ℕ, List, [], ◌∷◌, ◌++◌, length, min, refl, sym, ap, ◌∙◌, arith, length-append}
use Rattle.std.proofs.Common.{length-drop, length-set, take, drop, get_or, set, take-append-drop, Some, Bool, true, false, ltb, inl, inr}
use Rattle.std.specs.Prelude.{slice_get}
use Rattle.std.specs.List.{flat_map}
use Rattle.std.proofs.lemmas.Grind.{flat_map-append}
use Rattle.std.proofs.lemmas.List.{get_or-set_same, get_or-set_other, get_or-append-add, take_all}
use Rattle.std.proofs.lemmas.Option.{slice_get-get_or, slice_get_past}
use Rattle.std.proofs.lemmas.Bool.{cases_eq, ltb-true, ltb-false}
use Rattle.wast_core_name_section.specs.Checkpoints.{AreCheckpoints}
use Rattle.wast_core_name_section.specs.declared.arities.Places.{Places}
use Rattle.wast_core_name_section.proofs.Each.{each_more}

-- The first numbers of a list are the numbers of types before checkpoints.
pub record IsFilled {A B : Type 0} (types : A → List B) (fields : List A) (first every count : ℕ) (room : List ℕ) : Type 0 where
  pub some : 0 < count
  pub within : count ≤ length room
  pub zero_first : get_or room 0 0 ≡ 0
  pub told : (k : ℕ) → k < count → (first + k * every ≤ length fields) × (get_or room k 0 ≡ length (flat_map types (take (first + k * every) fields)))

-- For the first checkpoint, with no types before it.
pub filled_first : {A B : Type 0} (types : A → List B) (fields : List A) (first every : ℕ) (room : List ℕ) → first ≤ length fields
    → flat_map types (take first fields) ≡ [] → 0 < length room → IsFilled types fields first every 1 (set room 0 0)
filled_first types fields first every room inside none some = record {
  some = omega arith;
  within = omega (arith, length-set room 0 0);
  zero_first = get_or-set_same room 0 0 0 some;
  told = λ k lt.
      let here : k ≡ 0 = omega (arith, lt) in
      let place : first ≡ first + k * every = omega (arith, ap (λ n. n * every) here) in (
        omega (arith, place, inside),
        ap (λ j. get_or (set room 0 0) j 0) here ∙ get_or-set_same room 0 0 0 some ∙ ap length (sym none)
            ∙ ap (λ n. length (flat_map types (take n fields))) place,
      );
}

-- For one checkpoint more.
pub filled_more : {A B : Type 0} (types : A → List B) (fields : List A) (first every count : ℕ) (room : List ℕ) (place sum : ℕ) → count < length room
    → place ≡ first + count * every → place ≤ length fields
    → sum ≡ length (flat_map types (take place fields)) → IsFilled types fields first every count room
    → IsFilled types fields first every (count + 1) (set room count sum)
filled_more types fields first every count room place sum small is inside right filled = record {
  some = omega arith;
  within = omega (arith, length-set room count sum);
  zero_first = get_or-set_other room count 0 sum 0 (λ e. omega (arith, filled.some)) ∙ filled.zero_first;
  told = λ k lt. elim (cases_eq k count) [
    | inl here ↦
        let now : get_or (set room count sum) k 0 ≡ sum = ap (λ j. get_or (set room count sum) j 0) here ∙ get_or-set_same room count sum 0 small in
        let there : place ≡ first + k * every = is ∙ ap (λ j. first + j * every) (sym here) in
        (omega (arith, there, inside), now ∙ right ∙ ap (λ n. length (flat_map types (take n fields))) there)
    | inr other ↦
        let stays : get_or (set room count sum) k 0 ≡ get_or room k 0 = get_or-set_other room count k sum 0 other in
        let was = filled.told k (omega (arith, lt, other)) in
        (was.0, stays ∙ was.1)
  ];
}

-- Fields without types add nothing to the count.
pub counted_all : {A B : Type 0} (types : A → List B) (fields : List A) (end sum : ℕ) → flat_map types (drop end fields) ≡ []
    → sum ≡ length (flat_map types (take end fields)) → sum ≡ length (flat_map types fields)
counted_all types fields end sum none is =
    let whole = ap (flat_map types) (sym (take-append-drop end fields)) ∙ flat_map-append types (take end fields) (drop end fields) in
    omega (arith, is, ap length whole, length-append (flat_map types (take end fields)) (flat_map types (drop end fields)), ap length none)

-- What the first numbers of the list say.
pub tells_filled : {A B : Type 0} (types : A → List B) (fields : List A) (room : List ℕ) (p : Places) → IsFilled types fields p.first p.every p.count room
    → (p.total < 18446744073709551615 → p.total ≡ length (flat_map types fields)) → AreCheckpoints types fields p room
tells_filled types fields room p filled all = record { some = filled.some; within = filled.within; first = filled.zero_first; told = filled.told; total = all }

-- If only the first checkpoint is counted, the numbers are right.
pub tells_first : {A B : Type 0} (types : A → List B) (fields : List A) (p : Places) (room : List ℕ) → p.first ≡ 0 → p.count ≡ 1
    → p.total ≡ 18446744073709551615 → 0 < length room → get_or room 0 0 ≡ 0 → AreCheckpoints types fields p room
tells_first types fields p room first count total some before = record {
  some = omega (arith, count);
  within = omega (arith, count, some);
  first = before;
  told = λ k lt.
      let here : k ≡ 0 = omega (arith, lt, count) in
      let place : 0 ≡ p.first + k * p.every = omega (arith, first, ap (λ n. n * p.every) here) in
      (omega (arith, place), ap (λ j. get_or room j 0) here ∙ before ∙ ap (λ n. length (flat_map types (take n fields))) place);
  total = λ h. absurd (omega (arith, total, h));
}

-- The same with one field more.
pub sum_more : {A B : Type 0} (types : A → List B) (fields : List A) (i sum count total : ℕ) (x : A) → i < length fields → x ≡ get_or fields i x
    → (sum < 18446744073709551615 → sum ≡ length (flat_map types (take i fields))) → (count < 18446744073709551615 → count ≡ length (types x))
    → total ≡ min (sum + count) 18446744073709551615
    → total < 18446744073709551615 → total ≡ length (flat_map types (take (i + 1) fields))
sum_more types fields i sum count total x lt item so_far here is few =
    let more = each_more types fields i x (types x) lt item refl in
    let before : sum ≡ length (flat_map types (take i fields)) = so_far (omega arith) in
    let own : count ≡ length (types x) = here (omega arith) in
    omega (arith, ap length more, length-append (flat_map types (take i fields)) (types x))

-- A type at an index is in the fields from a checkpoint on, at the index minus the types before it.
behind_front : {B : Type 0} (xs ys : List B) (n : ℕ) → slice_get (xs ++ ys) (length xs + n) ≡ slice_get ys n
behind_front xs [] n = slice_get_past (xs ++ []) (length xs + n) (omega (arith, length-append xs [])) ∙ sym (slice_get_past [] n (omega arith))
behind_front {B = B} xs (y ∷ ys) n = by_test (ltb n (length (y ∷ ys))) refl
  where
    by_test : (b : Bool) → ltb n (length (y ∷ ys)) ≡ b → slice_get (xs ++ (y ∷ ys)) (length xs + n) ≡ slice_get (y ∷ ys) n
    by_test true e =
        let inside : n < length (y ∷ ys) = ltb-true n (length (y ∷ ys)) e in
        slice_get-get_or (xs ++ (y ∷ ys)) (length xs + n) y (omega (arith, length-append xs (y ∷ ys))) ∙ ap Some (get_or-append-add xs (y ∷ ys) n y)
        ∙ sym (slice_get-get_or (y ∷ ys) n y inside)
    by_test false e =
        let past : length (y ∷ ys) ≤ n = ltb-false n (length (y ∷ ys)) e in
        slice_get_past (xs ++ (y ∷ ys)) (length xs + n) (omega (arith, length-append xs (y ∷ ys))) ∙ sym (slice_get_past (y ∷ ys) n past)

pub behind : {A B : Type 0} (types : A → List B) (fields : List A) (place before index : ℕ) → before ≡ length (flat_map types (take place fields))
    → before ≤ index
    → slice_get (flat_map types (drop place fields)) (index - before) ≡ slice_get (flat_map types fields) index
behind types fields place before index is below =
    let whole = ap (flat_map types) (sym (take-append-drop place fields)) ∙ flat_map-append types (take place fields) (drop place fields) in
    sym (ap (λ ts. slice_get ts index) whole
    ∙ (ap (slice_get (flat_map types (take place fields) ++ flat_map types (drop place fields))) (omega arith)
    ∙ behind_front (flat_map types (take place fields)) (flat_map types (drop place fields)) (index - before)))

-- What is cut off a list after a position.
pub from_place : {A : Type 0} (fields : List A) (place : ℕ) → take (length fields - place) (drop place fields) ≡ drop place fields
from_place fields place = take_all (length fields - place) (drop place fields) (omega (arith, length-drop place fields))
