-- Lists of names inside items, as they are found, counted and written.
use Rattle.std.proofs.Common.{◌≡◌, ◌<◌, ◌≤◌, ◌+◌, ℕ, zero, suc, List, [], ◌∷◌, ◌++◌, length, Option, Some, None, refl, sym, ap, ◌∙◌, subst}
use Rattle.std.proofs.Common.{arith, length-append, map, take, get_or, inl, inr}
use Rattle.std.specs.Prelude.{nat_lt, true, false, ◌||◌, slice_get, option_map}
use Rattle.std.proofs.lemmas.Bool.{ltb-false, lt-ltb, le-ltb, cases_lt}
use Rattle.std.proofs.lemmas.List.{length-map, take_all}
use Rattle.std.specs.List.{flat_map}
use Rattle.std.proofs.lemmas.List.Concat.{flat_map_single, get_or-flat_map}
use Rattle.std.proofs.lemmas.List.Folds.{length-flat_map-take}
use Rattle.std.proofs.lemmas.Option.{slice_get-get_or, slice_get_past}
use Rattle.wast_core_name_section.specs.GivenNames.{named_from}
use Rattle.wast_core_name_section.specs.FoundNames.{saturated_count}
use Rattle.wast_core_name_section.specs.WithinItems.{where_named, unnamed_list, params_then_locals, param_name, local_name}
use Rattle.wast_core_name_section.specs.Tree.{Id, NameAnnotation, ValType, Local}
use Rattle.wast_core_name_section.proofs.NameEntries.{named_append, as_many, none_named}

-- Names, each on its own.
pub each_named : {A : Type 0} (n : ℕ) (f : A → Option (List ℕ)) (xs : List A) → named_from n (flat_map (λ x. f x ∷ []) xs) ≡ named_from n (map f xs)
each_named n f xs = ap (named_from n) (flat_map_single f xs)

-- Two lists, as they are counted.
pub both_counted : {A : Type 0} (xs ys : List (Option A)) (first m n : ℕ) → m ≡ saturated_count (length (named_from 0 xs))
    → n ≡ saturated_count (length (named_from 0 ys)) → saturated_count (m + n) ≡ saturated_count (length (named_from 0 xs ++ named_from first ys))
both_counted xs ys first m n is also = omega (arith, length-append (named_from 0 xs) (named_from first ys), as_many 0 first ys)

-- A list that has names.
pub is_named : (es : List (ℕ × List ℕ)) → nat_lt 0 (length es) ≡ true → where_named es ≡ Some es
is_named [] some = absurd cc
is_named (e ∷ es) some = refl

-- A list that has none.
pub not_named : (es : List (ℕ × List ℕ)) → nat_lt 0 (length es) ≡ false → where_named es ≡ None
not_named [] none = refl
not_named (e ∷ es) none = absurd (omega (arith, ltb-false 0 (length (e ∷ es)) none))

-- Things without names have no entry.
pub behind_nameless : (n k : ℕ) (names : List (Option (List ℕ))) → named_from k (unnamed_list n ++ names) ≡ named_from (k + n) names
behind_nameless zero k names = ap (λ m. named_from m names) (omega arith)
behind_nameless (suc n) k names = behind_nameless n (k + 1) names ∙ ap (λ m. named_from m names) (omega arith)

-- Parameters and then locals.
pub params_then : (params : List (Option Id × Option NameAnnotation × ValType)) (locals : List Local)
    → named_from 0 (flat_map (λ p. param_name p ∷ []) params) ++ named_from (length params) (flat_map (λ l. local_name l ∷ []) locals) ≡ named_from 0
    (map param_name params ++ map local_name locals)
params_then params locals =
    ap (λ z. z ++ named_from (length params) (flat_map (λ l. local_name l ∷ []) locals)) (each_named 0 param_name params)
    ∙ ap (λ z. named_from 0 (map param_name params) ++ z) (each_named (length params) local_name locals)
    ∙ ap (λ n. named_from 0 (map param_name params) ++ named_from n (map local_name locals)) (sym (length-map params param_name))
    ∙ ap (λ n. named_from 0 (map param_name params) ++ named_from n (map local_name locals)) (omega arith)
    ∙ sym (named_append 0 (map param_name params) (map local_name locals))

-- Locals after as many parameters without names as a type has, if there is one.
pub nameless_then : (n : ℕ) (locals : List Local)
    → named_from n (flat_map (λ l. local_name l ∷ []) locals) ≡ named_from 0 (params_then_locals (Some (unnamed_list n)) (map local_name locals))
nameless_then n locals = each_named n local_name locals
    ∙ sym (behind_nameless n 0 (map local_name locals) ∙ ap (λ k. named_from k (map local_name locals)) (omega arith))

pub nothing_named : (arity : Option ℕ) (locals : List Local) → false ≡ nat_lt 0 (length (named_from 0 (flat_map (λ l. local_name l ∷ []) locals)))
    → [] ≡ named_from 0 (params_then_locals (option_map unnamed_list arity) (map local_name locals))
nothing_named None locals never = refl
nothing_named (Some n) locals never =
    let few = ltb-false 0 (length (named_from 0 (flat_map (λ l. local_name l ∷ []) locals))) (sym never) in
    sym (none_named 0 n (flat_map (λ l. local_name l ∷ []) locals) 0 (omega arith) refl) ∙ nameless_then n locals

pub either_named : (xs ys : List (Option (List ℕ))) (first : ℕ)
    → (nat_lt 0 (length (named_from 0 xs)) || nat_lt 0 (length (named_from 0 ys))) ≡ nat_lt 0 (length (named_from 0 xs ++ named_from first ys))
either_named xs ys first =
    let a = length (named_from 0 xs) in
    let b = length (named_from 0 ys) in
    let whole = named_from 0 xs ++ named_from first ys in
    elim (cases_lt 0 a) [
      | inl some ↦ ap (λ t. t || nat_lt 0 b) (lt-ltb 0 a some)
          ∙ sym (lt-ltb 0 (length whole) (omega (arith, length-append (named_from 0 xs) (named_from first ys))))
      | inr none ↦ ap (λ t. t || nat_lt 0 b) (le-ltb 0 a none)
          ∙ ap (nat_lt 0) (omega (arith, length-append (named_from 0 xs) (named_from first ys), as_many 0 first ys))
    ]

-- A part of a list, after the parts before it.
pub found_in : {A B : Type 0} (f : A → List B) (xs : List A) (i j : ℕ) (x : A) (part : List B) (d : B) → i < length xs → x ≡ get_or xs i x
    → part ≡ f x → j < length part
    → slice_get (flat_map f xs) (length (flat_map f (take i xs)) + j) ≡ Some (get_or part j d)
found_in f xs i j x part d lt item is within =
    let here : f (get_or xs i x) ≡ part = ap f (sym item) ∙ sym is in
    let inside : j < length (f (get_or xs i x)) = subst (λ p. j < length p) (sym here) within in
    slice_get-get_or (flat_map f xs) (length (flat_map f (take i xs)) + j) d (omega (arith, length-flat_map-take f xs i x lt))
    ∙ ap Some (get_or-flat_map f xs i j x d lt inside ∙ ap (λ p. get_or p j d) here)

-- The same for any element that is read.
pub found_at : {A B : Type 0} (f : A → List B) (xs : List A) (i j : ℕ) (x : A) → i < length xs → x ≡ get_or xs i x → j < length (f x)
    → slice_get (flat_map f xs) (length (flat_map f (take i xs)) + j) ≡ slice_get (f x) j
found_at {B = B} f xs i j x lt item within = by_first (f x) refl within
  where
    by_first : (part : List B) → part ≡ f x → j < length part → slice_get (flat_map f xs) (length (flat_map f (take i xs)) + j) ≡ slice_get part j
    by_first [] is inside = absurd (omega arith)
    by_first (d ∷ ds) is inside = found_in f xs i j x (d ∷ ds) d lt item is inside ∙ sym (slice_get-get_or (d ∷ ds) j d inside)

-- Nothing comes after the last part.
pub found_past : {A B : Type 0} (f : A → List B) (xs : List A) (i j k : ℕ) → length xs ≤ i → length (flat_map f (take i xs)) + j ≡ k
    → slice_get (flat_map f xs) k ≡ None
found_past f xs i j k past is = slice_get_past (flat_map f xs) k (omega (arith, is, ap (λ ys. length (flat_map f ys)) (take_all i xs past)))
