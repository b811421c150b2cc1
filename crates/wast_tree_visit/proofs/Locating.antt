-- Lemmas: the results of a visitor that keeps the last position.
use Rattle.std.proofs.Common.{◌≡◌, Option, List, [], ◌∷◌, ◌++◌, flat_map, refl, sym, ap, ◌∙◌}
use Rattle.std.specs.Prelude.{map, option_map}
use Rattle.std.proofs.lemmas.Grind.{flat_map-append}
use Rattle.std.proofs.lemmas.List.{map-append}
use Rattle.wast_tree_visit.specs.Tree.{Span, Form}
use Rattle.wast_tree_visit.specs.declared.uncovered_places.Uncovered.{Uncovered}
use Rattle.wast_tree_nodes.specs.Sites.{Check}
use Rattle.wast_tree_nodes.specs.Uncovered.{head_of, first_of, uncovered_in}
use Rattle.wast_tree_visit.specs.FirstUncovered.{uncovered_at}
use Rattle.wast_tree_visit.specs.IllFormed.{place_or_last, found_from}
use Rattle.wast_tree_visit.specs.Visits.{TellsEach, Visits}
use Rattle.wast_tree_visit.proofs.Telling.{first_behind, first_nothing}

module _ {V F : Type 0} (found_at : Span → Check → List F) (place : V → Span) (of : V → Option F) where
  abbrev finds : V → Check → V → Type 0
  finds old x new = (place new ≡ place_or_last (place old) x) × (of new ≡ first_of (of old) (found_at (place_or_last (place old) x) x))

  each_located : (a b : V) (xs : List Check) → TellsEach finds a xs b → of b ≡ first_of (of a) (found_from found_at (place a) xs)
  each_located a b [] h = ap of h ∙ sym (first_nothing (of a))
  each_located a b (x ∷ xs) h =
      let here = place_or_last (place a) x in
      each_located h.0 b xs h.1.1
      ∙ (ap (λ c. first_of (of h.0) (found_from found_at c xs)) h.1.0.0
      ∙ (ap (λ c. first_of c (found_from found_at here xs)) h.1.0.1 ∙ first_behind (of a) (found_at here x) (found_from found_at here xs)))

  pub located : {a b : V} {xs : List Check} → Visits finds a xs b → of b ≡ first_of (of a) (found_from found_at (place a) xs)
  located {a} {b} {xs} h = each_located a b xs h.tells

-- the forms that are found with positions are those that are found without
abbrev form_in : Uncovered → Form
form_in u = u.form

form_alone : (place : Span) (fs : List Form) → map form_in (map (λ f. record { form = f; span = place }) fs) ≡ fs
form_alone place [] = refl
form_alone place (f ∷ fs) = ap (λ gs. f ∷ gs) (form_alone place fs)

forms_from : (before : Span) (asks : List Check) → map form_in (found_from uncovered_at before asks) ≡ flat_map uncovered_in asks
forms_from before [] = refl
forms_from before (a ∷ asks) =
    let here = place_or_last before a in
    map-append form_in (uncovered_at here a) (found_from uncovered_at here asks)
    ∙ (ap (λ fs. fs ++ map form_in (found_from uncovered_at here asks)) (form_alone here (uncovered_in a))
    ∙ ap (λ fs. uncovered_in a ++ fs) (forms_from here asks))

forms_in : {T : Type 0} (place : T → Span) (asks : T → List Check) (xs : List T)
    → map form_in (flat_map (λ x. found_from uncovered_at (place x) (asks x)) xs) ≡ flat_map uncovered_in (flat_map asks xs)
forms_in place asks [] = refl
forms_in place asks (x ∷ xs) =
    let here = found_from uncovered_at (place x) (asks x) in
    let behind = flat_map (λ y. found_from uncovered_at (place y) (asks y)) xs in
    map-append form_in here behind
    ∙ (ap (λ fs. fs ++ map form_in behind) (forms_from (place x) (asks x))
    ∙ (ap (λ fs. flat_map uncovered_in (asks x) ++ fs) (forms_in place asks xs) ∙ sym (flat_map-append uncovered_in (asks x) (flat_map asks xs))))

first_mapped : {A B : Type 0} (f : A → B) (xs : List A) → option_map f (head_of xs) ≡ head_of (map f xs)
first_mapped f [] = refl
first_mapped f (x ∷ xs) = refl

pub first_form_in : {T : Type 0} (place : T → Span) (asks : T → List Check) (xs : List T)
    → option_map form_in (head_of (flat_map (λ x. found_from uncovered_at (place x) (asks x)) xs)) ≡ head_of (flat_map uncovered_in (flat_map asks xs))
first_form_in place asks xs = first_mapped form_in (flat_map (λ x. found_from uncovered_at (place x) (asks x)) xs) ∙ ap head_of (forms_in place asks xs)
