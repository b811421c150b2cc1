-- The items that are collected for each space, one after another.
use Rattle.std.proofs.Common.{◌≡◌, ◌≤◌, List, [], ◌∷◌, ◌++◌, refl, sym, ap, ◌∙◌, subst, append-nil, append_assoc, arith, length, length-append}
use Rattle.std.specs.Prelude.{Option, Result, Ok, Err}
use Rattle.wast_base.specs.declared.faults.Error.{Error}
use Rattle.wast_base.specs.Ids.{Name}
use Rattle.wast_base.specs.Faults.{diagnostic_of}
use Rattle.wast_tree_nodes.specs.Items.{Item}
use Rattle.wast_tree_nodes.specs.Known.{name_in, names_in}
use Rattle.wast_tree_visit.specs.Visits.{TellsEach, Visits}
use Rattle.wast_resolve_spaces.specs.Tree.{Space}
use Rattle.wast_resolve_names.specs.Gathers.{Gathers, GathersItem, gathered_of}
use Rattle.wast_resolve_names.proofs.Stopping.{stops_more}

gathers_none : (r : Result (List (Option Name)) Error) → Gathers r [] r
gathers_none (Ok names) = sym (append-nil names)
gathers_none (Err e) = refl

longer : (a b c : List (Option Name)) → length (a ++ b) ≤ length (a ++ (b ++ c))
longer a b c = omega (arith, length-append a b, length-append a (b ++ c), length-append b c)

pub gathers_both : (r s t : Result (List (Option Name)) Error) (xs ys : List (Option Name)) → Gathers r xs s → Gathers s ys t → Gathers r (xs ++ ys) t
gathers_both (Err e) (Err d) t xs ys h k = k ∙ h
gathers_both (Err e) (Ok s) t xs ys h k = cc
gathers_both (Ok r) (Ok s) (Ok t) xs ys h k = k ∙ (ap (λ z. z ++ ys) h ∙ append_assoc r xs ys)
gathers_both (Ok r) (Ok s) (Err e) xs ys h k =
    stops_more (diagnostic_of e) (length s) (length r) (length (s ++ ys)) (length (r ++ (xs ++ ys))) (omega (arith, ap length h, length-append r xs))
    (omega (arith, ap length (ap (λ z. z ++ ys) h ∙ append_assoc r xs ys))) k
gathers_both (Ok r) (Err e) (Ok t) xs ys h k = cc
gathers_both (Ok r) (Err e) (Err d) xs ys h k =
    subst (λ (z : Result (List (Option Name)) Error). Gathers (Ok r) (xs ++ ys) z) (sym k)
    (stops_more (diagnostic_of e) (length r) (length r) (length (r ++ xs)) (length (r ++ (xs ++ ys))) (omega arith) (longer r xs ys) h)

gathered_each : {V : Type 0} (slots : V → List (Result (List (Option Name)) Error)) (a b : V) (xs : List Item)
    → TellsEach (λ old x new. GathersItem (slots old) x (slots new)) a xs b → length (slots a) ≡ 8
    → (length (slots b) ≡ 8) × ((s : Space) → Gathers (gathered_of (slots a) s) (names_in s xs) (gathered_of (slots b) s))
gathered_each slots a b [] h is = (
  ap (λ v. length (slots v)) h ∙ is,
  λ s. subst (λ v. Gathers (gathered_of (slots a) s) [] (gathered_of (slots v) s)) (sym h)
      (gathers_none (gathered_of (slots a) s)),
)
gathered_each slots a b (x ∷ xs) h is =
    let one = h.1.0 in
    let rest = gathered_each slots h.0 b xs h.1.1 (one.slots ∙ is) in (
      rest.0,
      λ s. gathers_both (gathered_of (slots a) s) (gathered_of (slots h.0) s) (gathered_of (slots b) s) (name_in s x) (names_in s xs)
          (one.each is s) (rest.1 s),
    )

-- all that a visitor has collected, for each space
pub gathered_told : {V : Type 0} (slots : V → List (Result (List (Option Name)) Error)) {a b : V} {xs : List Item}
    → Visits (λ old x new. GathersItem (slots old) x (slots new)) a xs b → length (slots a) ≡ 8
    → (length (slots b) ≡ 8) × ((s : Space) → Gathers (gathered_of (slots a) s) (names_in s xs) (gathered_of (slots b) s))
gathered_told slots {a} {b} {xs} h is = gathered_each slots a b xs h.tells is
