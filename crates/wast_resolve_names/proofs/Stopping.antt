-- Errors while ids are collected, of a part and of the whole list.
use Rattle.std.proofs.Common.{◌≡◌, ℕ, suc, ◌<◌, ◌≤◌, List, [], ◌∷◌, ◌++◌, map, length, get_or, drop, length-append, length-drop, Option, sym, ap, ◌∙◌, arith}
use Rattle.std.proofs.Math.Seq.{drop-cons}
use Rattle.std.proofs.lemmas.List.{length-map}
use Rattle.wast_base.specs.Ids.{Name}
use Rattle.wast_base.specs.Faults.{Diagnostic}
use Rattle.wast_resolve_names.specs.Gathers.{Stops}

-- a part that begins earlier and ends later fails for the same reason
pub stops_more : (t : Diagnostic) (a b n m : ℕ) → b ≤ a → n ≤ m → Stops t a n → Stops t b m
stops_more t a b n m early late h = grind (arith)

-- the names of a list, at its item at i
pub stops_at : {T : Type 0} (f : T → Option Name) (t : Diagnostic) (a begun : List (Option Name)) (xs : List T) (i : ℕ) (x : T) (o : Option Name)
    → i < length xs → x ≡ get_or xs i x → o ≡ f x
    → a ++ map f (drop i xs) ≡ begun ++ map f xs → Stops t (length a) (length (a ++ o ∷ [])) → Stops t (length begun) (length (begun ++ map f xs))
stops_at f t a begun xs i x o lt is same whole h =
    let rest : map f (drop i xs) ≡ f x ∷ map f (drop (suc i) xs) = ap (map f) (drop-cons xs i x lt ∙ ap (λ y. y ∷ drop (suc i) xs) (sym is)) in
    let long = ap length (ap (λ ns. a ++ ns) (sym rest) ∙ whole) in
    let early : length begun ≤ length a =
    omega (
      arith,
      ap length whole,
      length-append a (map f (drop i xs)),
      length-append begun (map f xs),
      length-map
          (drop i xs) f,
      length-map xs f,
      length-drop i xs,
    ) in
    stops_more t (length a) (length begun) (length (a ++ o ∷ [])) (length (begun ++ map f xs)) early
    (omega (arith, long, length-append a (o ∷ []), length-append a (f x ∷ map f (drop (suc i) xs)))) h
