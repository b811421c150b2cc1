-- Ids with their positions, as a builder adds them.
use Rattle.std.proofs.Common.{◌≡◌, ℕ, zero, suc, ◌+◌, ◌-◌, List, [], ◌∷◌, ◌++◌, length, Option, Some, None, refl, sym, ap, ◌∙◌, subst, arith}
use Rattle.wast_base.specs.declared.ids.Id.{Id}
use Rattle.wast_base.specs.Ids.{Name, name_of, mark_of_option}
use Rattle.wast_base.specs.Spaces.{name_if}
use Rattle.wast_base.specs.Order.{Key}
use Rattle.wast_resolve_namespace.specs.Places.{entry_of, entries_of}
use Rattle.wast_resolve_namespace.specs.Filling.{unnamed, names_from, ArePositions, keys_of, numbered_from}

-- items without a name
unnamed_more : (n : ℕ) → unnamed (suc n) [] ≡ unnamed n [] ++ None ∷ []
unnamed_more zero = refl
unnamed_more (suc n) = ap (λ (xs : List (Option Name)). None ∷ xs) (unnamed_more n)

unnamed_append : (n : ℕ) (xs ys : List (Option Name)) → unnamed n (xs ++ ys) ≡ unnamed n xs ++ ys
unnamed_append zero xs ys = refl
unnamed_append (suc n) xs ys = ap (λ (zs : List (Option Name)). None ∷ zs) (unnamed_append n xs ys)

unnamed_length : (n : ℕ) (xs : List (Option Name)) → length (unnamed n xs) ≡ n + length xs
unnamed_length zero xs = omega arith
unnamed_length (suc n) xs = omega (arith, unnamed_length n xs)

unnamed_keys : (n at : ℕ) (xs : List (Option Name)) → numbered_from at (keys_of (unnamed n xs)) ≡ numbered_from (n + at) (keys_of xs)
unnamed_keys zero at xs = ap (λ (m : ℕ). numbered_from m (keys_of xs)) (omega arith)
unnamed_keys (suc n) at xs = unnamed_keys n (suc at) xs ∙ ap (λ (m : ℕ). numbered_from m (keys_of xs)) (omega arith)

-- there are as many items as are counted
pub gathered_length : (at : ℕ) (es : List (Id × ℕ)) (count : ℕ) → ArePositions at es count → at + length (names_from at es count) ≡ count
gathered_length at [] count h = omega (arith, h, unnamed_length (count - at) [])
gathered_length at (e ∷ es) count h =
    omega (arith, h.0, unnamed_length (e.1 - at) (Some (name_of e.0) ∷ names_from (suc e.1) es count), gathered_length (suc e.1) es count h.1)

-- the ids are those of the items with a name, at their positions
pub gathered_entries : (at : ℕ) (es : List (Id × ℕ)) (count : ℕ) → ArePositions at es count
    → entries_of es ≡ numbered_from at (keys_of (names_from at es count))
gathered_entries at [] count h = sym (unnamed_keys (count - at) at [])
gathered_entries at (e ∷ es) count h =
    let here : (e.1 - at) + at ≡ e.1 = omega (arith, h.0) in
    let rest = Some (name_of e.0) ∷ names_from (suc e.1) es count in
    ap (λ (xs : List (Key × ℕ)). entry_of e ∷ xs) (gathered_entries (suc e.1) es count h.1)
    ∙ sym (unnamed_keys (e.1 - at) at rest ∙ ap (λ (m : ℕ). numbered_from m (keys_of rest)) here)

-- one more item
gather_unnamed : (at : ℕ) (es : List (Id × ℕ)) (count : ℕ) → ArePositions at es count → names_from at es (suc count) ≡ names_from at es count ++ None ∷ []
gather_unnamed at [] count h =
    let more : suc count - at ≡ suc (count - at) = omega (arith, h) in
    ap (λ (n : ℕ). unnamed n []) more ∙ unnamed_more (count - at)
gather_unnamed at (e ∷ es) count h =
    ap (λ (xs : List (Option Name)). unnamed (e.1 - at) (Some (name_of e.0) ∷ xs)) (gather_unnamed (suc e.1) es count h.1)
    ∙ unnamed_append (e.1 - at) (Some (name_of e.0) ∷ names_from (suc e.1) es count) (None ∷ [])

unnamed_positions : (at : ℕ) (es : List (Id × ℕ)) (count : ℕ) → ArePositions at es count → ArePositions at es (suc count)
unnamed_positions at [] count h = omega (arith, h)
unnamed_positions at (e ∷ es) count h = (h.0, unnamed_positions (suc e.1) es count h.1)

gather_named : (at : ℕ) (es : List (Id × ℕ)) (count : ℕ) (id : Id) → ArePositions at es count
    → names_from at (es ++ (id, count) ∷ []) (suc count) ≡ names_from at es count ++ Some (name_of id) ∷ []
gather_named at [] count id h =
    let none : suc count - suc count ≡ 0 = omega arith in
    ap (λ (n : ℕ). unnamed (count - at) (Some (name_of id) ∷ unnamed n [])) none ∙ unnamed_append (count - at) [] (Some (name_of id) ∷ [])
gather_named at (e ∷ es) count id h =
    ap (λ (xs : List (Option Name)). unnamed (e.1 - at) (Some (name_of e.0) ∷ xs)) (gather_named (suc e.1) es count id h.1)
    ∙ unnamed_append (e.1 - at) (Some (name_of e.0) ∷ names_from (suc e.1) es count) (Some (name_of id) ∷ [])

named_positions : (at : ℕ) (es : List (Id × ℕ)) (count : ℕ) (id : Id) → ArePositions at es count → ArePositions at (es ++ (id, count) ∷ []) (suc count)
named_positions at [] count id h = (h, omega arith)
named_positions at (e ∷ es) count id h = (h.0, named_positions (suc e.1) es count id h.1)

-- The items es with the count m are those of ds with the count n, and one more, with an id or without.
pub record IsOneMore (ds : List (Id × ℕ)) (n : ℕ) (id : Option Id) (es : List (Id × ℕ)) (m : ℕ) : Type 0 where
  pub positions : ArePositions 0 es m
  pub names : names_from 0 es m ≡ names_from 0 ds n ++ name_if (mark_of_option id) ∷ []

pub one_unnamed : (ds : List (Id × ℕ)) (n : ℕ) (id : Option Id) → id ≡ None → ArePositions 0 ds n → IsOneMore ds n id ds (n + 1)
one_unnamed ds n id is h =
    let next : suc n ≡ n + 1 = omega arith in
    subst (λ (m : ℕ). IsOneMore ds n id ds m) next record {
      positions = unnamed_positions 0 ds n h;
      names = gather_unnamed 0 ds n h ∙ ap (λ (o : Option Id). names_from 0 ds n ++ name_if (mark_of_option o) ∷ []) (sym is);
    }

pub one_named : (ds : List (Id × ℕ)) (n : ℕ) (id : Option Id) (x : Id) → id ≡ Some x → ArePositions 0 ds n → IsOneMore ds n id (ds ++ (x, n) ∷ []) (n + 1)
one_named ds n id x is h =
    let next : suc n ≡ n + 1 = omega arith in
    subst (λ (m : ℕ). IsOneMore ds n id (ds ++ (x, n) ∷ []) m) next record {
      positions = named_positions 0 ds n x h;
      names = gather_named 0 ds n x h ∙ ap (λ (o : Option Id). names_from 0 ds n ++ name_if (mark_of_option o) ∷ []) (sym is);
    }
