-- If the checks of items pass, no two fields of a struct have the same id. The number of fields is the same for items.
use Rattle.std.proofs.Common.{◌≡◌, ℕ, ◌≤◌, ◌^◌, ◌⊎◌, inl, inr, List, [], ◌∷◌, ◌++◌, None, length, map, get_or, drop, take, refl, sym, ap, ◌∙◌, arith, subst}
use Rattle.std.specs.Prelude.{⊤, ◌+◌, ◌<◌, Contains}
use Rattle.std.specs.List.{flat_map}
use Rattle.std.proofs.Common.{append_assoc}
use Rattle.std.proofs.lemmas.List.{drop_more, take-append-drop}
use Rattle.wast_base.specs.Faults.{Diagnostic, At, Nowhere, Memory, TooLarge, diagnostic_of}
use Rattle.wast_base.specs.declared.faults.Error.{Error}
use Rattle.std.proofs.lemmas.Grind.{flat_map-append}
use Rattle.std.proofs.lemmas.List.{map-append}
use Rattle.std.proofs.lemmas.List.Elements.{Contains-append_cases}
use Rattle.wast_tree_nodes.specs.Items.{Item, items_of_type, items_in, items}
use Rattle.wast_resolve_spaces.specs.Tree.{ModuleField}
use Rattle.wast_resolve_names.specs.Gathers.{Stops}
use Rattle.wast_resolve_spaces.specs.Tree.ty
use Rattle.wast_resolve_spaces.specs.Tree.field
use Rattle.wast_resolve_rules.specs.Demands.{Demand, first_unmet, own_demand, field_demands, item_demand, item_demands, each_after}
use Rattle.wast_resolve_rules.specs.Demands.{field_counts, HasMany, Answers}
use Rattle.wast_resolve_spaces.specs.Shaping.{type_demands, types_demands, type_fields, types_fields, IsRefused}
use Rattle.wast_resolve_rules.proofs.Counted.{many_one, many_left, many_right}
use Rattle.wast_resolve_rules.proofs.Unmet.{met_parts, first_unmet-append, answers_more}

-- the checks of the fields of items
abbrev of_items : List Item → List Demand
of_items xs = flat_map (λ x. field_demands x.fields) xs

items_met : (before xs : List Item) → first_unmet (each_after item_demand before xs) ≡ None → first_unmet (of_items xs) ≡ None
items_met before [] h = refl
items_met before (x ∷ xs) h =
    let parts = met_parts (item_demand before x) (each_after item_demand (before ++ x ∷ []) xs) h in
    let own = met_parts (own_demand before x) (field_demands x.fields) parts.0 in
    first_unmet-append (field_demands x.fields) (of_items xs) own.1 ∙ items_met (before ++ x ∷ []) xs parts.1

group_demands : (ts : List ty.«Type») → of_items (flat_map items_of_type ts) ≡ flat_map type_demands ts
group_demands [] = refl
group_demands (t ∷ ts) = ap (λ ds. type_demands t ++ ds) (group_demands ts)

field_met : (x : ModuleField) → first_unmet (of_items (items_in x)) ≡ None → first_unmet (types_demands x) ≡ None
field_met (field.Ty t) h = h
field_met (field.Rec r) h = ap first_unmet (sym (group_demands r.types)) ∙ h
field_met x h = refl

fields_met : (xs : List ModuleField) → first_unmet (of_items (items xs)) ≡ None → first_unmet (flat_map types_demands xs) ≡ None
fields_met [] h = refl
fields_met (x ∷ xs) h =
    let parts = met_parts (of_items (items_in x)) (of_items (items xs))
    (ap first_unmet (sym (flat_map-append (λ (y : Item). field_demands y.fields) (items_in x) (items xs))) ∙ h) in
    first_unmet-append (types_demands x) (flat_map types_demands xs) (field_met x parts.0) ∙ fields_met xs parts.1

pub types_met : (xs : List ModuleField) → first_unmet (item_demands (items xs)) ≡ None → first_unmet (flat_map types_demands xs) ≡ None
types_met xs h = fields_met xs (items_met [] (items xs) h)

group_fields : (ts : List ty.«Type») → field_counts (flat_map items_of_type ts) ≡ map type_fields ts
group_fields [] = refl
group_fields (t ∷ ts) = ap (λ ns. type_fields t ∷ ns) (group_fields ts)

none_many : HasMany [] → ⊥
none_many (n, ((i, lt, is), le)) = absurd (omega (arith, lt))

field_many : (x : ModuleField) → HasMany (types_fields x) → HasMany (field_counts (items_in x))
field_many (field.Ty t) h = h
field_many (field.Rec r) h = subst HasMany (sym (group_fields r.types)) h
field_many x h = absurd (none_many h)

pub types_many : (xs : List ModuleField) → HasMany (flat_map types_fields xs) → HasMany (field_counts (items xs))
types_many [] h = h
types_many (x ∷ xs) h =
    subst HasMany (sym (map-append (λ (y : Item). length y.fields) (items_in x) (items xs)))
    (either (λ c. types_many xs (h.0, (c, h.1.1))) (Contains-append_cases (types_fields x) (flat_map types_fields xs) h.0 h.1.0))
  where
    either : (Contains (flat_map types_fields xs) h.0 → HasMany (field_counts (items xs)))
        → Contains (types_fields x) h.0 ⊎ Contains (flat_map types_fields xs) h.0 → HasMany (field_counts (items_in x) ++ field_counts (items xs))
    either later (inl c) = many_left (field_counts (items_in x)) (field_counts (items xs)) (field_many x (h.0, (c, h.1.1)))
    either later (inr c) = many_right (field_counts (items_in x)) (field_counts (items xs)) (later c)

-- one element of a list, and those after it
module _ {T : Type 0} (xs : List T) (i : ℕ) (x : T) (lt : i < length xs) (at : x ≡ get_or xs i x) where
  from_here : drop i xs ≡ x ∷ drop (i + 1) xs
  from_here = drop_more xs i x lt ∙ ap (λ y. y ∷ drop (i + 1) xs) (sym at)

  -- if the checks of the remaining elements pass, so do those of the first, and of the others
  pub next_met : (f : T → List Demand) → first_unmet (flat_map f (drop i xs)) ≡ None
      → (first_unmet (f x) ≡ None) × (first_unmet (flat_map f (drop (i + 1) xs)) ≡ None)
  next_met f h = met_parts (f x) (flat_map f (drop (i + 1) xs)) (ap (λ ys. first_unmet (flat_map f ys)) (sym from_here) ∙ h)

  -- what is read of the element comes after what was read before
  pub next_read : {B : Type 0} (f : T → List B) (new old all : List B) → new ≡ old ++ f x → old ++ flat_map f (drop i xs) ≡ all
      → new ++ flat_map f (drop (i + 1) xs) ≡ all
  next_read f new old all is h =
      let rest = flat_map f (drop (i + 1) xs) in
      ap (λ ys. ys ++ rest) is ∙ (append_assoc old (f x) rest ∙ (ap (λ ys. old ++ flat_map f ys) (sym from_here) ∙ h))

  pub next_one : {B : Type 0} (f : T → B) (new old all : List B) → new ≡ old ++ f x ∷ [] → old ++ map f (drop i xs) ≡ all → new ++ map f (drop (i + 1) xs) ≡ all
  next_one f new old all is h =
      let rest = map f (drop (i + 1) xs) in
      ap (λ ys. ys ++ rest) is ∙ (append_assoc old (f x ∷ []) rest ∙ (ap (λ ys. old ++ map f ys) (sym from_here) ∙ h))

  -- a size of the element is a size in the list
  around : xs ≡ take i xs ++ x ∷ drop (i + 1) xs
  around = sym (take-append-drop i xs) ∙ ap (λ ys. take i xs ++ ys) from_here

  pub many_next : (f : T → List ℕ) → HasMany (f x) → HasMany (flat_map f xs)
  many_next f h =
      let rest = drop (i + 1) xs in
      subst HasMany (sym (ap (flat_map f) around ∙ flat_map-append f (take i xs) (x ∷ rest)))
      (many_right (flat_map f (take i xs)) (f x ++ flat_map f rest) (many_left (f x) (flat_map f rest) h))

  pub many_here : (f : T → ℕ) → 2 ^ 32 ≤ f x → HasMany (map f xs)
  many_here f le =
      let rest = drop (i + 1) xs in
      subst HasMany (sym (ap (map f) around ∙ map-append f (take i xs) (x ∷ rest)))
      (many_right (map f (take i xs)) (f x ∷ map f rest) (many_left (f x ∷ []) (map f rest) (many_one (f x) le)))

-- more errors are permitted
pub refused_more : {M N : Type 0} (e : Error) → (M → N) → IsRefused M e → IsRefused N e
refused_more e f h = answers_more (diagnostic_of e) None None (λ l. l) f (λ g k. k) h

-- the error of collecting, as an error of the call
pub stops_refused : (t : Diagnostic) (b n m : ℕ) → n ≡ m → Stops t b n → Answers ⊤ (2 ^ 32 ≤ m) t None
stops_refused (Nowhere Memory) b n m is h = tt
stops_refused (Nowhere TooLarge) b n m is h = subst (λ k. 2 ^ 32 ≤ k) is h
stops_refused (Nowhere fault) b n m is h = absurd h
stops_refused (At fault place) b n m is h = absurd h
