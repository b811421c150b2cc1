-- The items of the expanded fields are those of the fields and of the appended types, some with generated ids.
use Rattle.std.proofs.Common.{◌≡◌, ℕ, ◌+◌, ◌<◌, Bool, true, false, List, [], ◌∷◌, ◌++◌, map, append_assoc, length, Option, Some, None}
use Rattle.std.proofs.Common.{is_none, refl, sym, ap, ◌∙◌, arith}
use Rattle.std.specs.Prelude.{max}
use Rattle.std.specs.List.{flat_map}
use Rattle.std.proofs.lemmas.List.{map-append}
use Rattle.std.proofs.lemmas.Grind.{flat_map-append}
use Rattle.wast_base.specs.Ids.{Name, generation_of}
use Rattle.wast_base.specs.Spaces.{position_of}
use Rattle.wast_tree_nodes.specs.Items.{Item, field_ids, fields_of, item, items_in, items}
use Rattle.wast_tree_nodes.specs.Known.{names_in}
use Rattle.wast_tree_nodes.specs.Generations.{greatest_item}
use Rattle.wast_tree_map.proofs.Alone.{items_alone}
use Rattle.wast_expand_keys.specs.Signatures.{Signature}
use Rattle.wast_expand_keys.specs.ImpliedTypes.{implied_signatures}
use Rattle.wast_base.specs.Filling.{one_if, given_if, with_ids_from, missing_id_count}
use Rattle.wast_expand_keys.specs.Expanders.{LookUp}
use Rattle.wast_expand_keys.specs.Expanded.{lacks_id, with_type_id, start_of_text, unnamed_type, implied_types, fields_with_types}
use Rattle.wast_expand_keys.specs.Expanded.{found_for, binding_change, bound_field, expanded_fields, type_id_count}
use Rattle.wast_expand_keys.specs.Completed.{fields_with_implied_types}
use Rattle.wast_expand_types.proofs.Staying.{binding_keeps}
use Rattle.wast_resolve_laws.specs.Tree.{Id, Span, Space, StructField, ModuleField}
use Rattle.wast_resolve_laws.specs.Tree.space
use Rattle.wast_resolve_laws.specs.Tree.ty
use Rattle.wast_resolve_laws.specs.Tree.field
use Rattle.wast_resolve_rules.specs.Demands.{first_unmet, item_demands, item_counts}
use Rattle.wast_resolve_laws.proofs.Changes.{Change, Kept, Given, old_of, new_of, olds, news, old_kept, new_kept, changed_position}
use Rattle.wast_resolve_laws.proofs.Changes.{changed_clashes, changed_counts}

-- the changes of the items of a field, and of appended types
abbrev type_change : Bool → Option Id → Span → List StructField → Change
type_change true id p fields = Given space.Ty p (field_ids fields)
type_change false id p fields = Kept (item space.Ty id fields)

abbrev pub change_in : ModuleField → List Change
change_in (field.Ty t) = type_change (is_none t.id) t.id t.span (fields_of t.def.kind) ∷ []
change_in x = map Kept (items_in x)

abbrev pub implied_change : Signature → Change
implied_change s = Given space.Ty start_of_text []

abbrev pub changes : List ModuleField → List Change
changes fields = flat_map change_in fields ++ map implied_change (implied_signatures fields)

-- without ids
old_type : (id : Option Id) (p : Span) (fields : List StructField) → item space.Ty id fields ≡ old_of (type_change (is_none id) id p fields)
old_type None p fields = refl
old_type (Some id) p fields = refl

old_field : (x : ModuleField) → items_in x ≡ olds (change_in x)
old_field (field.Ty t) = ap (λ y. y ∷ []) (old_type t.id t.span (fields_of t.def.kind))
old_field x = old_kept (items_in x)

old_fields : (xs : List ModuleField) → items xs ≡ olds (flat_map change_in xs)
old_fields [] = refl
old_fields (x ∷ xs) = ap (λ ys. ys ++ items xs) (old_field x)
    ∙ (ap (λ ys. olds (change_in x) ++ ys) (old_fields xs) ∙ sym (map-append old_of (change_in x) (flat_map change_in xs)))

old_implied : (ss : List Signature) → items (map unnamed_type ss) ≡ olds (map implied_change ss)
old_implied [] = refl
old_implied (s ∷ ss) = ap (λ ys. old_of (implied_change s) ∷ ys) (old_implied ss)

pub old_items : (fields : List ModuleField) → items (fields_with_implied_types fields) ≡ olds (changes fields)
old_items fields =
    flat_map-append items_in fields (map unnamed_type (implied_signatures fields))
    ∙ (ap (λ ys. ys ++ items (map unnamed_type (implied_signatures fields))) (old_fields fields)
    ∙ (ap (λ ys. olds (flat_map change_in fields) ++ ys) (old_implied (implied_signatures fields))
    ∙ sym (map-append old_of (flat_map change_in fields) (map implied_change (implied_signatures fields)))))

-- with ids
new_implied : (n : ℕ) (ss : List Signature) → items (implied_types n ss) ≡ news n (map implied_change ss)
new_implied n [] = refl
new_implied n (s ∷ ss) = ap (λ ys. new_of n (implied_change s) ∷ ys) (new_implied (n + 1) ss)

add_zero : (n : ℕ) → n + 0 ≡ n
add_zero n = omega arith

add_add : (n a b : ℕ) → n + (a + b) ≡ (n + a) + b
add_add n a b = omega arith

new_fields : (n : ℕ) (xs : List ModuleField) (ss : List Signature)
    → items (with_ids_from lacks_id with_type_id n xs ++ implied_types (n + missing_id_count lacks_id xs) ss) ≡ news n
    (flat_map change_in xs ++ map implied_change ss)
new_fields n [] ss = ap (λ m. items (implied_types m ss)) (add_zero n) ∙ new_implied n ss
new_fields n (x ∷ xs) ss =
    let rest : ℕ → List Item = λ (m : ℕ). items (with_ids_from lacks_id with_type_id (n + one_if (lacks_id x)) xs ++ implied_types m ss) in
    ap (λ m. items_in (given_if (lacks_id x) with_type_id n x) ++ rest m) (add_add n (one_if (lacks_id x)) (missing_id_count lacks_id xs))
    ∙ (one x (rest ((n + one_if (lacks_id x)) + missing_id_count lacks_id xs)) (flat_map change_in xs ++ map implied_change ss)
    (new_fields (n + one_if (lacks_id x)) xs ss)
    ∙ ap (news n) (sym (append_assoc (change_in x) (flat_map change_in xs) (map implied_change ss))))
  where
    by_id : (b : Bool) (t : ty.«Type») (ys : List Item) (cs : List Change) → ys ≡ news (n + one_if b) cs
        → items_in (given_if b with_type_id n (field.Ty t)) ++ ys ≡ news n (type_change b t.id t.span (fields_of t.def.kind) ∷ cs)
    by_id true t ys cs h = ap (λ zs. new_of n (Given space.Ty t.span (field_ids (fields_of t.def.kind))) ∷ zs) h
    by_id false t ys cs h = ap (λ zs. item space.Ty t.id (fields_of t.def.kind) ∷ zs) (h ∙ ap (λ m. news m cs) (add_zero n))

    one : (x : ModuleField) (ys : List Item) (cs : List Change) → ys ≡ news (n + one_if (lacks_id x)) cs
        → items_in (given_if (lacks_id x) with_type_id n x) ++ ys ≡ news n (change_in x ++ cs)
    one (field.Ty t) ys cs h = by_id (is_none t.id) t ys cs h
    one x ys cs h = new_kept n (items_in x) ys cs (h ∙ ap (λ m. news m cs) (add_zero n))

pub typed_items : (n : ℕ) (fields : List ModuleField) → items (fields_with_types n fields) ≡ news n (changes fields)
typed_items n fields = new_fields n fields (implied_signatures fields)

pub bound_items : (find : LookUp) (xs : List ModuleField) → items (map (bound_field find) xs) ≡ items xs
bound_items find xs = items_alone (binding_change find) (λ o. refl) (binding_keeps find) xs

pub new_items : (n : ℕ) (fields : List ModuleField) → items (expanded_fields n fields) ≡ news n (changes fields)
new_items n fields = bound_items (found_for fields n) (fields_with_types n fields) ∙ typed_items n fields

-- Appended types have no ids.
none_implied : (ss : List Signature) → greatest_item (olds (map implied_change ss)) ≡ 0
none_implied [] = refl
none_implied (s ∷ ss) = let e = none_implied ss in omega arith

greatest_both : (cs ds : List Change) → greatest_item (olds (cs ++ ds)) ≡ max (greatest_item (olds cs)) (greatest_item (olds ds))
greatest_both [] ds = omega arith
greatest_both (c ∷ cs) ds = let e = greatest_both cs ds in omega arith

pub old_greatest : (fields : List ModuleField) → greatest_item (olds (changes fields)) ≡ greatest_item (items fields)
old_greatest fields =
    let a = greatest_both (flat_map change_in fields) (map implied_change (implied_signatures fields)) in
    let b = none_implied (implied_signatures fields) in
    let c = ap greatest_item (old_fields fields) in
    omega arith

-- The generated ids follow the counter.
abbrev given_in : List Change → ℕ
given_in [] = 0
given_in (Kept x ∷ cs) = given_in cs
given_in (Given s p fields ∷ cs) = 1 + given_in cs

news_below : (n : ℕ) (cs : List Change) → greatest_item (olds cs) < n → greatest_item (news n cs) < n + given_in cs
news_below n [] lt = omega arith
news_below n (Kept x ∷ cs) lt = let e = news_below n cs (omega (arith, lt)) in omega (arith, lt)
news_below n (Given s p fields ∷ cs) lt = let e = news_below (n + 1) cs (omega (arith, lt)) in omega (arith, lt)

given_kept : (xs : List Item) (cs : List Change) → given_in (map Kept xs ++ cs) ≡ given_in cs
given_kept [] cs = refl
given_kept (x ∷ xs) cs = given_kept xs cs

given_fields : (xs : List ModuleField) (ss : List Signature)
    → given_in (flat_map change_in xs ++ map implied_change ss) ≡ missing_id_count lacks_id xs + length ss
given_fields [] [] = refl
given_fields [] (s ∷ ss) = let e = given_fields [] ss in omega arith
given_fields (field.Ty t ∷ xs) ss = by_id (is_none t.id) t.id t.span (fields_of t.def.kind) (given_fields xs ss)
  where
    by_id : (b : Bool) (id : Option Id) (p : Span) (fields : List StructField)
        → given_in (flat_map change_in xs ++ map implied_change ss) ≡ missing_id_count lacks_id xs + length ss
        → given_in (type_change b id p fields ∷ (flat_map change_in xs ++ map implied_change ss)) ≡ (one_if b + missing_id_count lacks_id xs) + length ss
    by_id true id p fields h = omega (arith, h)
    by_id false id p fields h = omega (arith, h)
given_fields (x ∷ xs) ss =
    let kept = ap given_in (append_assoc (map Kept (items_in x)) (flat_map change_in xs) (map implied_change ss)) in
    let same = given_kept (items_in x) (flat_map change_in xs ++ map implied_change ss) in
    omega (arith, kept, same, given_fields xs ss)

-- Compares the items of both lists, if the counter is past the ids of the fields.
module _ (n : ℕ) (fields : List ModuleField) (above : greatest_item (items fields) < n) where
  pub completed_items_below : greatest_item (items (fields_with_implied_types fields)) < n
  completed_items_below =
      let a = ap greatest_item (old_items fields) in
      let b = old_greatest fields in
      omega arith

  pub expanded_position : (q : Name) (s : Space) → generation_of q < n
      → position_of q (names_in s (items (expanded_fields n fields))) ≡ position_of q (names_in s (items (fields_with_implied_types fields)))
  expanded_position = changed_position n (changes fields) (items (fields_with_implied_types fields)) (items (expanded_fields n fields))
      (old_items fields) (new_items n fields) completed_items_below

  pub expanded_clashes : first_unmet (item_demands (items (expanded_fields n fields))) ≡ first_unmet (item_demands (items (fields_with_implied_types fields)))
  expanded_clashes = changed_clashes n (changes fields) (items (fields_with_implied_types fields)) (items (expanded_fields n fields))
      (old_items fields) (new_items n fields) completed_items_below

  pub expanded_item_counts : item_counts (items (expanded_fields n fields)) ≡ item_counts (items (fields_with_implied_types fields))
  expanded_item_counts = changed_counts n (changes fields) (items (fields_with_implied_types fields)) (items (expanded_fields n fields))
      (old_items fields) (new_items n fields) completed_items_below

  pub expanded_below : greatest_item (items (expanded_fields n fields)) < n + type_id_count fields
  expanded_below =
      let a = ap greatest_item (new_items n fields) in
      let b = old_greatest fields in
      let c = news_below n (changes fields) (omega (arith, above)) in
      let d = given_fields fields (implied_signatures fields) in
      omega arith
