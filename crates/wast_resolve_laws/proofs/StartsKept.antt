-- Proves StartsStayBelow: a list with start fields after it has the same greatest generated id.
use Rattle.std.proofs.Common.{◌≡◌, ℕ, ◌+◌, ◌<◌, ◌≤◌, Bool, true, false, not, ◌&&◌, ◌||◌, List, [], ◌∷◌, ◌++◌, map, Option, Some, None}
use Rattle.std.proofs.Common.{is_some, refl, sym, ap, ◌∙◌, arith}
use Rattle.std.specs.Prelude.{max}
use Rattle.std.specs.List.{list_all, list_any}
use Rattle.std.specs.Cmp.{first_so, second_so}
use Rattle.std.proofs.lemmas.List.{map-append}
use Rattle.std.proofs.lemmas.List.Folds.{list_all-append}
use Rattle.std.proofs.lemmas.Grind.{flat_map-append}
use Rattle.wast_base.specs.declared.ids.Span.{Span}
use Rattle.wast_base.specs.Ids.{Name, Written, Generated, Mark, generation_of, is_generated, name_of}
use Rattle.wast_base.specs.Spaces.{same_space, name_if, is_called, is_borne, is_settled_index}
use Rattle.wast_base.proofs.Names.{same_name_equal}
use Rattle.wast_tree_nodes.specs.Items.{Item, items_in, items}
use Rattle.wast_tree_nodes.specs.Known.{IdContext, names_in, id_context}
use Rattle.wast_tree_nodes.specs.Sites.{Check, asked_in, checks_of, in_field, in_module}
use Rattle.wast_tree_nodes.specs.Generations.{max_of, generation_or_zero, generation_at, generation_in, greatest_item, greatest_asked, greatest_generation}
use Rattle.wast_tree_nodes.proofs.Bearing.{borne_among}
use Rattle.wast_tree_nodes.specs.WellFormed.{is_kept, are_kept, is_well_formed}
use Rattle.wast_resolve_laws.specs.Tree.{Index, Space, ModuleField}
use Rattle.wast_resolve_laws.specs.Tree.index
use Rattle.wast_resolve_laws.specs.Tree.space
use Rattle.wast_resolve_laws.specs.Rests.{start_fields_of, numbers, StartsStayBelow}
use Rattle.wast_resolve_laws.proofs.StartsBehind.{behind_all}
use Rattle.wast_resolve_laws.proofs.ImpliedSignatures.{both_so}

greatest_both : (ms ns : List ℕ) → max_of (ms ++ ns) ≡ max (max_of ms) (max_of ns)
greatest_both [] ns = omega arith
greatest_both (m ∷ ms) ns = let e = greatest_both ms ns in omega arith

greatest_asks : (asks more : List Check) → greatest_asked (asks ++ more) ≡ max (greatest_asked asks) (greatest_asked more)
greatest_asks asks more = ap max_of (map-append generation_in asks more) ∙ greatest_both (map generation_in asks) (map generation_in more)

pub items_behind : (xs : List ModuleField) (is : List Index) → items (xs ++ start_fields_of is) ≡ items xs
items_behind xs is = behind_all items_in (λ i. refl) is xs

asked_behind : (xs : List ModuleField) (is : List Index)
    → checks_of (in_module (xs ++ start_fields_of is)) ≡ checks_of (in_module xs) ++ checks_of (in_module (start_fields_of is))
asked_behind xs is = ap checks_of (flat_map-append in_field xs (start_fields_of is)) ∙ flat_map-append asked_in (in_module xs) (in_module (start_fields_of is))

-- The greatest generated id is that of the list, or of the start fields.
generation_behind : (xs : List ModuleField) (is : List Index) → greatest_generation (xs ++ start_fields_of is) ≡ max (greatest_generation xs)
    (greatest_asked (checks_of (in_module (start_fields_of is))))
generation_behind xs is =
    let a = ap greatest_item (items_behind xs is) in
    let b = ap greatest_asked (asked_behind xs is) in
    let d = greatest_asks (checks_of (in_module xs)) (checks_of (in_module (start_fields_of is))) in
    omega (arith, a, b, d)

pub below_before : (n : ℕ) (xs : List ModuleField) (is : List Index) → greatest_generation (xs ++ start_fields_of is) < n → greatest_generation xs < n
below_before n xs is h = let e = generation_behind xs is in omega (arith, e, h)

-- A name of an item has no later generation than the item,
generation_called : (q : Name) (o : Option Mark) → is_called q (name_if o) ≡ true → generation_of q ≡ generation_or_zero o
generation_called q None h = absurd (cc h)
generation_called q (Some m) h = ap generation_of (same_name_equal q m.0 h)

module _ (s : Space) (q : Name) where
  abbrev bears : Item → Bool
  bears x = same_space s x.space && is_called q (name_if x.id)

  bearer_below : (xs : List Item) → list_any bears xs ≡ true → generation_of q ≤ greatest_item xs
  bearer_below [] h = absurd (cc h)
  bearer_below (x ∷ xs) h = by_first (bears x) refl h (bearer_below xs)
    where
      by_first : (b : Bool) → bears x ≡ b → (b || list_any bears xs) ≡ true → (list_any bears xs ≡ true → generation_of q ≤ greatest_item xs)
          → generation_of q ≤ greatest_item (x ∷ xs)
      by_first true e h rest = let g = generation_called q x.id (second_so (same_space s x.space) (is_called q (name_if x.id)) e) in omega (arith, g)
      by_first false e h rest = let g = rest h in omega (arith, g)

  borne_below : (xs : List Item) → is_borne q (names_in s xs) ≡ true → generation_of q ≤ greatest_item xs
  borne_below xs h = bearer_below xs (sym (borne_among s q xs) ∙ h)

-- and neither has an index that is known.
settled_below : (xs : List Item) (s : Space) (i : Index) → is_settled_index ((id_context xs).number s) i ≡ true → generation_at i ≤ greatest_item xs
settled_below xs s (index.Num n p) h = omega arith
settled_below xs s (index.Id id) h = by_name (name_of id) h
  where
    by_name : (q : Name) → (not (is_generated q) || is_some ((id_context xs).number s q)) ≡ true → generation_of q ≤ greatest_item xs
    by_name (Written text) h = omega arith
    by_name (Generated m) h = borne_below s (Generated m) xs h

starts_below : (xs : List Item) (is : List Index) → list_all (is_settled_index ((id_context xs).number space.Func)) is ≡ true
    → greatest_asked (checks_of (in_module (start_fields_of is))) ≤ greatest_item xs
starts_below xs [] h = omega arith
starts_below xs (i ∷ is) h =
    let settled : Index → Bool = is_settled_index ((id_context xs).number space.Func) in
    let a = settled_below xs space.Func i (first_so (settled i) (list_all settled is) h) in
    let b = starts_below xs is (second_so (settled i) (list_all settled is) h) in
    omega (arith, a, b)

pub starts_stay_below : StartsStayBelow
starts_stay_below xs is h = let e = generation_behind xs is in let b = starts_below (items xs) is h in omega (arith, e, b)

numbers_kept : (k : IdContext) (ks : List (ℕ × Span)) → are_kept k (checks_of (in_module (start_fields_of (numbers ks)))) ≡ true
numbers_kept k [] = refl
numbers_kept k (j ∷ ks) = numbers_kept k ks

pub still_well_formed : (xs : List ModuleField) (ks : List (ℕ × Span)) → is_well_formed xs ≡ true → is_well_formed (xs ++ start_fields_of (numbers ks)) ≡ true
still_well_formed xs ks h =
    let k = id_context (items xs) in
    let more = checks_of (in_module (start_fields_of (numbers ks))) in
    (λ t. are_kept (id_context (items_behind xs (numbers ks) t)) (asked_behind xs (numbers ks) t))
    ∙ (list_all-append (is_kept k) (checks_of (in_module xs)) more ∙ both_so (are_kept k (checks_of (in_module xs))) (are_kept k more) h (numbers_kept k ks))
