-- The ids of source types have the same numbers in the expanded fields.
use Rattle.std.proofs.Common.{◌≡◌, ℕ, suc, ◌<◌, ◌≤◌, Bool, true, false, ◌&&◌, ◌||◌, List, [], ◌∷◌, ◌++◌, map, Option, Some, None}
use Rattle.std.proofs.Common.{option_map, is_some, refl, sym, ap, ◌∙◌, arith}
use Rattle.std.specs.Cmp.{second_so}
use Rattle.std.specs.List.{list_any, position}
use Rattle.wast_base.specs.Ids.{Name, Mark, generation_of}
use Rattle.wast_base.specs.Spaces.{name_if, same_space, is_called, position_of, is_borne}
use Rattle.wast_base.proofs.Names.{called_is}
use Rattle.wast_base.proofs.Positions.{position_head}
use Rattle.wast_tree_nodes.specs.Items.{Item, items}
use Rattle.wast_tree_nodes.specs.Known.{id_context, names_in}
use Rattle.wast_tree_nodes.specs.Generations.{generation_or_zero, greatest_item}
use Rattle.wast_tree_nodes.proofs.Bearing.{borne_among}
use Rattle.wast_expand_keys.specs.ImpliedTypes.{implied_signatures}
use Rattle.wast_expand_keys.specs.Expanded.{unnamed_type, expanded_fields}
use Rattle.wast_expand_keys.specs.Numbers.{type_names}
use Rattle.wast_expand_types.proofs.TypeItems.{fields_join}
use Rattle.wast_resolve_laws.specs.Tree.{ModuleField}
use Rattle.wast_resolve_laws.specs.Tree.space
use Rattle.wast_resolve_laws.proofs.ExpandedItems.{expanded_position}
use Rattle.wast_resolve_laws.proofs.SameTypes.{Continues}

-- a position in a list is one in a longer list
still_there : {A : Type 0} (p : A → Bool) (xs ys : List A) (i : ℕ) → position p xs ≡ Some i → position p (xs ++ ys) ≡ Some i
still_there p [] ys i e = absurd (cc e)
still_there {A} p (x ∷ xs) ys i e = by_test (p x) refl (still_there p xs ys)
  where
    shifted : (o : Option ℕ) → position p xs ≡ o → ((j : ℕ) → position p xs ≡ Some j → position p (xs ++ ys) ≡ Some j) → option_map suc o ≡ Some i
        → option_map suc (position p (xs ++ ys)) ≡ Some i
    shifted None at rest f = absurd (cc f)
    shifted (Some j) at rest f = ap (option_map suc) (rest j at) ∙ f

    by_test : (b : Bool) → p x ≡ b → ((j : ℕ) → position p xs ≡ Some j → position p (xs ++ ys) ≡ Some j) → position p (x ∷ (xs ++ ys)) ≡ Some i
    by_test true t rest = position_head p true x (xs ++ ys) t ∙ (sym (position_head p true x xs t) ∙ e)
    by_test false t rest = position_head p false x (xs ++ ys) t ∙ shifted (position p xs) refl rest (sym (position_head p false x xs t) ∙ e)

-- an item with a name has its generation
called_below : (q : Name) (m : Option Mark) → is_called q (name_if m) ≡ true → generation_of q ≤ generation_or_zero m
called_below q None h = absurd (cc h)
called_below q (Some m) h = let e : generation_of m.0 ≡ generation_of q = ap named (called_is q (Some m.0) h) in omega (arith, e)
  where
    named : Option Name → ℕ
    named None = 0
    named (Some n) = generation_of n

borne_below : (q : Name) (xs : List Item) → list_any (λ (x : Item). same_space space.Ty x.space && is_called q (name_if x.id)) xs ≡ true
    → generation_of q ≤ greatest_item xs
borne_below q [] h = absurd (cc h)
borne_below q (x ∷ xs) h = by_test (same_space space.Ty x.space && is_called q (name_if x.id)) refl h (borne_below q xs)
  where
    by_test : (b : Bool) → same_space space.Ty x.space && is_called q (name_if x.id) ≡ b
        → (b || list_any (λ (x : Item). same_space space.Ty x.space && is_called q (name_if x.id)) xs) ≡ true
        → (list_any (λ (x : Item). same_space space.Ty x.space && is_called q (name_if x.id)) xs ≡ true → generation_of q ≤ greatest_item xs)
        → generation_of q ≤ greatest_item (x ∷ xs)
    by_test true e h rest = let l = called_below q x.id (second_so (same_space space.Ty x.space) (is_called q (name_if x.id)) e) in omega (arith, l)
    by_test false e h rest = let l = rest h in omega (arith, l)

pub names_continue : (n : ℕ) (fields : List ModuleField) → greatest_item (items fields) < n
    → Continues (type_names fields) (id_context (items (expanded_fields n fields)))
names_continue n fields above q p at =
    let own = names_in space.Ty (items fields) in
    let new = map unnamed_type (implied_signatures fields) in
    let borne : is_borne q own ≡ true = ap is_some at in
    let low = borne_below q (items fields) (sym (borne_among space.Ty q (items fields)) ∙ borne) in
    expanded_position n fields above q space.Ty (omega (arith, low, above))
    ∙ (ap (position_of q) (fields_join fields new) ∙ still_there (is_called q) own (names_in space.Ty (items new)) p at)
