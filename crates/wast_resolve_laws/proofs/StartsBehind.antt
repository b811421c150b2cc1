-- Start fields after a list: they come before the appended types, which are the same, and they are not items.
use Rattle.std.proofs.Common.{◌≡◌, ℕ, ◌+◌, Bool, true, false, List, [], ◌∷◌, ◌++◌, map, append-nil, append_assoc, Option, Some, None}
use Rattle.std.proofs.Common.{is_some, refl, sym, ap, ◌∙◌}
use Rattle.std.specs.List.{flat_map, list_all}
use Rattle.std.specs.Cmp.{first_so, second_so}
use Rattle.std.specs.Option.{option_or}
use Rattle.std.proofs.lemmas.List.{map-append}
use Rattle.std.proofs.lemmas.Grind.{flat_map-append}
use Rattle.wast_base.specs.Ids.{name_of, gensym_id}
use Rattle.wast_base.specs.Faults.{Cause}
use Rattle.wast_base.specs.Filling.{one_if, given_if, with_ids_from, missing_id_count}
use Rattle.wast_tree_nodes.specs.Items.{items_in, items}
use Rattle.wast_tree_nodes.specs.Known.{IdContext, id_context}
use Rattle.wast_tree_nodes.specs.Sites.{ItemIndex, Asked, in_field, in_module}
use Rattle.wast_tree_map.specs.Mapped.{Change, mapped_type, mapped_field}
use Rattle.wast_expand_inline.specs.WriteOut.{desugar_field}
use Rattle.wast_expand_inline.specs.Referring.{by_id, wants_id, with_item_id}
use Rattle.wast_expand_inline.specs.Written.{with_referred_ids, desugared_from, reference_id_count}
use Rattle.wast_expand_keys.specs.Signatures.{Signature}
use Rattle.wast_expand_keys.specs.NeedingUses.{needed_at, needed_in, needed_signatures}
use Rattle.wast_expand_keys.specs.Numbers.{type_names, numbered_signature}
use Rattle.wast_expand_keys.specs.ImpliedTypes.{eligible_in, eligible_signatures, is_among, first_new, implied_signatures}
use Rattle.wast_expand_keys.specs.Expanders.{LookUp, index_of}
use Rattle.wast_expand_keys.specs.Expanded.{lacks_id, with_type_id, def_of, start_of_text, implied_type, implied_types, fields_with_types}
use Rattle.wast_expand_keys.specs.Expanded.{bindings_in, bindings, found_for, bound_field, expanded_fields}
use Rattle.wast_resolve_laws.specs.Tree.{Span, Index, Space, ModuleField}
use Rattle.wast_resolve_laws.specs.Tree.index
use Rattle.wast_resolve_laws.specs.Tree.space
use Rattle.wast_resolve_laws.specs.Tree.ty
use Rattle.wast_resolve_laws.specs.Tree.field
use Rattle.wast_resolve_rules.specs.ImportOrder.{defines, import_place, nothing_defined}
use Rattle.wast_resolve_rules.specs.Scopes.{Scope, shapes_in, module_scope, denoted}
use Rattle.wast_resolve_rules.specs.Demands.{first_unmet, item_demands, site_demand, site_demands, name_demands, order_demands, demands}
use Rattle.wast_resolve_rules.specs.Explicit.{explicit_fields_from}
use Rattle.wast_resolve_rules.specs.Resolved.{numbered_at, numbering_change, resolved_fields}
use Rattle.wast_resolve_rules.proofs.Unmet.{met_parts}
use Rattle.wast_resolve_rules.proofs.Orders.{orders_from, orders_are}
use Rattle.wast_resolve_laws.specs.Rests.{start_fields_of}
use Rattle.wast_resolve_laws.proofs.NumberedTypes.{met_both}

-- A list has as much with start fields in it, of anything that a start field has none of.
module _ {A : Type 0} (g : ModuleField → List A) (none : (i : Index) → g (field.Start i) ≡ []) (is : List Index) where
  pub starts_none : flat_map g (start_fields_of is) ≡ []
  starts_none = each is
    where
      each : (is : List Index) → flat_map g (start_fields_of is) ≡ []
      each [] = refl
      each (i ∷ is) = λ t. none i t ++ each is t

  pub among : (xs ys : List ModuleField) → flat_map g (xs ++ (start_fields_of is ++ ys)) ≡ flat_map g (xs ++ ys)
  among xs ys =
      flat_map-append g xs (start_fields_of is ++ ys)
      ∙ (ap (λ zs. flat_map g xs ++ zs) (flat_map-append g (start_fields_of is) ys ∙ ap (λ zs. zs ++ flat_map g ys) starts_none)
      ∙ sym (flat_map-append g xs ys))

  pub behind_all : (xs : List ModuleField) → flat_map g (xs ++ start_fields_of is) ≡ flat_map g xs
  behind_all xs = flat_map-append g xs (start_fields_of is) ∙ (ap (λ zs. flat_map g xs ++ zs) starts_none ∙ append-nil (flat_map g xs))

-- They need no ids.
module _ (wants : ModuleField → Bool) (give : ℕ → ModuleField → ModuleField) (none : (i : Index) → wants (field.Start i) ≡ false) where
  starts_filled : (n : ℕ) (is : List Index) → with_ids_from wants give n (start_fields_of is) ≡ start_fields_of is
  starts_filled n [] = refl
  starts_filled n (i ∷ is) = (λ t. given_if (none i t) give n (field.Start i) ∷ with_ids_from wants give (n + one_if (none i t))
      (start_fields_of is)) ∙ ap (λ ys. field.Start i ∷ ys) (starts_filled (n + 0) is)

  pub filled_behind : (n : ℕ) (xs : List ModuleField) (is : List Index)
      → with_ids_from wants give n (xs ++ start_fields_of is) ≡ with_ids_from wants give n xs ++ start_fields_of is
  filled_behind n [] is = starts_filled n is
  filled_behind n (x ∷ xs) is = ap (λ ys. given_if (wants x) give n x ∷ ys) (filled_behind (n + one_if (wants x)) xs is)

  starts_wanted : (is : List Index) → missing_id_count wants (start_fields_of is) ≡ 0
  starts_wanted [] = refl
  starts_wanted (i ∷ is) = λ t. one_if (none i t) + starts_wanted is t

  pub wanted_behind : (xs : List ModuleField) (is : List Index) → missing_id_count wants (xs ++ start_fields_of is) ≡ missing_id_count wants xs
  wanted_behind [] is = starts_wanted is
  wanted_behind (x ∷ xs) is = ap (λ k. one_if (wants x) + k) (wanted_behind xs is)

module _ (is : List Index) where
  -- Expanding inline parts leaves them unchanged.
  starts_written : flat_map (desugar_field by_id) (start_fields_of is) ≡ start_fields_of is
  starts_written = each is
    where
      each : (is : List Index) → flat_map (desugar_field by_id) (start_fields_of is) ≡ start_fields_of is
      each [] = refl
      each (i ∷ is) = ap (λ ys. field.Start i ∷ ys) (each is)

  written_behind : (n : ℕ) (fields : List ModuleField) → desugared_from n (fields ++ start_fields_of is) ≡ desugared_from n fields ++ start_fields_of is
  written_behind n fields =
      ap (flat_map (desugar_field by_id)) (filled_behind wants_id with_item_id (λ i. refl) n fields is)
      ∙ (flat_map-append (desugar_field by_id) (with_referred_ids n fields) (start_fields_of is) ∙ ap (λ ys. desugared_from n fields ++ ys) starts_written)

  -- They append no type, and add no signature.
  starts_need : needed_signatures (start_fields_of is) ≡ []
  starts_need = each is
    where
      each : (is : List Index) → needed_signatures (start_fields_of is) ≡ []
      each [] = refl
      each (i ∷ is) = each is

  pub needed_behind : (xs : List ModuleField) → needed_signatures (xs ++ start_fields_of is) ≡ needed_signatures xs
  needed_behind xs =
      ap needed_in (flat_map-append in_field xs (start_fields_of is))
      ∙ (flat_map-append needed_at (in_module xs) (in_module (start_fields_of is))
      ∙ (ap (λ ss. needed_signatures xs ++ ss) starts_need ∙ append-nil (needed_signatures xs)))

  -- They are not types, so no type use matches them.
  names_behind : (xs : List ModuleField) → type_names (xs ++ start_fields_of is) ≡ type_names xs
  names_behind xs = ap (λ its. (id_context its).number space.Ty) (behind_all items_in (λ i. refl) is xs)

  eligible_behind : (xs : List ModuleField) → eligible_signatures (xs ++ start_fields_of is) ≡ eligible_signatures xs
  eligible_behind xs = ap (λ k. flat_map (eligible_in k) (xs ++ start_fields_of is)) (names_behind xs)
      ∙ behind_all (eligible_in (type_names xs)) (λ i. refl) is xs

  implied_behind : (xs : List ModuleField) → implied_signatures (xs ++ start_fields_of is) ≡ implied_signatures xs
  implied_behind xs = λ t. first_new (is_among (eligible_behind xs t)) (map (numbered_signature (names_behind xs t)) (needed_behind xs t))

-- The expanded fields are the fields and the appended types, with each type use resolved.
module _ (m : ℕ) (xs : List ModuleField) where
  abbrev pub with_ids : List ModuleField
  with_ids = with_ids_from lacks_id with_type_id m xs

  abbrev pub more_types : List ModuleField
  more_types = implied_types (m + missing_id_count lacks_id xs) (implied_signatures xs)

  abbrev pub find : LookUp
  find = found_for xs m

  abbrev pub own_fields : List ModuleField
  own_fields = map (bound_field find) with_ids

  abbrev pub new_types : List ModuleField
  new_types = map (bound_field find) more_types

  expanded_parts : expanded_fields m xs ≡ own_fields ++ new_types
  expanded_parts = map-append (bound_field find) with_ids more_types

  module _ (is : List Index) where
    typed_behind : fields_with_types m (xs ++ start_fields_of is) ≡ with_ids ++ (start_fields_of is ++ more_types)
    typed_behind =
        (λ t. filled_behind lacks_id with_type_id (λ i. refl) m xs is t ++ implied_types
        (m + wanted_behind lacks_id with_type_id (λ i. refl) xs is t) (implied_behind is xs t))
        ∙ append_assoc with_ids (start_fields_of is) more_types

    bound_behind : bindings (type_names (xs ++ start_fields_of is)) (fields_with_types m (xs ++ start_fields_of is)) ≡ bindings (type_names xs)
        (fields_with_types m xs)
    bound_behind = (λ t. bindings (names_behind is xs t) (typed_behind t)) ∙ among (bindings_in (type_names xs)) (λ i. refl) is with_ids more_types

    same_find : found_for (xs ++ start_fields_of is) m ≡ find
    same_find = λ t s. index_of (bound_behind t) (numbered_signature (names_behind is xs t) s)

    starts_bound : map (bound_field find) (start_fields_of is) ≡ start_fields_of is
    starts_bound = each is
      where
        each : (is : List Index) → map (bound_field find) (start_fields_of is) ≡ start_fields_of is
        each [] = refl
        each (i ∷ is) = ap (λ ys. field.Start i ∷ ys) (each is)

    expanded_behind : expanded_fields m (xs ++ start_fields_of is) ≡ own_fields ++ (start_fields_of is ++ new_types)
    expanded_behind =
        (λ t. map (bound_field (same_find t)) (typed_behind t))
        ∙ (map-append (bound_field find) with_ids (start_fields_of is ++ more_types)
        ∙ ap (λ ys. own_fields ++ ys) (map-append (bound_field find) (start_fields_of is) more_types ∙ ap (λ ys. ys ++ new_types) starts_bound))

-- Type definitions in fields of their own.
pub record AreTypes (xs : List ModuleField) : Type 0 where
  pub types : List ty.«Type»
  pub are : xs ≡ map field.Ty types

types_mapped : (f : Change) (ts : List ty.«Type») → map (mapped_field f) (map field.Ty ts) ≡ map field.Ty (map (mapped_type f) ts)
types_mapped f [] = refl
types_mapped f (t ∷ ts) = ap (λ xs. field.Ty (mapped_type f t) ∷ xs) (types_mapped f ts)

pub still_types : (f : Change) (xs : List ModuleField) → AreTypes xs → AreTypes (map (mapped_field f) xs)
still_types f xs a = record { types = map (mapped_type f) a.types; are = ap (map (mapped_field f)) a.are ∙ types_mapped f a.types }

pub implied_are : (m : ℕ) (ss : List Signature) → AreTypes (implied_types m ss)
implied_are m [] = record { types = []; are = refl }
implied_are m (s ∷ ss) =
    let a = implied_are (m + 1) ss in
    record {
      types = record { span = start_of_text; id = Some (gensym_id m start_of_text); name = None; def = def_of s false } ∷ a.types;
      are = ap (λ xs. implied_type m s ∷ xs) a.are;
    }

-- Data that is read from items and types is the same with start fields in the list.
module _ (is : List Index) (xs ys : List ModuleField) where
  items_among : items (xs ++ (start_fields_of is ++ ys)) ≡ items (xs ++ ys)
  items_among = among items_in (λ i. refl) is xs ys

  scope_among : module_scope (xs ++ (start_fields_of is ++ ys)) ≡ module_scope (xs ++ ys)
  scope_among = λ t. record { known = id_context (items_among t); types = among shapes_in (λ i. refl) is xs ys t }

-- and so are the checks of the order of imports.
orders_among : (last : Option Space) (is : List Index) (ys : List ModuleField) → orders_from last (start_fields_of is ++ ys) ≡ orders_from last ys
orders_among last [] ys = refl
orders_among last (i ∷ is) ys = orders_among last is ys

orders_behind : (last : Option Space) (is : List Index) (xs ys : List ModuleField)
    → orders_from last (xs ++ (start_fields_of is ++ ys)) ≡ orders_from last (xs ++ ys)
orders_behind last is [] ys = orders_among last is ys
orders_behind last is (x ∷ xs) ys = ap (λ ds. nothing_defined last (import_place x) ++ ds) (orders_behind (option_or (defines x) last) is xs ys)

-- The check of a start field that names a function passes.
abbrev pub denotes_function : IdContext → Index → Bool
denotes_function k i = is_some (denoted (k.number space.Func) i)

met_one : (f : Cause) (s : Span) (b : Bool) → b ≡ true → first_unmet (record { fault = f; place = s; met = b } ∷ []) ≡ None
met_one f s true h = refl
met_one f s false h = absurd cc

module _ (c : Scope) where
  start_met : (i : Index) → denotes_function c.known i ≡ true → first_unmet (site_demand c (Asked (ItemIndex space.Func i))) ≡ None
  start_met (index.Num n p) h = refl
  start_met (index.Id id) h = met_one _ _ (is_some (c.known.number space.Func (name_of id))) h

  starts_met : (is : List Index) → list_all (denotes_function c.known) is ≡ true → first_unmet (site_demands c (in_module (start_fields_of is))) ≡ None
  starts_met [] h = refl
  starts_met (i ∷ is) h =
      met_both (site_demand c (Asked (ItemIndex space.Func i))) (site_demands c (in_module (start_fields_of is)))
      (start_met i (first_so (denotes_function c.known i) (list_all (denotes_function c.known) is) h))
      (starts_met is (second_so (denotes_function c.known i) (list_all (denotes_function c.known) is) h))

  sites_both : (xs ys : List ModuleField) → site_demands c (in_module (xs ++ ys)) ≡ site_demands c (in_module xs) ++ site_demands c (in_module ys)
  sites_both xs ys = ap (site_demands c) (flat_map-append in_field xs ys) ∙ flat_map-append (site_demand c) (in_module xs) (in_module ys)

  sites_met : (is : List Index) (xs ys : List ModuleField) → list_all (denotes_function c.known) is ≡ true
      → first_unmet (site_demands c (in_module (xs ++ ys))) ≡ None
      → first_unmet (site_demands c (in_module (xs ++ (start_fields_of is ++ ys)))) ≡ None
  sites_met is xs ys all h =
      let parts = met_parts (site_demands c (in_module xs)) (site_demands c (in_module ys)) (ap first_unmet (sym (sites_both xs ys)) ∙ h) in
      ap first_unmet (sites_both xs (start_fields_of is ++ ys) ∙ ap (λ ds. site_demands c (in_module xs) ++ ds) (sites_both (start_fields_of is) ys))
      ∙ met_both (site_demands c (in_module xs)) (site_demands c (in_module (start_fields_of is)) ++ site_demands c (in_module ys)) parts.0
      (met_both (site_demands c (in_module (start_fields_of is))) (site_demands c (in_module ys)) (starts_met is all) parts.1)

module _ (is : List Index) (xs ys : List ModuleField) where
  abbrev c : Scope
  c = module_scope (xs ++ ys)

  pub demands_met : list_all (denotes_function c.known) is ≡ true → first_unmet (demands (xs ++ ys)) ≡ None
      → first_unmet (demands (xs ++ (start_fields_of is ++ ys))) ≡ None
  demands_met all met =
      let all_fields : List ModuleField = xs ++ (start_fields_of is ++ ys) in
      let p = met_parts (order_demands (xs ++ ys)) (name_demands (xs ++ ys)) met in
      let q = met_parts (item_demands (items (xs ++ ys))) (site_demands c (in_module (xs ++ ys))) p.1 in
      met_both (order_demands all_fields) (name_demands all_fields) (ap first_unmet (orders_are all_fields
      ∙ (orders_behind None is xs ys ∙ sym (orders_are (xs ++ ys)))) ∙ p.0)
      (met_both (item_demands (items all_fields)) (site_demands (module_scope all_fields) (in_module all_fields))
      (ap (λ its. first_unmet (item_demands its)) (items_among is xs ys) ∙ q.0)
      (ap (λ d. first_unmet (site_demands d (in_module all_fields))) (scope_among is xs ys) ∙ sites_met c is xs ys all q.1))

  starts_numbered : map (mapped_field (numbering_change c)) (start_fields_of is) ≡ start_fields_of (map (numbered_at c.known space.Func) is)
  starts_numbered = each is
    where
      each : (is : List Index) → map (mapped_field (numbering_change c)) (start_fields_of is) ≡ start_fields_of (map (numbered_at c.known space.Func) is)
      each [] = refl
      each (i ∷ is) = ap (λ zs. field.Start (numbered_at c.known space.Func i) ∷ zs) (each is)

  pub resolved_among : resolved_fields (xs ++ (start_fields_of is ++ ys)) ≡ map (mapped_field (numbering_change c)) xs ++
      (start_fields_of (map (numbered_at c.known space.Func) is) ++ map (mapped_field (numbering_change c)) ys)
  resolved_among =
      ap (λ d. map (mapped_field (numbering_change d)) (xs ++ (start_fields_of is ++ ys))) (scope_among is xs ys)
      ∙ (map-append (mapped_field (numbering_change c)) xs (start_fields_of is ++ ys)
      ∙ ap (λ zs. map (mapped_field (numbering_change c)) xs ++ zs) (map-append (mapped_field (numbering_change c)) (start_fields_of is) ys
      ∙ ap (λ zs. zs ++ map (mapped_field (numbering_change c)) ys) starts_numbered))

-- The same with start fields after the fields of a module.
module _ (n : ℕ) (fields : List ModuleField) where
  abbrev pub next : ℕ
  next = n + reference_id_count fields

  abbrev pub out : List ModuleField
  out = desugared_from n fields

  abbrev pub own : List ModuleField
  own = own_fields next out

  abbrev pub more : List ModuleField
  more = new_types next out

  pub explicit_parts : explicit_fields_from n fields ≡ own ++ more
  explicit_parts = expanded_parts next out

  pub explicit_behind : (is : List Index) → explicit_fields_from n (fields ++ start_fields_of is) ≡ own ++ (start_fields_of is ++ more)
  explicit_behind is =
      (λ t. expanded_fields (n + wanted_behind wants_id with_item_id (λ i. refl) fields is t) (written_behind is n fields t)) ∙ expanded_behind next out is
