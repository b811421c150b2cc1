-- The type at the index for a signature has that signature, so the inline type matches it.
use Rattle.std.specs.Prelude.{⊤}
use Rattle.std.proofs.Common.{◌≡◌, ℕ, zero, suc, Bool, true, false, cond, List, [], ◌∷◌, ◌++◌, map, get_or, Option, Some, None, option_map, refl, sym, ap, ◌∙◌}
use Rattle.std.specs.List.{flat_map, slice_get}
use Rattle.std.proofs.lemmas.Option.{slice_get-map, slice_get_within, get_or_from_slice_get, slice_get-get_or}
use Rattle.std.proofs.lemmas.List.Quantifiers.{position-Some}
use Rattle.wast_base.specs.Ids.{name_of, place_of, mark_of_option}
use Rattle.wast_base.specs.Spaces.{name_if, position_of}
use Rattle.wast_tree_nodes.specs.Items.{items}
use Rattle.wast_tree_nodes.specs.Known.{names_in}
use Rattle.wast_tree_nodes.specs.Sites.{in_signature}
use Rattle.wast_expand_keys.specs.Signatures.{Signature, signature_of, same_signature}
use Rattle.wast_expand_keys.specs.Numbers.{TypeNames, type_names, numbered_signature}
use Rattle.wast_expand_keys.specs.EligibleTypes.{is_eligible, kind_signature, taken_by}
use Rattle.wast_expand_keys.specs.TypeSpace.{types_in, type_space, has_signature, index_for, type_ids, index_by_id, index_by_id_at}
use Rattle.wast_expand_keys.specs.Expanded.{fields_with_types, found_for, expanded_fields}
use Rattle.wast_expand_types.proofs.TypeItems.{names_by, names_of_types}
use Rattle.wast_expand_types.proofs.AtRest.{types_are_the_space}
use Rattle.wast_expand_types.proofs.AtItsIndex.{takes_the_type_at_its_index}
use Rattle.wast_resolve_laws.specs.Tree.{Id, Index, FunctionType, InnerTypeKind, TypeDef, ModuleField}
use Rattle.wast_resolve_laws.specs.Tree.inner
use Rattle.wast_resolve_laws.specs.Tree.index
use Rattle.wast_resolve_laws.specs.Tree.space
use Rattle.wast_resolve_laws.specs.Tree.ty
use Rattle.wast_resolve_laws.specs.Tree.field
use Rattle.wast_resolve_rules.specs.Scopes.{Shape, Function, Scope, module_scope, shape_of, shapes_in, shapes_of_types, type_at}
use Rattle.wast_resolve_rules.specs.Matches.{signatures_match}
use Rattle.wast_resolve_rules.specs.Demands.{first_unmet, item_demands, ask_demands, match_with, match_demands}
use Rattle.wast_resolve_laws.proofs.ExpandedItems.{bound_items}
use Rattle.wast_resolve_laws.proofs.FreeNames.{free_position}
use Rattle.wast_resolve_laws.proofs.SameTypes.{Continues, numbers_match}

-- As many positions, and at each the same signature, after ids of source types are replaced by numbers.
abbrev Within : TypeNames → List (Option Signature) → List Shape → Type 0
Within k [] [] = ⊤
Within k [] (b ∷ bs) = ⊥
Within k (a ∷ us) [] = ⊥
Within k (a ∷ us) (b ∷ bs) = ((s : Signature) → a ≡ Some s → (u : Signature) × (b ≡ Function u) × (s ≡ numbered_signature k u)) × Within k us bs

module _ (k : TypeNames) where
  within_both : (us : List (Option Signature)) (bs : List Shape) (cs : List (Option Signature)) (ds : List Shape) → Within k us bs → Within k cs ds
      → Within k (us ++ cs) (bs ++ ds)
  within_both [] [] cs ds h g = g
  within_both [] (b ∷ bs) cs ds h g = absurd h
  within_both (a ∷ us) [] cs ds h g = absurd h
  within_both (a ∷ us) (b ∷ bs) cs ds h g = (h.0, within_both us bs cs ds h.1 g)

  none_within : (ms : List ty.«Type») → Within k (map (λ t. None) ms) (map (λ t. shape_of t.def.kind) ms)
  none_within [] = tt
  none_within (m ∷ ms) = (λ s e. absurd (cc e), none_within ms)

  kind_shape : (d : InnerTypeKind) (s : Signature) → option_map (numbered_signature k) (kind_signature d) ≡ Some s
      → (u : Signature) × (shape_of d ≡ Function u) × (s ≡ numbered_signature k u)
  kind_shape (inner.Func t) s e = (signature_of t, refl, sym (inside e))
    where
      or_empty : Option Signature → Signature
      or_empty None = s
      or_empty (Some u) = u

      inside : Some (numbered_signature k (signature_of t)) ≡ Some s → numbered_signature k (signature_of t) ≡ s
      inside e = ap or_empty e
  kind_shape (inner.Struct t) s e = absurd (cc e)
  kind_shape (inner.Array t) s e = absurd (cc e)
  kind_shape (inner.Cont t) s e = absurd (cc e)

  taken_shape : (d : TypeDef) (s : Signature) → taken_by k d ≡ Some s → (u : Signature) × (shape_of d.kind ≡ Function u) × (s ≡ numbered_signature k u)
  taken_shape d s e = by_test (is_eligible d) e
    where
      by_test : (b : Bool) → cond b (option_map (numbered_signature k) (kind_signature d.kind)) None ≡ Some s
          → (u : Signature) × (shape_of d.kind ≡ Function u) × (s ≡ numbered_signature k u)
      by_test true e = kind_shape d.kind s e
      by_test false e = absurd (cc e)

  field_within : (x : ModuleField) → Within k (types_in k x) (shapes_in x)
  field_within (field.Ty t) = (taken_shape t.def, tt)
  field_within (field.Rec r) = none_within r.types
  field_within x = tt

  all_within : (xs : List ModuleField) → Within k (flat_map (types_in k) xs) (shapes_of_types xs)
  all_within [] = tt
  all_within (x ∷ xs) = within_both (types_in k x) (shapes_in x) (flat_map (types_in k) xs) (shapes_of_types xs) (field_within x) (all_within xs)

  within_get : (us : List (Option Signature)) (bs : List Shape) → Within k us bs → (p : ℕ) (s : Signature) → slice_get us p ≡ Some (Some s)
      → (u : Signature) × (slice_get bs p ≡ Some (Function u)) × (s ≡ numbered_signature k u)
  within_get [] [] h p s e = absurd (cc e)
  within_get [] (b ∷ bs) h p s e = absurd h
  within_get (a ∷ us) [] h p s e = absurd h
  within_get (a ∷ us) (b ∷ bs) h zero s e = let x = h.0 s (inside a e) in (x.0, ap Some x.1, x.2)
    where
      inside : (a : Option Signature) → Some a ≡ Some (Some s) → a ≡ Some s
      inside a e = cc e
  within_get (a ∷ us) (b ∷ bs) h (suc p) s e = within_get us bs h.1 p s e

-- The index is an id of a function type with the signature, after ids of source types are replaced by numbers.
pub record HasSignature (k : TypeNames) (c : Scope) (s : Signature) (i : Index) : Type 0 where
  pub id : Id
  pub is : i ≡ index.Id id
  pub number : ℕ
  pub denotes : c.known.number space.Ty (name_of id) ≡ Some number
  pub found : Signature
  pub stands : slice_get c.types number ≡ Some (Function found)
  pub same : same_signature (numbered_signature k s) (numbered_signature k found) ≡ true

-- an inline type whose ids are known matches it
pub it_matches : (k : TypeNames) (c : Scope) → Continues k c.known → (t : FunctionType) (i : Index) → HasSignature k c (signature_of t) i
    → first_unmet (ask_demands c.known (in_signature t)) ≡ None → first_unmet (match_demands c i t) ≡ None
it_matches k c continues t i h met =
    let place = place_of h.id in
    ap (λ j. first_unmet (match_demands c j t)) h.is
    ∙ (ap (λ o. first_unmet (match_with (signatures_match c.known t) place (type_at c.types o))) h.denotes
    ∙ (ap (λ o. first_unmet (match_with (signatures_match c.known t) place o)) h.stands
    ∙ ap (λ b. first_unmet (match_with (λ u. b) place (Some (Function h.found)))) (numbers_match k c.known continues t h.found h.same met)))

-- a type with a signature
its_signature : (s : Signature) (o : Option Signature) → has_signature s o ≡ true → (t : Signature) × (o ≡ Some t) × (same_signature s t ≡ true)
its_signature s None h = absurd (cc h)
its_signature s (Some t) h = (t, refl, h)

module _ (n : ℕ) (fields : List ModuleField) (free : first_unmet (item_demands (items (expanded_fields n fields))) ≡ None) where
  abbrev ids : List (Option Id)
  ids = type_ids (fields_with_types n fields)

  same_names : names_in space.Ty (items (expanded_fields n fields)) ≡ names_by ids
  same_names = ap (names_in space.Ty) (bound_items (found_for fields n) (fields_with_types n fields)) ∙ names_of_types (fields_with_types n fields)

  -- the id at a position has it as its number
  pub id_denotes : (p : ℕ) (id : Id) → slice_get ids p ≡ Some (Some id)
      → position_of (name_of id) (names_in space.Ty (items (expanded_fields n fields))) ≡ Some p
  id_denotes p id at =
      let named : slice_get (names_by ids) p ≡ Some (Some (name_of id)) = slice_get-map (λ id. name_if (mark_of_option id)) ids p
      ∙ ap (option_map (λ id. name_if (mark_of_option id))) at in
      let there : slice_get (names_in space.Ty (items (expanded_fields n fields))) p ≡ Some (Some (name_of id)) = ap
      (λ ns. slice_get ns p) same_names ∙ named in
      free_position space.Ty (name_of id) (items (expanded_fields n fields)) free p
      (slice_get_within (names_in space.Ty (items (expanded_fields n fields))) p (Some (name_of id)) there)
      (get_or_from_slice_get (names_in space.Ty (items (expanded_fields n fields))) p (Some (name_of id)) None there)

  abbrev k : TypeNames
  k = type_names fields

  -- the type at a position of the type space
  type_stands : (s : Signature) (p : ℕ) → index_for fields s ≡ Some p
      → (t : Signature) × (slice_get (shapes_of_types (expanded_fields n fields)) p ≡ Some (Function t)) ×
      (same_signature (numbered_signature k s) (numbered_signature k t) ≡ true)
  type_stands s p at =
      let space = type_space fields in
      let x = position-Some (has_signature (numbered_signature k s)) space p None at in
      let t = its_signature (numbered_signature k s) (get_or space p None) x.1 in
      let here : slice_get space p ≡ Some (Some t.0) = slice_get-get_or space p None x.0 ∙ ap Some t.1 in
      let there : slice_get (flat_map (types_in k) (expanded_fields n fields)) p ≡ Some (Some t.0) = ap (λ ts. slice_get ts p)
      (types_are_the_space n fields) ∙ here in
      let u = within_get k (flat_map (types_in k) (expanded_fields n fields)) (shapes_of_types (expanded_fields n fields))
      (all_within k (expanded_fields n fields)) p t.0 there in
      (u.0, u.1, ap (same_signature (numbered_signature k s)) (sym u.2) ∙ t.2)

  pub what_is_found : (s : Signature) (i : Index) → found_for fields n s ≡ Some i → HasSignature k (module_scope (expanded_fields n fields)) s i
  what_is_found s i e = by_index (index_for fields s) refl (sym (takes_the_type_at_its_index n fields s) ∙ e)
    where
      by_slot : (p : ℕ) → index_for fields s ≡ Some p → (o : Option (Option Id)) → slice_get ids p ≡ o → index_by_id o ≡ Some i
          → HasSignature k (module_scope (expanded_fields n fields)) s i
      by_slot p at None there is = absurd (cc is)
      by_slot p at (Some None) there is = absurd (cc is)
      by_slot p at (Some (Some id)) there is =
          let t = type_stands s p at in
          record { id = id; is = cc is; number = p; denotes = id_denotes p id there; found = t.0; stands = t.1; same = t.2 }

      by_index : (o : Option ℕ) → index_for fields s ≡ o → index_by_id_at o ids ≡ Some i → HasSignature k (module_scope (expanded_fields n fields)) s i
      by_index None at is = absurd (cc is)
      by_index (Some p) at is = by_slot p at (slice_get ids p) refl is
