-- A property of the checks of the fields holds for the checks with appended types, because each of these has the
-- signature of a type use.
use Rattle.std.proofs.Common.{◌≡◌, ℕ, ◌<◌, Bool, true, false, ◌&&◌, List, [], ◌∷◌, ◌++◌, map, Option, Some, None, refl, sym, ap, ◌∙◌, arith}
use Rattle.std.specs.Prelude.{nat_lt}
use Rattle.std.specs.Cmp.{first_so, second_so}
use Rattle.std.specs.List.{flat_map, list_all}
use Rattle.std.proofs.Math.Bool.{and-true}
use Rattle.std.proofs.lemmas.Bool.{lt-ltb}
use Rattle.std.proofs.lemmas.List.Folds.{list_all-append, list_all-map}
use Rattle.std.proofs.lemmas.Grind.{flat_map-append}
use Rattle.wast_tree_nodes.specs.Sites.{Check, ItemIndex, Covered, Where, Site, Used, if_there, in_index, in_id, in_heap, in_val, in_param}
use Rattle.wast_tree_nodes.specs.Sites.{in_signature, in_field, in_module, check_sites, asked_in, checks_of}
use Rattle.wast_tree_nodes.specs.Generations.{generation_in, greatest_asked}
use Rattle.wast_tree_nodes.proofs.Asking.{asked_both, asked_asking}
use Rattle.wast_expand_keys.specs.Signatures.{Signature, type_of_param, signature_of}
use Rattle.wast_expand_keys.specs.NeedingUses.{inline_signature, needs_type, needed_if, needed_without, needed_at, needed_in}
use Rattle.wast_base.specs.Ids.{name_of, place_of}
use Rattle.wast_base.specs.Denoted.{numbered_by, resolved_index}
use Rattle.wast_tree_map.specs.Mapped.{mapped_heap}
use Rattle.wast_expand_keys.specs.Numbers.{TypeNames, type_names, in_numbers, numbered_val}
use Rattle.wast_expand_keys.specs.ImpliedTypes.{implied_signatures}
use Rattle.wast_expand_keys.specs.Expanded.{unnamed_param, unnamed_type}
use Rattle.wast_expand_keys.specs.Completed.{fields_with_implied_types}
use Rattle.wast_expand_inline.proofs.Below.{each_below, greatest_below}
use Rattle.wast_resolve_laws.specs.Tree.{Id, Index, Span, NameAnnotation, HeapType, ValType, FunctionType, ModuleField}
use Rattle.wast_resolve_laws.specs.Tree.index
use Rattle.wast_resolve_laws.specs.Tree.heap
use Rattle.wast_resolve_laws.specs.Tree.value
use Rattle.wast_resolve_laws.specs.Tree.space
use Rattle.wast_resolve_laws.specs.Tree.form
use Rattle.wast_resolve_laws.proofs.ImpliedSignatures.{both_so, all_pass, all_parts, values_pass, all_implied}

module _ (ok : Check → Bool) where
  abbrev pub pass : List Check → Bool
  pass asks = list_all ok asks

  -- the checks of a value type and a parameter pass
  abbrev pub value_passes : ValType → Bool
  value_passes v = pass (in_val v)

  abbrev pub param_passes : Option Id × Option NameAnnotation × ValType → Bool
  param_passes p = pass (in_param p)

  abbrev all_pass_in : List Signature → Bool
  all_pass_in ss = list_all (values_pass value_passes) ss

  pub second_part : (xs ys : List Check) → pass (xs ++ ys) ≡ true → pass ys ≡ true
  second_part xs ys h = second_so (pass xs) (pass ys) (sym (list_all-append ok xs ys) ∙ h)

  pub first_part : (xs ys : List Check) → pass (xs ++ ys) ≡ true → pass xs ≡ true
  first_part xs ys h = first_so (pass xs) (pass ys) (sym (list_all-append ok xs ys) ∙ h)

  signature_passes : (t : FunctionType) → pass (in_signature t) ≡ (list_all param_passes t.params && list_all value_passes t.results)
  signature_passes t =
      list_all-append ok (flat_map in_param t.params) (flat_map in_val t.results)
      ∙ (ap (λ b. b && pass (flat_map in_val t.results)) (all_parts ok in_param t.params)
      ∙ ap (λ b. list_all param_passes t.params && b) (all_parts ok in_val t.results))

  -- those of the signatures that type uses need
  pub signature_needs : (t : FunctionType) → pass (in_signature t) ≡ true → values_pass value_passes (signature_of t) ≡ true
  signature_needs t h =
      let both = sym (signature_passes t) ∙ h in
      let params = first_so (list_all param_passes t.params) (list_all value_passes t.results) both in
      both_so (list_all value_passes (map type_of_param t.params)) (list_all value_passes t.results)
      (list_all-map value_passes type_of_param t.params
      ∙ all_pass param_passes (λ p. value_passes p.2) (λ p. second_part (if_there in_id p.0) (in_val p.2)) t.params params)
      (second_so (list_all param_passes t.params) (list_all value_passes t.results) both)

  inline_passes : (inline : Option FunctionType) → pass (if_there in_signature inline) ≡ true → values_pass value_passes (inline_signature inline) ≡ true
  inline_passes None h = refl
  inline_passes (Some t) h = signature_needs t h

  needed_passes : (b : Bool) (s : Signature) → values_pass value_passes s ≡ true → all_pass_in (needed_if b s) ≡ true
  needed_passes true s h = both_so (values_pass value_passes s) true h refl
  needed_passes false s h = refl

  use_needs : (w : Where) (i : Option Index) (inline : Option FunctionType) → pass (if_there in_signature inline) ≡ true
      → all_pass_in (needed_without w i inline) ≡ true
  use_needs w (Some i) inline h = refl
  use_needs w None inline h = needed_passes (needs_type w inline) (inline_signature inline) (inline_passes inline h)

  site_needs : (s : Site) → pass (asked_in s) ≡ true → all_pass_in (needed_at s) ≡ true
  site_needs (Used w u) h = use_needs w u.index u.inline (second_part (if_there (in_index space.Ty) u.index) (if_there in_signature u.inline) h)
  site_needs s h = refl

  sites_need : (ss : List Site) → pass (checks_of ss) ≡ true → all_pass_in (needed_in ss) ≡ true
  sites_need ss h =
      all_parts (values_pass value_passes) needed_at ss
      ∙ all_pass (λ s. pass (asked_in s)) (λ s. all_pass_in (needed_at s)) site_needs ss (sym (all_parts ok asked_in ss) ∙ h)

  -- and those of unnamed types, which are not shared
  module _ (unshared : ok (Covered form.Shared true) ≡ true) (numbers : (m : ℕ) (p : Span) → ok (ItemIndex space.Ty (index.Num m p)) ≡ true) where
    unnamed_passes : (t : FunctionType)
        → pass (in_signature t ++ Covered form.Shared true ∷ []) ≡ (list_all param_passes t.params && list_all value_passes t.results)
    unnamed_passes t =
        list_all-append ok (in_signature t) (Covered form.Shared true ∷ []) ∙ (ap (λ b. pass (in_signature t) && (b && true)) unshared
        ∙ (and-true (pass (in_signature t)) ∙ signature_passes t))

    unnamed_pass : (ss : List Signature) → pass (checks_of (in_module (map unnamed_type ss))) ≡ all_pass_in ss
    unnamed_pass [] = refl
    unnamed_pass (s ∷ ss) =
        let t : FunctionType = record { params = map unnamed_param s.0; results = s.1 } in
        let one = in_signature t ++ Covered form.Shared true ∷ [] in
        let rest = checks_of (in_module (map unnamed_type ss)) in
        ap pass (asked_both (check_sites one) (in_module (map unnamed_type ss)) ∙ ap (λ asks. asks ++ rest) (asked_asking one))
        ∙ (list_all-append ok one rest
        ∙ (ap (λ b. b && pass rest) (unnamed_passes t ∙ ap (λ b. b && list_all value_passes s.1) (list_all-map param_passes unnamed_param s.0))
        ∙ ap (λ b. values_pass value_passes s && b) (unnamed_pass ss)))

    -- an index that becomes a number still passes
    index_passes : (k : TypeNames) (i : Index) → ok (ItemIndex space.Ty i) ≡ true → ok (ItemIndex space.Ty (resolved_index k i)) ≡ true
    index_passes k (index.Num m p) h = h
    index_passes k (index.Id id) h = by (k (name_of id))
      where
        by : (o : Option ℕ) → ok (ItemIndex space.Ty (numbered_by o id)) ≡ true
        by None = h
        by (Some m) = numbers m (place_of id)

    heap_passes : (k : TypeNames) (t : HeapType) → pass (in_heap t) ≡ true → pass (in_heap (mapped_heap (in_numbers k) t)) ≡ true
    heap_passes k (heap.Abstract shared t) h = h
    heap_passes k (heap.Concrete i) h = both_so (ok (ItemIndex space.Ty (resolved_index k i))) true
        (index_passes k i (first_so (ok (ItemIndex space.Ty i)) true h)) refl
    heap_passes k (heap.Exact i) h =
        let rest = ok (Covered form.Descriptor false) && true in
        both_so (ok (ItemIndex space.Ty (resolved_index k i))) rest (index_passes k i (first_so (ok (ItemIndex space.Ty i)) rest h))
        (second_so (ok (ItemIndex space.Ty i)) rest h)

    numbered_passes : (k : TypeNames) (v : ValType) → value_passes v ≡ true → value_passes (numbered_val k v) ≡ true
    numbered_passes k (value.Ref r) h = heap_passes k r.heap h
    numbered_passes k value.I32 h = h
    numbered_passes k value.I64 h = h
    numbered_passes k value.F32 h = h
    numbered_passes k value.F64 h = h
    numbered_passes k value.V128 h = h

    pub completed_pass : (fields : List ModuleField) → pass (checks_of (in_module fields)) ≡ true
        → pass (checks_of (in_module (fields_with_implied_types fields))) ≡ true
    completed_pass fields h =
        let new = map unnamed_type (implied_signatures fields) in
        ap pass (ap checks_of (flat_map-append in_field fields new) ∙ asked_both (in_module fields) (in_module new))
        ∙ (list_all-append ok (checks_of (in_module fields)) (checks_of (in_module new))
        ∙ both_so (pass (checks_of (in_module fields))) (pass (checks_of (in_module new))) h (unnamed_pass (implied_signatures fields)
        ∙ all_implied value_passes fields (numbered_passes (type_names fields)) (sites_need (in_module fields) h)))

-- So no generated id is new among them.
module _ (n : ℕ) where
  abbrev pub is_below : Check → Bool
  is_below a = nat_lt (generation_in a) n

  pub completed_below : (fields : List ModuleField) → greatest_asked (checks_of (in_module fields)) < n
      → greatest_asked (checks_of (in_module (fields_with_implied_types fields))) < n
  completed_below fields lt =
      let some : 0 < n = omega (arith, lt) in
      greatest_below n generation_in (checks_of (in_module (fields_with_implied_types fields))) some
      (completed_pass is_below (lt-ltb 0 n some) (λ m p. lt-ltb 0 n some) fields (each_below n generation_in (checks_of (in_module fields)) lt))
