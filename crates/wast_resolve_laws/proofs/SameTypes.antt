-- Signatures that are equal after ids of source types are replaced by numbers also match, if each index is known; and
-- look-ups that agree compare types the same.
use Rattle.std.proofs.Common.{◌≡◌, ℕ, Bool, true, ◌&&◌, cond, List, [], ◌∷◌, map, Option, Some, None, option_map, is_some, refl, sym, ap, ◌∙◌, false}
use Rattle.std.specs.Prelude.{◌==◌}
use Rattle.std.specs.Bool.{beq}
use Rattle.std.specs.Cmp.{first_so, second_so}
use Rattle.std.specs.List.{flat_map, list_all}
use Rattle.std.proofs.lemmas.Bool.{eq-eqb}
use Rattle.std.proofs.lemmas.Grind.{flat_map-append}
use Rattle.wast_base.specs.Ids.{Name, name_of, same_index}
use Rattle.wast_base.specs.Denoted.{numbered_by, resolved_index}
use Rattle.wast_base.specs.Faults.{Cause}
use Rattle.wast_tree_nodes.specs.Known.{IdContext}
use Rattle.wast_tree_nodes.specs.Sites.{Check, ItemIndex, Covered, if_there, in_index, in_id, in_heap, in_ref, in_val, in_param, in_signature}
use Rattle.wast_tree_map.specs.Mapped.{mapped_heap, mapped_ref, mapped_val}
use Rattle.wast_expand_keys.specs.Signatures.{Signature, type_of_param, signature_of, value_rank, reference_in, same_heap_by}
use Rattle.wast_expand_keys.specs.Signatures.{same_reference_by, same_value_by, same_values_by, same_signature_by, same_signature}
use Rattle.wast_expand_keys.specs.Numbers.{TypeNames, in_numbers, numbered_signature}
use Rattle.wast_resolve_laws.specs.Tree.{Id, Index, Span, NameAnnotation, HeapType, RefType, ValType, FunctionType}
use Rattle.wast_resolve_laws.specs.Tree.index
use Rattle.wast_resolve_laws.specs.Tree.space
use Rattle.wast_resolve_laws.specs.Tree.form
use Rattle.wast_resolve_laws.specs.Tree.heap
use Rattle.wast_resolve_laws.specs.Tree.value
use Rattle.wast_resolve_rules.specs.Matches.{same_number, same_type, signatures_match}
use Rattle.wast_resolve_rules.specs.Demands.{first_unmet, ask_demand, ask_demands}
use Rattle.wast_base.proofs.Names.{same_name_equal}
use Rattle.wast_resolve_rules.proofs.Unmet.{met_parts}
use Rattle.wast_resolve_laws.proofs.CompletedAsks.{pass, value_passes}
use Rattle.wast_resolve_laws.proofs.OtherNames.{rank_same, reference_same}
use Rattle.wast_resolve_laws.proofs.ImpliedSignatures.{both_so, values_pass}

-- the ids of source types have the same numbers among all types
abbrev pub Continues : TypeNames → IdContext → Type 0
Continues k l = (q : Name) (p : ℕ) → k q ≡ Some p → l.number space.Ty q ≡ Some p

-- If each index of the first is known.
module _ (k : TypeNames) (l : IdContext) (continues : Continues k l) where
  same_some : (o : Option ℕ) (f : Cause × Span) → cond (is_some o) None (Some f) ≡ None → same_number o o ≡ true
  same_some None f met = absurd (cc met)
  same_some (Some n) f met = eq-eqb n n refl

  -- an id of a source type has the same number among all types
  numbers : (m : ℕ) (id : Id) (p : Span) (o : Option ℕ) → k (name_of id) ≡ o → same_index (index.Num m p) (numbered_by o id) ≡ true
      → same_number (Some m) (l.number space.Ty (name_of id)) ≡ true
  numbers m id p None e h = absurd (cc h)
  numbers m id p (Some n) e h = ap (same_number (Some m)) (continues (name_of id) n e) ∙ h

  numbered_ids : (m : ℕ) (id : Id) (q : Span) (o : Option ℕ) → k (name_of id) ≡ o → same_index (numbered_by o id) (index.Num m q) ≡ true
      → same_number (l.number space.Ty (name_of id)) (Some m) ≡ true
  numbered_ids m id q None e h = absurd (cc h)
  numbered_ids m id q (Some n) e h = ap (λ o. same_number o (Some m)) (continues (name_of id) n e) ∙ h

  ids_denote : (a b : Id) (o p : Option ℕ) → k (name_of a) ≡ o → k (name_of b) ≡ p → same_index (numbered_by o a) (numbered_by p b) ≡ true
      → first_unmet (ask_demands l (in_index space.Ty (index.Id a))) ≡ None
      → same_number (l.number space.Ty (name_of a)) (l.number space.Ty (name_of b)) ≡ true
  ids_denote a b (Some m) (Some n) e f h met = (λ i. same_number (continues (name_of a) m e i) (continues (name_of b) n f i)) ∙ h
  ids_denote a b (Some m) None e f h met = absurd (cc h)
  ids_denote a b None (Some n) e f h met = absurd (cc h)
  ids_denote a b None None e f h met =
      let same : name_of a ≡ name_of b = same_name_equal (name_of a) (name_of b) h in
      ap (λ r. same_number (l.number space.Ty (name_of a)) (l.number space.Ty r)) (sym same) ∙ same_some (l.number space.Ty (name_of a)) _ met

  index_denotes : (i j : Index) → same_index (resolved_index k i) (resolved_index k j) ≡ true
      → first_unmet (ask_demands l (in_index space.Ty i)) ≡ None → same_type l i j ≡ true
  index_denotes (index.Num m p) (index.Num n q) h met = h
  index_denotes (index.Num m p) (index.Id b) h met = numbers m b p (k (name_of b)) refl h
  index_denotes (index.Id a) (index.Num n q) h met = numbered_ids n a q (k (name_of a)) refl h
  index_denotes (index.Id a) (index.Id b) h met = ids_denote a b (k (name_of a)) (k (name_of b)) refl refl h met

  heap_denotes : (a b : HeapType) → same_heap_by same_index (mapped_heap (in_numbers k) a) (mapped_heap (in_numbers k) b) ≡ true
      → first_unmet (ask_demands l (in_heap a)) ≡ None → same_heap_by (same_type l) a b ≡ true
  heap_denotes (heap.Abstract s a) (heap.Abstract t b) h met = h
  heap_denotes (heap.Concrete i) (heap.Concrete j) h met = index_denotes i j h met
  heap_denotes (heap.Abstract s a) (heap.Concrete j) h met = h
  heap_denotes (heap.Concrete i) (heap.Abstract t b) h met = h
  heap_denotes (heap.Exact i) (heap.Exact j) h met = index_denotes i j h met
  heap_denotes (heap.Abstract s a) (heap.Exact j) h met = h
  heap_denotes (heap.Exact i) (heap.Abstract t b) h met = h
  heap_denotes (heap.Concrete i) (heap.Exact j) h met = h
  heap_denotes (heap.Exact i) (heap.Concrete j) h met = h

  abbrev told : ValType → ValType
  told v = mapped_val (in_numbers k) v

  asked_reference : (v : ValType) → in_val v ≡ if_there in_ref (reference_in v)
  asked_reference (value.Ref r) = refl
  asked_reference v = refl

  reference_denotes : (o p : Option RefType)
      → same_reference_by same_index (option_map (mapped_ref (in_numbers k)) o) (option_map (mapped_ref (in_numbers k)) p) ≡ true
      → first_unmet (ask_demands l (if_there in_ref o)) ≡ None → same_reference_by (same_type l) o p ≡ true
  reference_denotes None None h met = refl
  reference_denotes None (Some q) h met = h
  reference_denotes (Some r) None h met = h
  reference_denotes (Some r) (Some q) h met =
      let heaps = same_heap_by same_index (mapped_heap (in_numbers k) r.heap) (mapped_heap (in_numbers k) q.heap) in
      both_so (beq r.nullable q.nullable) (same_heap_by (same_type l) r.heap q.heap) (first_so (beq r.nullable q.nullable) heaps h)
      (heap_denotes r.heap q.heap (second_so (beq r.nullable q.nullable) heaps h) met)

  value_denotes : (v w : ValType) → same_value_by same_index (told v) (told w) ≡ true → first_unmet (ask_demands l (in_val v)) ≡ None
      → same_value_by (same_type l) v w ≡ true
  value_denotes v w h met =
      let ranks = value_rank v == value_rank w in
      let in_told : ValType → Option RefType = λ u. option_map (mapped_ref (in_numbers k)) (reference_in u) in
      let references = same_reference_by same_index (in_told v) (in_told w) in
      let both : ranks && references ≡ true =
      sym (λ i. rank_same (in_numbers k) v i == rank_same (in_numbers k) w i && same_reference_by same_index (reference_same (in_numbers k) v i)
      (reference_same (in_numbers k) w i)) ∙ h in
      both_so ranks (same_reference_by (same_type l) (reference_in v) (reference_in w)) (first_so ranks references both)
      (reference_denotes (reference_in v) (reference_in w) (second_so ranks references both)
      (ap (λ cs. first_unmet (ask_demands l cs)) (sym (asked_reference v)) ∙ met))

  values_denote : {A : Type 0} (f : A → ValType) (asks : A → List Check)
      → ((a : A) → first_unmet (ask_demands l (asks a)) ≡ None → first_unmet (ask_demands l (in_val (f a))) ≡ None)
      → (vs : List A) (ws : List ValType) → same_values_by same_index (map told (map f vs)) (map told ws) ≡ true
      → first_unmet (ask_demands l (flat_map asks vs)) ≡ None → same_values_by (same_type l) (map f vs) ws ≡ true
  values_denote f asks each [] [] h met = refl
  values_denote f asks each [] (w ∷ ws) h met = absurd (cc h)
  values_denote f asks each (a ∷ vs) [] h met = absurd (cc h)
  values_denote f asks each (a ∷ vs) (w ∷ ws) h met =
      let one = same_value_by same_index (told (f a)) (told w) in
      let rest = same_values_by same_index (map told (map f vs)) (map told ws) in
      let parts = met_parts (ask_demands l (asks a)) (ask_demands l (flat_map asks vs))
      (ap first_unmet (sym (flat_map-append (ask_demand l) (asks a) (flat_map asks vs))) ∙ met) in
      both_so (same_value_by (same_type l) (f a) w) (same_values_by (same_type l) (map f vs) ws) (value_denotes (f a) w (first_so one rest h) (each a parts.0))
      (values_denote f asks each vs ws (second_so one rest h) parts.1)

  param_met : (p : Option Id × Option NameAnnotation × ValType) → first_unmet (ask_demands l (in_param p)) ≡ None
      → first_unmet (ask_demands l (in_val p.2)) ≡ None
  param_met p met =
      (met_parts (ask_demands l (if_there in_id p.0)) (ask_demands l (in_val p.2))
      (ap first_unmet (sym (flat_map-append (ask_demand l) (if_there in_id p.0) (in_val p.2))) ∙ met)).1

  map_same : (vs : List ValType) → map (λ v. v) vs ≡ vs
  map_same [] = refl
  map_same (v ∷ vs) = ap (λ ws. v ∷ ws) (map_same vs)

-- so an inline type matches a signature that is equal after this replacement
pub numbers_match : (k : TypeNames) (l : IdContext) → Continues k l → (t : FunctionType) (s : Signature)
    → same_signature (numbered_signature k (signature_of t)) (numbered_signature k s) ≡ true → first_unmet (ask_demands l (in_signature t)) ≡ None
    → signatures_match l t s ≡ true
numbers_match k l continues t s h met =
    let params = same_values_by same_index (map (told k l continues) (map type_of_param t.params)) (map (told k l continues) s.0) in
    let results = same_values_by same_index (map (told k l continues) t.results) (map (told k l continues) s.1) in
    let parts = met_parts (ask_demands l (flat_map in_param t.params)) (ask_demands l (flat_map in_val t.results))
    (ap first_unmet (sym (flat_map-append (ask_demand l) (flat_map in_param t.params) (flat_map in_val t.results))) ∙ met) in
    both_so (same_values_by (same_type l) (map type_of_param t.params) s.0) (same_values_by (same_type l) t.results s.1)
    (values_denote k l continues type_of_param in_param (param_met k l continues) t.params s.0 (first_so params results h) parts.0)
    (ap (λ vs. same_values_by (same_type l) vs s.1) (sym (map_same k l continues t.results))
    ∙ values_denote k l continues (λ v. v) in_val (λ v m. m) t.results s.1
    (ap (λ vs. same_values_by same_index (map (told k l continues) vs) (map (told k l continues) s.1)) (map_same k l continues t.results)
    ∙ second_so params results h) parts.1)

-- If both look-ups agree on what passes a test.
module _ (ok : Check → Bool) (same same2 : Index → Index → Bool)
    (alike : (i j : Index) → ok (ItemIndex space.Ty i) ≡ true → ok (ItemIndex space.Ty j) ≡ true → same i j ≡ same2 i j) where
  index_passes : (i : Index) → pass ok (in_index space.Ty i) ≡ true → ok (ItemIndex space.Ty i) ≡ true
  index_passes i h = first_so (ok (ItemIndex space.Ty i)) true h

  exact_passes : (i : Index) → pass ok (in_heap (heap.Exact i)) ≡ true → ok (ItemIndex space.Ty i) ≡ true
  exact_passes i h = first_so (ok (ItemIndex space.Ty i)) (ok (Covered form.Descriptor false) && true) h

  heap_alike : (a b : HeapType) → pass ok (in_heap a) ≡ true → pass ok (in_heap b) ≡ true → same_heap_by same a b ≡ same_heap_by same2 a b
  heap_alike (heap.Abstract s a) (heap.Abstract t b) p q = refl
  heap_alike (heap.Concrete i) (heap.Concrete j) p q = alike i j (index_passes i p) (index_passes j q)
  heap_alike (heap.Abstract s a) (heap.Concrete j) p q = refl
  heap_alike (heap.Concrete i) (heap.Abstract t b) p q = refl
  heap_alike (heap.Exact i) (heap.Exact j) p q = alike i j (exact_passes i p) (exact_passes j q)
  heap_alike (heap.Abstract s a) (heap.Exact j) p q = refl
  heap_alike (heap.Exact i) (heap.Abstract t b) p q = refl
  heap_alike (heap.Concrete i) (heap.Exact j) p q = refl
  heap_alike (heap.Exact i) (heap.Concrete j) p q = refl

  value_alike : (v w : ValType) → value_passes ok v ≡ true → value_passes ok w ≡ true → same_value_by same v w ≡ same_value_by same2 v w
  value_alike (value.Ref a) (value.Ref b) p q = ap (λ c. beq a.nullable b.nullable && c) (heap_alike a.heap b.heap p q)
  value_alike v w p q = refl

  values_alike : (vs ws : List ValType) → list_all (value_passes ok) vs ≡ true → list_all (value_passes ok) ws ≡ true
      → same_values_by same vs ws ≡ same_values_by same2 vs ws
  values_alike [] ws p q = refl
  values_alike (v ∷ vs) [] p q = refl
  values_alike (v ∷ vs) (w ∷ ws) p q =
      ap (λ b. b && same_values_by same vs ws) (value_alike v w (first_so (value_passes ok v) (list_all (value_passes ok) vs) p)
      (first_so (value_passes ok w) (list_all (value_passes ok) ws) q))
      ∙ ap (λ b. same_value_by same2 v w && b) (values_alike vs ws (second_so (value_passes ok v) (list_all (value_passes ok) vs) p)
      (second_so (value_passes ok w) (list_all (value_passes ok) ws) q))

  pub signatures_alike : (s t : Signature) → values_pass (value_passes ok) s ≡ true → values_pass (value_passes ok) t ≡ true
      → same_signature_by same s t ≡ same_signature_by same2 s t
  signatures_alike s t p q =
      let all : List ValType → Bool = list_all (value_passes ok) in
      ap (λ b. b && same_values_by same s.1 t.1) (values_alike s.0 t.0 (first_so (all s.0) (all s.1) p) (first_so (all t.0) (all t.1) q))
      ∙ ap (λ b. same_values_by same2 s.0 t.0 && b) (values_alike s.1 t.1 (second_so (all s.0) (all s.1) p) (second_so (all t.0) (all t.1) q))
