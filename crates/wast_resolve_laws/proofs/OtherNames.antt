-- Other names leave positions, items and signatures the same.
use Rattle.std.specs.Bool.{beq}
use Rattle.std.specs.List.{position_or_len}
use Rattle.std.specs.Prelude.{nat_lt, if◌then◌else◌, ◌==◌}
use Rattle.std.proofs.Common.{◌≡◌, ◌+◌, Bool, true, false, not, true≢false, cond, ◌&&◌, length, List, [], ◌∷◌, ◌++◌, map, Option, Some}
use Rattle.std.proofs.Common.{None, option_map, is_some, refl, sym, ap, ◌∙◌}
use Rattle.std.proofs.lemmas.Bool.{false_from_ne_true}
use Rattle.std.proofs.lemmas.List.{length-map, map-append}
use Rattle.wast_base.specs.Ids.{Name, name_of, same_name, same_id, same_index, Mark, mark_of_option}
use Rattle.wast_base.specs.Spaces.{same_space, name_if, is_called, position_of, is_borne}
use Rattle.wast_base.specs.Blocks.{Blocks}
use Rattle.wast_resolve_labels.specs.OpenBlocks.{is_expected_label}
use Rattle.wast_base.proofs.Names.{same_name_equal, same_name_itself}
use Rattle.wast_tree_nodes.specs.Items.{Item}
use Rattle.wast_tree_nodes.specs.Known.{id_context, name_in, names_in}
use Rattle.wast_tree_nodes.specs.Sites.{param_marks}
use Rattle.wast_tree_map.specs.Mapped.{Indices, Ids, mapped_heap, mapped_ref, mapped_val, named_param, named_signature}
use Rattle.wast_tree_map.specs.Named.{Naming, RenamesIds, renamed, renamed_mark, renamed_item}
use Rattle.wast_tree_map.specs.Laws.{NamesItems}
use Rattle.wast_tree_map.proofs.Fields.{named_if}
use Rattle.wast_expand_keys.specs.Signatures.{Signature, signature_of, type_of_param, value_rank, reference_in, same_heap_by}
use Rattle.wast_expand_keys.specs.Signatures.{same_reference_by, same_value_by, same_values_by, same_signature_by}
use Rattle.wast_resolve_laws.specs.Tree.{Id, Index, Space, NameAnnotation, HeapType, RefType, ValType, FunctionType}
use Rattle.wast_resolve_laws.specs.Tree.space
use Rattle.wast_resolve_laws.specs.Tree.index
use Rattle.wast_resolve_laws.specs.Tree.heap
use Rattle.wast_resolve_laws.specs.Tree.value
use Rattle.wast_resolve_laws.specs.Renaming.{Renaming, IsRenaming, renamed_index, renamed_type, renaming}

-- Two names are equal exactly if the others are.
module _ (n : Naming) (injective : (a b : Name) → n a ≡ n b → a ≡ b) where
  pub name_same : (a b : Name) → same_name (n a) (n b) ≡ same_name a b
  name_same a b = by (same_name a b) refl
    where
      by : (c : Bool) → same_name a b ≡ c → same_name (n a) (n b) ≡ c
      by true h = ap (λ c. same_name (n a) (n c)) (sym (same_name_equal a b h)) ∙ same_name_itself (n a)
      by false h = false_from_ne_true (same_name (n a) (n b)) (λ t. true≢false (sym (same_name_itself a)
          ∙ (ap (same_name a) (injective a b (same_name_equal (n a) (n b) t)) ∙ h)))

  called_same : (q : Name) (o : Option Name) → is_called (n q) (option_map n o) ≡ is_called q o
  called_same q None = refl
  called_same q (Some o) = name_same q o

  place_same : (q : Name) (names : List (Option Name)) → position_or_len (is_called (n q)) (renamed n names) ≡ position_or_len (is_called q) names
  place_same q [] = refl
  place_same q (x ∷ xs) = λ i. cond (not (called_same q x i)) (1 + place_same q xs i) 0

  pub position_same : (q : Name) (names : List (Option Name)) → position_of (n q) (renamed n names) ≡ position_of q names
  position_same q names =
      ap (λ k. cond (nat_lt k (length (renamed n names))) (Some k) None) (place_same q names)
      ∙ ap (λ l. cond (nat_lt (position_or_len (is_called q) names) l) (Some (position_or_len (is_called q) names)) None) (length-map names (option_map n))

  pub borne_same : (q : Name) (names : List (Option Name)) → is_borne (n q) (renamed n names) ≡ is_borne q names
  borne_same q names = ap is_some (position_same q names)

  pub expects_same : (m : Option Mark) (blocks : Blocks) → is_expected_label (option_map n (name_if m)) (renamed n blocks) ≡ is_expected_label
      (name_if m) blocks
  expects_same None blocks = refl
  expects_same (Some m) [] = refl
  expects_same (Some m) (l ∷ ls) = called_same m.0 l

  -- the names of items
  name_by : (b : Bool) (m : Option Mark) → (if b then name_if (renamed_mark n m) ∷ [] else []) ≡ renamed n (if b then name_if m ∷ [] else [])
  name_by true m = ap (λ o. o ∷ []) (named_if n m)
  name_by false m = refl

  pub names_same : (s : Space) (xs : List Item) → names_in s (map (renamed_item n) xs) ≡ renamed n (names_in s xs)
  names_same s [] = refl
  names_same s (x ∷ xs) = (λ i. name_by (same_space s x.space) x.id i ++ names_same s xs i) ∙ sym (map-append (option_map n) (name_in s x) (names_in s xs))

  pub count_same : (s : Space) (xs : List Item) → length (names_in s (map (renamed_item n) xs)) ≡ length (names_in s xs)
  count_same s xs = ap length (names_same s xs) ∙ length-map (names_in s xs) (option_map n)

  pub known_same : (xs : List Item) (s : Space) (q : Name) → (id_context (map (renamed_item n) xs)).number s (n q) ≡ (id_context xs).number s q
  known_same xs s q = ap (position_of (n q)) (names_same s xs) ∙ position_same q (names_in s xs)

  pub marks_same : (ms : List (Option Mark)) → map name_if (map (renamed_mark n) ms) ≡ renamed n (map name_if ms)
  marks_same [] = refl
  marks_same (m ∷ ms) = λ i. named_if n m i ∷ marks_same ms i

-- A map of indices keeps the rank of a value type, and changes the reference type in it.
module _ (f : Indices) where
  pub rank_same : (v : ValType) → value_rank (mapped_val f v) ≡ value_rank v
  rank_same (value.Ref r) = refl
  rank_same v = refl

  pub reference_same : (v : ValType) → reference_in (mapped_val f v) ≡ option_map (mapped_ref f) (reference_in v)
  reference_same (value.Ref r) = refl
  reference_same v = refl

-- Types are compared by their indices alone.
module _ (f : Indices) (same other : Index → Index → Bool) (alike : (i j : Index) → other (f space.Ty i) (f space.Ty j) ≡ same i j) where
  heap_same : (a b : HeapType) → same_heap_by other (mapped_heap f a) (mapped_heap f b) ≡ same_heap_by same a b
  heap_same (heap.Abstract s a) (heap.Abstract t b) = refl
  heap_same (heap.Concrete i) (heap.Concrete j) = alike i j
  heap_same (heap.Abstract s a) (heap.Concrete j) = refl
  heap_same (heap.Concrete i) (heap.Abstract t b) = refl
  heap_same (heap.Exact i) (heap.Exact j) = alike i j
  heap_same (heap.Abstract s a) (heap.Exact j) = refl
  heap_same (heap.Exact i) (heap.Abstract t b) = refl
  heap_same (heap.Concrete i) (heap.Exact j) = refl
  heap_same (heap.Exact i) (heap.Concrete j) = refl

  references_same : (a b : Option RefType) → same_reference_by other (option_map (mapped_ref f) a) (option_map (mapped_ref f) b) ≡ same_reference_by same a b
  references_same None None = refl
  references_same (Some a) (Some b) = ap (λ c. beq a.nullable b.nullable && c) (heap_same a.heap b.heap)
  references_same None (Some b) = refl
  references_same (Some a) None = refl

  value_same : (v w : ValType) → same_value_by other (mapped_val f v) (mapped_val f w) ≡ same_value_by same v w
  value_same v w =
      (λ i. rank_same f v i == rank_same f w i && same_reference_by other (reference_same f v i) (reference_same f w i))
      ∙ ap (λ c. value_rank v == value_rank w && c) (references_same (reference_in v) (reference_in w))

  values_same : (vs ws : List ValType) → same_values_by other (map (mapped_val f) vs) (map (mapped_val f) ws) ≡ same_values_by same vs ws
  values_same [] [] = refl
  values_same [] (w ∷ ws) = refl
  values_same (v ∷ vs) [] = refl
  values_same (v ∷ vs) (w ∷ ws) = λ i. value_same v w i && values_same vs ws i

  -- a signature with changed indices
  abbrev pub changed_signature : Signature → Signature
  changed_signature s = (map (mapped_val f) s.0, map (mapped_val f) s.1)

  pub signatures_same : (s t : Signature) → same_signature_by other (changed_signature s) (changed_signature t) ≡ same_signature_by same s t
  signatures_same s t = λ i. values_same s.0 t.0 i && values_same s.1 t.1 i

-- the signature of a type with changed ids and indices
params_changed : (own : Ids) (f : Indices) (ps : List (Option Id × Option NameAnnotation × ValType))
    → map type_of_param (map (named_param own f) ps) ≡ map (mapped_val f) (map type_of_param ps)
params_changed own f [] = refl
params_changed own f (p ∷ ps) = ap (λ vs. mapped_val f p.2 ∷ vs) (params_changed own f ps)

pub signature_changed : (own : Ids) (f : Indices) (t : FunctionType)
    → signature_of (named_signature own f t) ≡ (map (mapped_val f) (signature_of t).0, map (mapped_val f) (signature_of t).1)
signature_changed own f t = ap (λ vs. (vs, map (mapped_val f) t.results)) (params_changed own f t.params)

-- The properties of a renaming.
module _ (r : Renaming) (is : IsRenaming r) where
  pub ids_named : NamesItems r.name (renaming r)
  ids_named None = refl
  ids_named (Some id) = ap Some (is.calls id)

  params_named : (ps : List (Option Id × Option NameAnnotation × ValType))
      → map (λ p. mark_of_option p.0) (map (named_param (option_map r.id) (λ s. renamed_index r)) ps) ≡ map (renamed_mark r.name)
      (map (λ p. mark_of_option p.0) ps)
  params_named [] = refl
  params_named (p ∷ ps) = λ i. ids_named p.0 i ∷ params_named ps i

  inline_named : (t : Option FunctionType) → param_marks (option_map (renamed_type r) t) ≡ map (renamed_mark r.name) (param_marks t)
  inline_named None = refl
  inline_named (Some t) = params_named t.params

  pub names : RenamesIds r.name (renaming r)
  names = record { params = λ u. inline_named u.inline; owns = ids_named }

  id_same : (a b : Id) → same_id (r.id a) (r.id b) ≡ same_id a b
  id_same a b = (λ i. same_name ((is.calls a i).0) ((is.calls b i).0)) ∙ name_same r.name is.injective (name_of a) (name_of b)

  -- indices are equal exactly if the others are
  pub index_same : (i j : Index) → same_index (renamed_index r i) (renamed_index r j) ≡ same_index i j
  index_same (index.Id a) (index.Id b) = id_same a b
  index_same (index.Num m p) (index.Num k q) = refl
  index_same (index.Num m p) (index.Id b) = refl
  index_same (index.Id a) (index.Num k q) = refl
