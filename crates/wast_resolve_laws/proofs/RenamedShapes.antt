-- The types of a list, by index, with other names.
use Rattle.std.specs.Prelude.{⊤}
use Rattle.std.specs.List.{slice_get, list_any}
use Rattle.std.proofs.Common.{◌≡◌, ℕ, zero, suc, ◌+◌, Bool, true, false, cond, length, List, [], ◌∷◌, ◌++◌, map, Option, Some, None}
use Rattle.std.proofs.Common.{option_map, is_some, refl, sym, ap, ◌∙◌, subst}
use Rattle.std.proofs.lemmas.List.{length-map}
use Rattle.wast_base.specs.Ids.{Name, name_of, Mark, span_of_index}
use Rattle.wast_base.specs.Spaces.{name_if, position_of}
use Rattle.wast_tree_nodes.specs.Items.{field_ids, items}
use Rattle.wast_tree_nodes.specs.Known.{id_context}
use Rattle.wast_tree_nodes.specs.Sites.{Locals}
use Rattle.wast_tree_map.specs.Mapped.{mapped_val, named_struct_field, named_inner, mapped_type, mapped_field}
use Rattle.wast_tree_map.specs.Named.{Naming, renamed, renamed_mark, renamed_item, named_locals}
use Rattle.wast_tree_map.proofs.Alone.{items_named}
use Rattle.wast_expand_keys.specs.Signatures.{Signature}
use Rattle.wast_resolve_laws.specs.Tree.{Index, Space, FunctionType, TypeUse, InnerTypeKind, StructField, ModuleField}
use Rattle.wast_resolve_laws.specs.Tree.index
use Rattle.wast_resolve_laws.specs.Tree.inner
use Rattle.wast_resolve_laws.specs.Tree.space
use Rattle.wast_resolve_laws.specs.Tree.ty
use Rattle.wast_resolve_laws.specs.Tree.field
use Rattle.wast_resolve_rules.specs.Scopes.{Shape, Function, Struct, Other, struct_shape, shape_of, shapes_in, shapes_of_types, Scope}
use Rattle.wast_resolve_rules.specs.Scopes.{denoted, type_at, params_of, field_in, unsaid_params, implicit_param_count, local_number}
use Rattle.wast_resolve_rules.specs.Scopes.{field_number}
use Rattle.wast_resolve_laws.specs.Renaming.{Renaming, IsRenaming, renamed_index, renamed_type, renamed_use, renaming, renamed_fields}
use Rattle.wast_resolve_laws.proofs.OtherNames.{position_same, known_same, marks_same, signature_changed, names, ids_named}

-- the indices of a signature, with other names
abbrev pub renamed_signature : Renaming → Signature → Signature
renamed_signature r s = (map (mapped_val (λ t. renamed_index r)) s.0, map (mapped_val (λ t. renamed_index r)) s.1)

-- The data of a type, and that of the same type with other names.
abbrev pub ShapeAlike : Renaming → Shape → Shape → Type 0
ShapeAlike r (Function s) (Function t) = t ≡ renamed_signature r s
ShapeAlike r (Struct number) (Struct other) = (q : Name) → other (r.name q) ≡ number q
ShapeAlike r Other Other = ⊤
ShapeAlike r (Function s) (Struct other) = ⊥
ShapeAlike r (Function s) Other = ⊥
ShapeAlike r (Struct number) (Function t) = ⊥
ShapeAlike r (Struct number) Other = ⊥
ShapeAlike r Other (Function t) = ⊥
ShapeAlike r Other (Struct other) = ⊥

abbrev pub ShapesAlike : Renaming → List Shape → List Shape → Type 0
ShapesAlike r [] [] = ⊤
ShapesAlike r [] (y ∷ ys) = ⊥
ShapesAlike r (x ∷ xs) [] = ⊥
ShapesAlike r (x ∷ xs) (y ∷ ys) = ShapeAlike r x y × ShapesAlike r xs ys

abbrev pub FoundAlike : Renaming → Option Shape → Option Shape → Type 0
FoundAlike r None None = ⊤
FoundAlike r None (Some y) = ⊥
FoundAlike r (Some x) None = ⊥
FoundAlike r (Some x) (Some y) = ShapeAlike r x y

module _ (r : Renaming) where
  pub get_alike : (xs ys : List Shape) → ShapesAlike r xs ys → (k : ℕ) → FoundAlike r (slice_get xs k) (slice_get ys k)
  get_alike [] [] h k = tt
  get_alike [] (y ∷ ys) h k = absurd h
  get_alike (x ∷ xs) [] h k = absurd h
  get_alike (x ∷ xs) (y ∷ ys) h zero = h.0
  get_alike (x ∷ xs) (y ∷ ys) h (suc k) = get_alike xs ys h.1 k

  pub at_alike : (xs ys : List Shape) → ShapesAlike r xs ys → (o : Option ℕ) → FoundAlike r (type_at xs o) (type_at ys o)
  at_alike xs ys h None = tt
  at_alike xs ys h (Some k) = get_alike xs ys h k

  more_alike : (xs ys vs ws : List Shape) → ShapesAlike r xs ys → ShapesAlike r vs ws → ShapesAlike r (xs ++ vs) (ys ++ ws)
  more_alike [] [] vs ws h k = k
  more_alike [] (y ∷ ys) vs ws h k = absurd h
  more_alike (x ∷ xs) [] vs ws h k = absurd h
  more_alike (x ∷ xs) (y ∷ ys) vs ws h k = (h.0, more_alike xs ys vs ws h.1 k)

  -- the number of parameters of a type, and the numbers of its fields
  pub params_alike : (x y : Option Shape) → FoundAlike r x y → params_of y ≡ params_of x
  params_alike (Some (Function s)) (Some (Function t)) h = ap (λ (u : Signature). length u.0) h ∙ length-map s.0 (mapped_val (λ t. renamed_index r))
  params_alike None None h = refl
  params_alike (Some (Struct f)) (Some (Struct g)) h = refl
  params_alike (Some Other) (Some Other) h = refl
  params_alike x y h = absurd h

  pub field_alike : (x y : Option Shape) → FoundAlike r x y → (q : Name) → field_in y (r.name q) ≡ field_in x q
  field_alike (Some (Struct f)) (Some (Struct g)) h q = h q
  field_alike (Some (Function s)) (Some (Function t)) h q = refl
  field_alike None None h q = refl
  field_alike (Some Other) (Some Other) h q = refl
  field_alike x y h q = absurd h

module _ (r : Renaming) (is : IsRenaming r) where
  abbrev n : Naming
  n = r.name

  -- the ids of the fields of a struct
  some_same : (names : List (Option Name)) → list_any is_some (renamed n names) ≡ list_any is_some names
  some_same [] = refl
  some_same (None ∷ os) = some_same os
  some_same (Some q ∷ os) = refl

  struct_by : (b : Bool) (names : List (Option Name))
      → ShapeAlike r (cond b (Struct (λ q. position_of q names)) Other) (cond b (Struct (λ q. position_of q (renamed n names))) Other)
  struct_by true os = λ q. position_same n is.injective q os
  struct_by false os = tt

  struct_alike : (names : List (Option Name)) → ShapeAlike r (struct_shape names) (struct_shape (renamed n names))
  struct_alike names =
      subst (λ (b : Bool). ShapeAlike r (struct_shape names) (cond b (Struct (λ q. position_of q (renamed n names))) Other)) (sym (some_same names))
      (struct_by (list_any is_some names) names)

  field_marks : (fs : List StructField) → field_ids (map (named_struct_field (option_map r.id) (λ s. renamed_index r)) fs) ≡ map (renamed_mark n) (field_ids fs)
  field_marks [] = refl
  field_marks (f ∷ fs) = λ i. ids_named r is f.id i ∷ field_marks fs i

  field_names : (fs : List StructField) → map name_if (field_ids (map (named_struct_field (option_map r.id) (λ s. renamed_index r)) fs)) ≡ renamed n
      (map name_if (field_ids fs))
  field_names fs = ap (map name_if) (field_marks fs) ∙ marks_same n is.injective (field_ids fs)

  kind_alike : (k : InnerTypeKind) → ShapeAlike r (shape_of k) (shape_of (named_inner (option_map r.id) (λ s. renamed_index r) k))
  kind_alike (inner.Func t) = signature_changed (option_map r.id) (λ s. renamed_index r) t
  kind_alike (inner.Struct t) =
      subst (λ (ns : List (Option Name)). ShapeAlike r (struct_shape (map name_if (field_ids t.fields))) (struct_shape ns))
      (sym (field_names t.fields)) (struct_alike (map name_if (field_ids t.fields)))
  kind_alike (inner.Array t) = tt
  kind_alike (inner.Cont t) = tt

  types_alike : (ts : List ty.«Type»)
      → ShapesAlike r (map (λ (t : ty.«Type»). shape_of t.def.kind) ts) (map (λ (t : ty.«Type»). shape_of t.def.kind) (map (mapped_type (renaming r)) ts))
  types_alike [] = tt
  types_alike (t ∷ ts) = (kind_alike t.def.kind, types_alike ts)

  in_alike : (x : ModuleField) → ShapesAlike r (shapes_in x) (shapes_in (mapped_field (renaming r) x))
  in_alike (field.Ty t) = (kind_alike t.def.kind, tt)
  in_alike (field.Rec g) = types_alike g.types
  in_alike x = tt

  pub shapes_alike : (xs : List ModuleField) → ShapesAlike r (shapes_of_types xs) (shapes_of_types (renamed_fields r xs))
  shapes_alike [] = tt
  shapes_alike (x ∷ xs) = more_alike r (shapes_in x) (shapes_in (mapped_field (renaming r) x)) (shapes_of_types xs)
      (shapes_of_types (renamed_fields r xs)) (in_alike x) (shapes_alike xs)

  -- the identifier context of items
  pub items_are : (xs : List ModuleField) → items (renamed_fields r xs) ≡ map (renamed_item n) (items xs)
  items_are xs = items_named n (renaming r) (ids_named r is) (names r is) xs

  pub numbers_are : (xs : List ModuleField) (s : Space) (q : Name)
      → (id_context (items (renamed_fields r xs))).number s (n q) ≡ (id_context (items xs)).number s q
  numbers_are xs s q = ap (λ its. (id_context its).number s (n q)) (items_are xs) ∙ known_same n is.injective (items xs) s q

  -- an index, from the numbers of names
  pub denoted_same : (number other : Name → Option ℕ) → ((q : Name) → other (n q) ≡ number q) → (i : Index)
      → denoted other (renamed_index r i) ≡ denoted number i
  denoted_same number other h (index.Num k place) = refl
  denoted_same number other h (index.Id id) = ap (λ (m : Mark). other m.0) (is.calls id) ∙ h (name_of id)

  pub span_same : (i : Index) → span_of_index (renamed_index r i) ≡ span_of_index i
  span_same (index.Num k place) = refl
  span_same (index.Id id) = ap (λ (m : Mark). m.1) (is.calls id)

  -- The data of two scopes.
  module _ (c d : Scope) (numbers : (s : Space) (q : Name) → d.known.number s (n q) ≡ c.known.number s q) (types : ShapesAlike r c.types d.types) where
    pub type_denoted : (i : Index) → denoted (d.known.number space.Ty) (renamed_index r i) ≡ denoted (c.known.number space.Ty) i
    type_denoted i = denoted_same (c.known.number space.Ty) (d.known.number space.Ty) (numbers space.Ty) i

    pub at_index : (i : Index) → FoundAlike r (type_at c.types (denoted (c.known.number space.Ty) i)) (type_at d.types (denoted (c.known.number space.Ty) i))
    at_index i = at_alike r c.types d.types types (denoted (c.known.number space.Ty) i)

    unsaid_same : (o : Option Index) (t : Option FunctionType)
        → unsaid_params d (option_map (renamed_index r) o) (option_map (renamed_type r) t) ≡ unsaid_params c o t
    unsaid_same None None = refl
    unsaid_same (Some i) (Some t) = refl
    unsaid_same None (Some t) = refl
    unsaid_same (Some i) None = ap (λ o. params_of (type_at d.types o)) (type_denoted i)
        ∙ params_alike r (type_at c.types (denoted (c.known.number space.Ty) i)) (type_at d.types (denoted (c.known.number space.Ty) i)) (at_index i)

    pub nameless_same : (o : Option (TypeUse FunctionType)) → implicit_param_count d (option_map (renamed_use r) o) ≡ implicit_param_count c o
    nameless_same None = refl
    nameless_same (Some u) = unsaid_same u.index u.inline

    pub local_same : (l : Locals) (q : Name) → local_number d (named_locals n (renaming r) l) (n q) ≡ local_number c l q
    local_same l q = λ i. option_map (λ p. nameless_same l.owner i + p) (position_same n is.injective q l.names i)

    pub field_same : (owner : Index) (q : Name) → field_number d (renamed_index r owner) (n q) ≡ field_number c owner q
    field_same owner q =
        ap (λ o. field_in (type_at d.types o) (n q)) (type_denoted owner)
        ∙ field_alike r (type_at c.types (denoted (c.known.number space.Ty) owner)) (type_at d.types (denoted (c.known.number space.Ty) owner))
        (at_index owner) q
