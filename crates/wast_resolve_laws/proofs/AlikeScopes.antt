-- If two scopes have the same types and the same numbers for names that pass a test, sites that pass it have the same
-- checks, and functions the same sizes.
use Rattle.std.specs.Prelude.{cond, ◌&&◌}
use Rattle.std.proofs.Common.{◌≡◌, ℕ, zero, suc, ◌+◌, ◌<◌, length, Bool, true, not, List, [], ◌∷◌, ◌++◌, map, Option, Some, None, is_some}
use Rattle.std.proofs.Common.{refl, sym, ap, ◌∙◌, append-nil, false}
use Rattle.std.specs.Prelude.{codes}
use Rattle.std.specs.Cmp.{first_so, second_so}
use Rattle.std.specs.List.{flat_map, list_all, slice_get}
use Rattle.std.proofs.lemmas.Bool.{ltb-true}
use Rattle.std.proofs.lemmas.List.Folds.{list_all-append}
use Rattle.wast_base.specs.Ids.{Name, name_of, generation_of, mark_of, span_of_index}
use Rattle.wast_base.specs.Spaces.{word_of}
use Rattle.wast_tree_nodes.specs.Items.{items}
use Rattle.wast_tree_nodes.specs.Known.{id_context}
use Rattle.wast_tree_nodes.specs.Types.{types_of}
use Rattle.wast_tree_nodes.specs.Sites.{Check, ItemIndex, InnerIndex, Covered, Site, Asked, Used, LocalAt, FieldAt, if_there, in_index}
use Rattle.wast_tree_nodes.specs.Sites.{in_signature, in_inner, in_descriptor, in_type, in_rec, in_type_use, in_func_kind, asked_in}
use Rattle.wast_tree_nodes.specs.Sites.{in_field, in_module, checks_of}
use Rattle.wast_tree_nodes.proofs.Asking.{asked_both, asked_asking}
use Rattle.wast_expand_keys.specs.Signatures.{signature_of}
use Rattle.wast_resolve_laws.specs.Tree.{Index, Space, FunctionType, InnerTypeKind, ModuleField}
use Rattle.wast_resolve_laws.specs.Tree.index
use Rattle.wast_resolve_laws.specs.Tree.space
use Rattle.wast_resolve_laws.specs.Tree.inner
use Rattle.wast_resolve_laws.specs.Tree.ty
use Rattle.wast_resolve_laws.specs.Tree.field
use Rattle.wast_resolve_laws.specs.Tree.form
use Rattle.wast_resolve_rules.specs.Scopes.{Shape, Function, Struct, Other, Scope, module_scope, shape_of, shapes_in, shapes_of_types}
use Rattle.wast_resolve_rules.specs.Scopes.{denoted, type_at, unsaid_params}
use Rattle.wast_resolve_rules.specs.Matches.{same_number, same_type, signatures_match}
use Rattle.wast_resolve_rules.specs.Demands.{unknown_demand, ask_demand, ask_demands, match_with, match_demands, match_if, field_at}
use Rattle.wast_resolve_rules.specs.Demands.{site_demand, site_demands, declared_ids, body_counts_in, body_counts, open_counts}
use Rattle.wast_resolve_laws.proofs.CompletedAsks.{pass, value_passes, first_part, second_part, signature_needs, is_below}
use Rattle.wast_resolve_laws.proofs.ImpliedSignatures.{both_so, values_pass}
use Rattle.wast_resolve_laws.proofs.SameTypes.{signatures_alike}
use Rattle.wast_resolve_laws.proofs.Nameless.{by_names, unsaid_denoted}

module _ (ok : Check → Bool) where
  -- the checks of a type pass
  abbrev pub type_passes : Shape → Bool
  type_passes (Function s) = values_pass (value_passes ok) s
  type_passes (Struct number) = true
  type_passes Other = true

  struct_passes : (b : Bool) (number : Name → Option ℕ) → type_passes (cond b (Struct number) Other) ≡ true
  struct_passes true number = refl
  struct_passes false number = refl

  kind_type_passes : (k : InnerTypeKind) → pass ok (in_inner k) ≡ true → type_passes (shape_of k) ≡ true
  kind_type_passes (inner.Func t) h = signature_needs ok t h
  kind_type_passes (inner.Struct t) h = struct_passes _ _
  kind_type_passes (inner.Array t) h = refl
  kind_type_passes (inner.Cont t) h = refl

  type_type_passes : (t : ty.«Type») → pass ok (in_type t) ≡ true → type_passes (shape_of t.def.kind) ≡ true
  type_type_passes t h =
      let d = t.def in
      let last = Covered form.Shared (not d.shared) ∷ [] in
      let kind = in_inner d.kind ++ last in
      let rest = if_there in_descriptor d.describes ++ kind in
      kind_type_passes d.kind
      (first_part ok (in_inner d.kind) last
      (second_part ok (if_there in_descriptor d.describes) kind
      (second_part ok (if_there in_descriptor d.descriptor) rest
      (second_part ok (flat_map (in_index space.Ty) d.parents) (if_there in_descriptor d.descriptor ++ rest) h))))

  members_pass : (ms : List ty.«Type») → pass ok (flat_map in_type ms) ≡ true → list_all type_passes (map (λ t. shape_of t.def.kind) ms) ≡ true
  members_pass [] h = refl
  members_pass (m ∷ ms) h =
      both_so (type_passes (shape_of m.def.kind)) (list_all type_passes (map (λ t. shape_of t.def.kind) ms))
      (type_type_passes m (first_part ok (in_type m) (flat_map in_type ms) h)) (members_pass ms (second_part ok (in_type m) (flat_map in_type ms) h))

  -- the types of a field, one after another
  members_asked : (x : ModuleField) → pass ok (checks_of (in_field x)) ≡ true → pass ok (flat_map in_type (types_of x)) ≡ true
  members_asked (field.Ty t) h = ap (pass ok) (append-nil (in_type t)) ∙ (sym (ap (pass ok) (asked_asking (in_type t))) ∙ h)
  members_asked (field.Rec r) h = sym (ap (pass ok) (asked_asking (in_rec r))) ∙ h
  members_asked x h = refl

  all_types : (xs : List ModuleField) → pass ok (checks_of (in_module xs)) ≡ true → list_all type_passes (shapes_of_types xs) ≡ true
  all_types [] h = refl
  all_types (x ∷ xs) h =
      let both = sym (ap (pass ok) (asked_both (in_field x) (in_module xs))) ∙ h in
      list_all-append type_passes (shapes_in x) (shapes_of_types xs)
      ∙ both_so (list_all type_passes (shapes_in x)) (list_all type_passes (shapes_of_types xs))
      (members_pass (types_of x) (members_asked x (first_part ok (checks_of (in_field x)) (checks_of (in_module xs)) both)))
      (all_types xs (second_part ok (checks_of (in_field x)) (checks_of (in_module xs)) both))

  module _ (c d : Scope) (types : c.types ≡ d.types) (they_pass : list_all type_passes d.types ≡ true)
      (numbers : (s : Space) (i : Index) → ok (ItemIndex s i) ≡ true → denoted (c.known.number s) i ≡ denoted (d.known.number s) i) where
    ask_alike : (a : Check) → ok a ≡ true → ask_demand c.known a ≡ ask_demand d.known a
    ask_alike (ItemIndex s (index.Num n p)) h = refl
    ask_alike (ItemIndex s (index.Id id)) h = ap (λ o. unknown_demand (word_of s) (mark_of id) (is_some o)) (numbers s (index.Id id) h)
    ask_alike a h = refl

    asks_alike : (asks : List Check) → pass ok asks ≡ true → ask_demands c.known asks ≡ ask_demands d.known asks
    asks_alike [] h = refl
    asks_alike (a ∷ asks) h =
        ap (λ ds. ds ++ ask_demands c.known asks) (ask_alike a (first_so (ok a) (pass ok asks) h))
        ∙ ap (λ ds. ask_demand d.known a ++ ds) (asks_alike asks (second_so (ok a) (pass ok asks) h))

    type_alike : (i j : Index) → ok (ItemIndex space.Ty i) ≡ true → ok (ItemIndex space.Ty j) ≡ true → same_type c.known i j ≡ same_type d.known i j
    type_alike i j h k =
        ap (λ o. same_number o (denoted (c.known.number space.Ty) j)) (numbers space.Ty i h)
        ∙ ap (λ o. same_number (denoted (d.known.number space.Ty) i) o) (numbers space.Ty j k)

    -- the checks at a position pass
    abbrev found_passes : Option Shape → Bool
    found_passes None = true
    found_passes (Some t) = type_passes t

    get_passes : (ts : List Shape) (n : ℕ) → list_all type_passes ts ≡ true → found_passes (slice_get ts n) ≡ true
    get_passes [] n h = refl
    get_passes (t ∷ ts) zero h = first_so (type_passes t) (list_all type_passes ts) h
    get_passes (t ∷ ts) (suc n) h = get_passes ts n (second_so (type_passes t) (list_all type_passes ts) h)

    at_passes : (o : Option ℕ) → found_passes (type_at d.types o) ≡ true
    at_passes None = refl
    at_passes (Some n) = get_passes d.types n they_pass

    with_alike : (t : FunctionType) (i : Index) → values_pass (value_passes ok) (signature_of t) ≡ true → (o : Option Shape) → found_passes o ≡ true
        → match_with (signatures_match c.known t) (span_of_index i) o ≡ match_with (signatures_match d.known t) (span_of_index i) o
    with_alike t i h None k = refl
    with_alike t i h (Some (Struct number)) k = refl
    with_alike t i h (Some Other) k = refl
    with_alike t i h (Some (Function s)) k =
        ap (λ b. match_with (λ u. b) (span_of_index i) (Some (Function s))) (signatures_alike ok (same_type c.known) (same_type d.known) type_alike
        (signature_of t) s h k)

    match_alike : (i : Index) (t : FunctionType) → ok (ItemIndex space.Ty i) ≡ true → pass ok (in_signature t) ≡ true
        → match_demands c i t ≡ match_demands d i t
    match_alike i t h k =
        ap (λ o. match_with (signatures_match c.known t) (span_of_index i) (type_at c.types o)) (numbers space.Ty i h)
        ∙ (ap (λ ts. match_with (signatures_match c.known t) (span_of_index i) (type_at ts (denoted (d.known.number space.Ty) i))) types
        ∙ with_alike t i (signature_needs ok t k) (type_at d.types (denoted (d.known.number space.Ty) i)) (at_passes (denoted (d.known.number space.Ty) i)))

    if_alike : (i : Option Index) (t : Option FunctionType) → pass ok (if_there (in_index space.Ty) i ++ if_there in_signature t) ≡ true
        → match_if c i t ≡ match_if d i t
    if_alike None None h = refl
    if_alike None (Some t) h = refl
    if_alike (Some i) None h = refl
    if_alike (Some i) (Some t) h = match_alike i t (first_so (ok (ItemIndex space.Ty i)) (pass ok (in_signature t)) h)
        (second_so (ok (ItemIndex space.Ty i)) (pass ok (in_signature t)) h)

    site_alike : (s : Site) → pass ok (asked_in s) ≡ true → site_demand c s ≡ site_demand d s
    site_alike (Asked a) h = ask_alike a (first_so (ok a) true h)
    site_alike (Used w u) h =
        ap (λ ds. ds ++ match_if c u.index u.inline) (asks_alike (in_type_use u) h)
        ∙ ap (λ ds. ask_demands d.known (in_type_use u) ++ ds) (if_alike u.index u.inline h)
    site_alike (FieldAt owner i) h =
        let owned = first_so (ok (ItemIndex space.Ty owner)) (ok (InnerIndex i) && true) h in
        ap (λ ds. ds ++ field_at c.types (denoted (c.known.number space.Ty) owner) i) (ask_alike (ItemIndex space.Ty owner) owned)
        ∙ (ap (λ o. ask_demand d.known (ItemIndex space.Ty owner) ++ field_at c.types o i) (numbers space.Ty owner owned)
        ∙ ap (λ (ts : List Shape). ask_demand d.known (ItemIndex space.Ty owner) ++ field_at ts (denoted (d.known.number space.Ty) owner) i) types)
    site_alike (LocalAt locals i) h = by_names c locals (codes "local") i ∙ sym (by_names d locals (codes "local") i)
    site_alike s h = refl

    sites_alike : (ss : List Site) → pass ok (checks_of ss) ≡ true → site_demands c ss ≡ site_demands d ss
    sites_alike [] h = refl
    sites_alike (s ∷ ss) h =
        ap (λ ds. ds ++ site_demands c ss) (site_alike s (first_part ok (asked_in s) (checks_of ss) h))
        ∙ ap (λ ds. site_demand d s ++ ds) (sites_alike ss (second_part ok (asked_in s) (checks_of ss) h))

    -- and functions have as many parameters and locals
    unsaid_same : (i : Option Index) (t : Option FunctionType) → pass ok (if_there (in_index space.Ty) i ++ if_there in_signature t) ≡ true
        → unsaid_params c i t ≡ unsaid_params d i t
    unsaid_same i (Some t) h = refl
    unsaid_same None None h = refl
    unsaid_same (Some i) None h = unsaid_denoted c d types i i (numbers space.Ty i (first_so (ok (ItemIndex space.Ty i)) true h))

    body_alike : (x : ModuleField) → pass ok (checks_of (in_field x)) ≡ true → body_counts_in c x ≡ body_counts_in d x
    body_alike (field.Func f) h =
        ap (λ m. (m + length (declared_ids f.ty.inline f.kind)) ∷ open_counts (in_field (field.Func f)))
        (unsaid_same f.ty.index f.ty.inline (first_part ok (in_type_use f.ty) (checks_of (in_func_kind f.ty f.kind)) h))
    body_alike x h = refl

    bodies_alike : (xs : List ModuleField) → pass ok (checks_of (in_module xs)) ≡ true → flat_map (body_counts_in c) xs ≡ flat_map (body_counts_in d) xs
    bodies_alike [] h = refl
    bodies_alike (x ∷ xs) h =
        let both = sym (ap (pass ok) (asked_both (in_field x) (in_module xs))) ∙ h in
        ap (λ ns. ns ++ flat_map (body_counts_in c) xs) (body_alike x (first_part ok (checks_of (in_field x)) (checks_of (in_module xs)) both))
        ∙ ap (λ ns. body_counts_in d x ++ ns) (bodies_alike xs (second_part ok (checks_of (in_field x)) (checks_of (in_module xs)) both))

-- If two lists have the same types, and old names have the same numbers in both, sites with old names alone have the
-- same checks, and functions as many parameters.
module _ (n : ℕ) (xs ys : List ModuleField) (types : shapes_of_types xs ≡ shapes_of_types ys) (old : (s : Space) (q : Name) → generation_of q < n
    → (id_context (items xs)).number s q ≡ (id_context (items ys)).number s q) where
  denoted_alike : (s : Space) (i : Index) → is_below n (ItemIndex s i) ≡ true
      → denoted ((id_context (items xs)).number s) i ≡ denoted ((id_context (items ys)).number s) i
  denoted_alike s (index.Num m p) h = refl
  denoted_alike s (index.Id id) h = old s (name_of id) (ltb-true (generation_of (name_of id)) n h)

  pub old_uses : pass (is_below n) (checks_of (in_module ys)) ≡ true → site_demands (module_scope xs) (in_module ys) ≡ site_demands (module_scope ys)
      (in_module ys)
  old_uses below = sites_alike (is_below n) (module_scope xs) (module_scope ys) types (all_types (is_below n) ys below) denoted_alike (in_module ys) below

  pub old_bodies : pass (is_below n) (checks_of (in_module ys)) ≡ true → flat_map (body_counts_in (module_scope xs)) ys ≡ body_counts ys
  old_bodies below = bodies_alike (is_below n) (module_scope xs) (module_scope ys) types (all_types (is_below n) ys below) denoted_alike ys below
