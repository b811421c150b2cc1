-- With other names type uses append the same types, at the same positions.
use Rattle.std.specs.Prelude.{if◌then◌else◌, is_none, nat_lt, ◌==◌}
use Rattle.std.specs.List.{position, position_or_len, flat_map}
use Rattle.std.proofs.Common.{◌≡◌, ℕ, ◌+◌, Bool, true, false, not, cond, ◌||◌, ◌&&◌, length, List, [], ◌∷◌, ◌++◌, map, Option, Some, None}
use Rattle.std.proofs.Common.{option_map, refl, sym, ap, ◌∙◌}
use Rattle.std.proofs.lemmas.List.{length-map, map-append}
use Rattle.wast_base.specs.Ids.{Name, same_index}
use Rattle.wast_tree_nodes.specs.Sites.{if_there, Check, ItemIndex, Where, OfBlock, Site, Asked, Used, LocalAt, FieldAt, LabelAt, in_module}
use Rattle.wast_tree_nodes.specs.Types.{is_short}
use Rattle.wast_tree_map.specs.Mapped.{Ids, Change, JoinsAsk, Joins, named_param, named_inner, named_def, mapped_val, mapped_type, mapped_field}
use Rattle.wast_tree_map.specs.Named.{NamedJoins, named_site}
use Rattle.wast_tree_map.proofs.Laws.{stands_named, joins_named, joins, each_so}
use Rattle.wast_expand_keys.specs.Signatures.{Signature, same_signature}
use Rattle.wast_expand_keys.specs.NeedingUses.{inline_signature, needs_type, needed_if, needed_without, needed_at, needed_in, needed_signatures}
use Rattle.wast_expand_keys.specs.EligibleTypes.{is_final, has_no, is_eligible, kind_signature, taken_by}
use Rattle.wast_expand_keys.specs.ImpliedTypes.{eligible_in, eligible_signatures, needed_numbers, is_among, first_new, implied_signatures}
use Rattle.wast_expand_keys.specs.Numbers.{TypeNames, type_names, in_numbers, numbered_signature}
use Rattle.wast_expand_keys.specs.TypeSpace.{types_in, type_space, has_signature, index_for}
use Rattle.wast_expand_keys.specs.Expanders.{LookUp}
use Rattle.wast_expand_keys.specs.Expanded.{unnamed_param, unnamed_type, start_of_text, bound_if, bound_index, bound_inline, bound_use}
use Rattle.wast_expand_keys.specs.Expanded.{binding_change, bound_field}
use Rattle.wast_expand_keys.specs.Completed.{fields_with_implied_types}
use Rattle.wast_expand_keys.specs.Positioned.{position_for, fields_with_type_positions}
use Rattle.wast_expand_types.proofs.Staying.{binding_keeps}
use Rattle.wast_resolve_laws.specs.Tree.{Id, Index, NameAnnotation, ValType, FunctionType, InnerTypeKind, TypeDef, ModuleField}
use Rattle.wast_resolve_laws.specs.Tree.index
use Rattle.wast_resolve_laws.specs.Tree.space
use Rattle.wast_resolve_laws.specs.Tree.inner
use Rattle.wast_resolve_laws.specs.Tree.ty
use Rattle.wast_resolve_laws.specs.Tree.field
use Rattle.wast_resolve_laws.specs.Renaming.{Renaming, IsRenaming, renamed_index, renamed_type, renamed_use, renaming, renamed_fields}
use Rattle.wast_resolve_laws.proofs.OtherNames.{signatures_same, signature_changed, names, index_same}
use Rattle.wast_resolve_laws.proofs.RenamedNumbers.{number_same, values_same}
use Rattle.wast_resolve_laws.proofs.RenamedShapes.{renamed_signature, numbers_are}

-- a position in a list with changed items, if they pass the changed test as they passed the other
place_like : {A B : Type 0} (p : A → Bool) (q : B → Bool) (f : A → B) → ((x : A) → q (f x) ≡ p x) → (xs : List A)
    → position_or_len q (map f xs) ≡ position_or_len p xs
place_like p q f h [] = refl
place_like p q f h (x ∷ xs) = λ i. cond (not (h x i)) (1 + place_like p q f h xs i) 0

position_like : {A B : Type 0} (p : A → Bool) (q : B → Bool) (f : A → B) → ((x : A) → q (f x) ≡ p x) → (xs : List A) → position q (map f xs) ≡ position p xs
position_like p q f h xs =
    ap (λ k. cond (nat_lt k (length (map f xs))) (Some k) None) (place_like p q f h xs)
    ∙ ap (λ l. cond (nat_lt (position_or_len p xs) l) (Some (position_or_len p xs)) None) (length-map xs f)

module _ (r : Renaming) (is : IsRenaming r) where
  abbrev given : Ids
  given = option_map r.id

  abbrev told : Signature → Signature
  told = renamed_signature r

  told_same : (s t : Signature) → same_signature (told s) (told t) ≡ same_signature s t
  told_same s t = signatures_same (λ t. renamed_index r) same_index same_index (index_same r is) s t

  -- The signatures that type uses need.
  inline_told : (t : Option FunctionType) → inline_signature (option_map (renamed_type r) t) ≡ told (inline_signature t)
  inline_told None = refl
  inline_told (Some t) = signature_changed given (λ t. renamed_index r) t

  short_told : (t : FunctionType) → is_short (renamed_type r t) ≡ is_short t
  short_told t = λ i. (length-map t.params (named_param given (λ t. renamed_index r)) i) == 0 && nat_lt
      (length-map t.results (mapped_val (λ t. renamed_index r)) i) 2

  needs_told : (w : Where) (t : Option FunctionType) → needs_type w (option_map (renamed_type r) t) ≡ needs_type w t
  needs_told OfBlock None = refl
  needs_told OfBlock (Some t) = ap not (short_told t)
  needs_told x t = refl

  needed_told : (b : Bool) (s : Signature) → needed_if b (told s) ≡ map told (needed_if b s)
  needed_told true s = refl
  needed_told false s = refl

  use_told : (w : Where) (o : Option Index) (t : Option FunctionType)
      → needed_without w (option_map (renamed_index r) o) (option_map (renamed_type r) t) ≡ map told (needed_without w o t)
  use_told w None t = (λ i. needed_if (needs_told w t i) (inline_told t i)) ∙ needed_told (needs_type w t) (inline_signature t)
  use_told w (Some i) t = refl

  site_told : (s : Site) → needed_at (named_site r.name (renaming r) s) ≡ map told (needed_at s)
  site_told (Used w u) = use_told w u.index u.inline
  site_told x = refl

  sites_told : (ss : List Site) → needed_in (map (named_site r.name (renaming r)) ss) ≡ map told (needed_in ss)
  sites_told [] = refl
  sites_told (s ∷ ss) = (λ i. site_told s i ++ sites_told ss i) ∙ sym (map-append told (needed_at s) (needed_in ss))

  all_needed : (xs : List ModuleField) → needed_signatures (renamed_fields r xs) ≡ map told (needed_signatures xs)
  all_needed xs = ap needed_in (stands_named r.name (renaming r) (names r is) xs) ∙ sites_told (in_module xs)

  -- After ids of source types are replaced by numbers.
  numbers_same : (xs : List ModuleField) (q : Name) → type_names (renamed_fields r xs) (r.name q) ≡ type_names xs q
  numbers_same xs q = numbers_are r is xs space.Ty q

  module _ (k l : TypeNames) (numbers : (q : Name) → l (r.name q) ≡ k q) where
    numbered_told : (s : Signature) → numbered_signature l (told s) ≡ told (numbered_signature k s)
    numbered_told s = λ i. (
      values_same r is (in_numbers k) (in_numbers l) (λ t. number_same r is k l numbers) s.0 i,
      values_same r is (in_numbers k)
          (in_numbers l) (λ t. number_same r is k l numbers) s.1 i,
    )

    each_numbered : (ss : List Signature) → map (numbered_signature l) (map told ss) ≡ map told (map (numbered_signature k) ss)
    each_numbered [] = refl
    each_numbered (s ∷ ss) = λ i. numbered_told s i ∷ each_numbered ss i

    none_told : (is : List Index) → has_no (map (renamed_index r) is) ≡ has_no is
    none_told [] = refl
    none_told (i ∷ is) = refl

    is_none_told : (o : Option Index) → is_none (option_map (renamed_index r) o) ≡ is_none o
    is_none_told None = refl
    is_none_told (Some i) = refl

    eligible_told : (d : TypeDef) → is_eligible (named_def given (λ t. renamed_index r) d) ≡ is_eligible d
    eligible_told d = λ i. is_final d.final_type && (not d.shared && (none_told d.parents i && (is_none_told d.descriptor i && is_none_told d.describes i)))

    kind_told : (t : InnerTypeKind) → kind_signature (named_inner given (λ t. renamed_index r) t) ≡ option_map told (kind_signature t)
    kind_told (inner.Func t) = ap Some (signature_changed given (λ t. renamed_index r) t)
    kind_told x = refl

    some_told : (o : Option Signature) → option_map (numbered_signature l) (option_map told o) ≡ option_map told (option_map (numbered_signature k) o)
    some_told None = refl
    some_told (Some s) = ap Some (numbered_told s)

    if_taken : (b : Bool) (o : Option Signature) → (if b then option_map told o else None) ≡ option_map told (if b then o else None)
    if_taken true o = refl
    if_taken false o = refl

    taken_told : (d : TypeDef) → taken_by l (named_def given (λ t. renamed_index r) d) ≡ option_map told (taken_by k d)
    taken_told d =
        (λ i. if eligible_told d i then (ap (option_map (numbered_signature l)) (kind_told d.kind) ∙ some_told (kind_signature d.kind)) i else None)
        ∙ if_taken (is_eligible d) (option_map (numbered_signature k) (kind_signature d.kind))

    list_told : (o : Option Signature) → if_there (λ (s : Signature). s ∷ []) (option_map told o) ≡ map told (if_there (λ (s : Signature). s ∷ []) o)
    list_told None = refl
    list_told (Some s) = refl

    eligible_in_told : (x : ModuleField) → eligible_in l (mapped_field (renaming r) x) ≡ map told (eligible_in k x)
    eligible_in_told (field.Ty t) = ap (if_there (λ (s : Signature). s ∷ [])) (taken_told t.def) ∙ list_told (taken_by k t.def)
    eligible_in_told x = refl

    all_eligible : (xs : List ModuleField) → flat_map (eligible_in l) (renamed_fields r xs) ≡ map told (flat_map (eligible_in k) xs)
    all_eligible [] = refl
    all_eligible (x ∷ xs) = (λ i. eligible_in_told x i ++ all_eligible xs i) ∙ sym (map-append told (eligible_in k x) (flat_map (eligible_in k) xs))

  eligible_signatures_told : (xs : List ModuleField) → eligible_signatures (renamed_fields r xs) ≡ map told (eligible_signatures xs)
  eligible_signatures_told xs = all_eligible (type_names xs) (type_names (renamed_fields r xs)) (numbers_same xs) xs

  needed_numbers_told : (xs : List ModuleField) → needed_numbers (renamed_fields r xs) ≡ map told (needed_numbers xs)
  needed_numbers_told xs =
      ap (map (numbered_signature (type_names (renamed_fields r xs)))) (all_needed xs)
      ∙ each_numbered (type_names xs) (type_names (renamed_fields r xs)) (numbers_same xs) (needed_signatures xs)

  among_told : (ts : List Signature) (s : Signature) → is_among (map told ts) (told s) ≡ is_among ts s
  among_told [] s = refl
  among_told (t ∷ ts) s = λ i. told_same s t i || among_told ts s i

  new_told : (known other : Signature → Bool) → ((s : Signature) → other (told s) ≡ known s) → (ss : List Signature)
      → first_new other (map told ss) ≡ map told (first_new known ss)
  new_told known other h [] = refl
  new_told known other h (s ∷ ss) =
      (λ i. if h s i then new_told known other h ss i else
      (told s ∷ new_told (λ t. known t || same_signature t s) (λ t. other t || same_signature t (told s)) (λ t i. h t i || told_same t s i) ss i))
      ∙ by (known s) (first_new known ss) (first_new (λ t. known t || same_signature t s) ss)
    where
      by : (b : Bool) (xs ys : List Signature) → (if b then map told xs else (told s ∷ map told ys)) ≡ map told (if b then xs else (s ∷ ys))
      by true xs ys = refl
      by false xs ys = refl

  pub all_implied : (xs : List ModuleField) → implied_signatures (renamed_fields r xs) ≡ map told (implied_signatures xs)
  all_implied xs =
      (λ i. first_new (is_among (eligible_signatures_told xs i)) (needed_numbers_told xs i))
      ∙ new_told (is_among (eligible_signatures xs)) (is_among (map told (eligible_signatures xs))) (among_told (eligible_signatures xs)) (needed_numbers xs)

  -- The appended types.
  params_told : (vs : List ValType) → map unnamed_param (map (mapped_val (λ t. renamed_index r)) vs) ≡ map (named_param given (λ t. renamed_index r))
      (map unnamed_param vs)
  params_told [] = refl
  params_told (v ∷ vs) = ap (λ ps. unnamed_param (mapped_val (λ t. renamed_index r) v) ∷ ps) (params_told vs)

  type_told : (s : Signature) → unnamed_type (told s) ≡ mapped_field (renaming r) (unnamed_type s)
  type_told s =
      ap (λ (ps : List (Option Id × Option NameAnnotation × ValType)). field.Ty (record {
        span = start_of_text;
        id = None;
        name = None;
        def = record {
          kind = inner.Func (record { params = ps; results = (told s).1 });
          shared = false;
          parents = [];
          descriptor = None;
          describes = None;
          final_type = None;
        };
      }))
      (params_told s.0)

  types_told : (ss : List Signature) → map unnamed_type (map told ss) ≡ renamed_fields r (map unnamed_type ss)
  types_told [] = refl
  types_told (s ∷ ss) = λ i. type_told s i ∷ types_told ss i

  pub same_completed : (xs : List ModuleField) → fields_with_implied_types (renamed_fields r xs) ≡ renamed_fields r (fields_with_implied_types xs)
  same_completed xs = (λ i. renamed_fields r xs ++ (ap (map unnamed_type) (all_implied xs) ∙ types_told (implied_signatures xs)) i)
      ∙ sym (map-append (mapped_field (renaming r)) xs (map unnamed_type (implied_signatures xs)))

  -- Positions.
  abbrev no_signature : Option Signature
  no_signature = None

  members_told : (ts : List ty.«Type») → map (λ (t : ty.«Type»). no_signature) (map (mapped_type (renaming r)) ts) ≡ map (option_map told)
      (map (λ (t : ty.«Type»). no_signature) ts)
  members_told [] = refl
  members_told (t ∷ ts) = ap (λ os. None ∷ os) (members_told ts)

  module _ (k l : TypeNames) (numbers : (q : Name) → l (r.name q) ≡ k q) where
    in_told : (x : ModuleField) → types_in l (mapped_field (renaming r) x) ≡ map (option_map told) (types_in k x)
    in_told (field.Ty t) = ap (λ o. o ∷ []) (taken_told k l numbers t.def)
    in_told (field.Rec g) = members_told g.types
    in_told x = refl

    all_in : (xs : List ModuleField) → flat_map (types_in l) (renamed_fields r xs) ≡ map (option_map told) (flat_map (types_in k) xs)
    all_in [] = refl
    all_in (x ∷ xs) = (λ i. in_told x i ++ all_in xs i) ∙ sym (map-append (option_map told) (types_in k x) (flat_map (types_in k) xs))

  somes_told : (ss : List Signature) → map Some (map told ss) ≡ map (option_map told) (map Some ss)
  somes_told [] = refl
  somes_told (s ∷ ss) = ap (λ os. Some (told s) ∷ os) (somes_told ss)

  space_told : (xs : List ModuleField) → type_space (renamed_fields r xs) ≡ map (option_map told) (type_space xs)
  space_told xs =
      (λ i. all_in (type_names xs) (type_names (renamed_fields r xs)) (numbers_same xs) xs i ++ (ap (map Some) (all_implied xs)
      ∙ somes_told (implied_signatures xs)) i)
      ∙ sym (map-append (option_map told) (flat_map (types_in (type_names xs)) xs) (map Some (implied_signatures xs)))

  has_told : (s : Signature) (o : Option Signature) → has_signature (told s) (option_map told o) ≡ has_signature s o
  has_told s None = refl
  has_told s (Some t) = told_same s t

  pub index_told : (xs : List ModuleField) (s : Signature) → index_for (renamed_fields r xs) (told s) ≡ index_for xs s
  index_told xs s =
      let own = numbered_signature (type_names xs) s in
      (λ i. position (has_signature (numbered_told (type_names xs) (type_names (renamed_fields r xs)) (numbers_same xs) s i)) (space_told xs i))
      ∙ position_like (has_signature own) (has_signature (told own)) (option_map told) (has_told own) (type_space xs)

  -- Each type use with its position.
  module _ (find other : LookUp) (finds : (s : Signature) → other (told s) ≡ option_map (renamed_index r) (find s)) where
    if_told : (b : Bool) (o : Option Index) → bound_if b (option_map (renamed_index r) o) ≡ option_map (renamed_index r) (bound_if b o)
    if_told true o = refl
    if_told false o = refl

    bound_told : (w : Where) (o : Option Index) (t : Option FunctionType)
        → bound_index other w (option_map (renamed_index r) o) (option_map (renamed_type r) t) ≡ option_map (renamed_index r) (bound_index find w o t)
    bound_told w None t = (λ i. bound_if (needs_told w t i) ((ap other (inline_told t) ∙ finds (inline_signature t)) i))
        ∙ if_told (needs_type w t) (find (inline_signature t))
    bound_told w (Some i) t = refl

    inline_bound : (w : Where) (o : Option Index) (t : Option FunctionType)
        → bound_inline w (option_map (renamed_index r) o) (option_map (renamed_type r) t) ≡ option_map (renamed_type r) (bound_inline w o t)
    inline_bound OfBlock (Some i) t = refl
    inline_bound OfBlock None (Some t) = refl
    inline_bound OfBlock None None = refl
    inline_bound x o t = refl

    abbrev both : Change
    both = record (renaming r) { used = λ w u. bound_use other w (renamed_use r u) }

    asks_named : (a : Check) → JoinsAsk (renaming r).index (binding_change other).index both.index a
    asks_named (ItemIndex s i) = refl
    asks_named x = tt

    binds_named : (s : Site) → NamedJoins r.name (renaming r) (binding_change other) both s
    binds_named (Asked a) = asks_named a
    binds_named (Used w u) = refl
    binds_named (LocalAt locals i) = refl
    binds_named (FieldAt owner i) = (refl, refl)
    binds_named (LabelAt blocks i) = refl
    binds_named x = tt

    asks_kept : (a : Check) → JoinsAsk (binding_change find).index (renaming r).index both.index a
    asks_kept (ItemIndex s i) = refl
    asks_kept x = tt

    binds_kept : (s : Site) → Joins (binding_change find) (renaming r) both s
    binds_kept (Asked a) = asks_kept a
    binds_kept (Used w u) = λ i. record { index = sym (bound_told w u.index u.inline) i; inline = sym (inline_bound w u.index u.inline) i }
    binds_kept (LocalAt locals i) = refl
    binds_kept (FieldAt owner i) = (refl, refl)
    binds_kept (LabelAt blocks i) = refl
    binds_kept x = tt

    all_bound : (xs : List ModuleField) → map (bound_field other) (renamed_fields r xs) ≡ renamed_fields r (map (bound_field find) xs)
    all_bound xs =
        joins_named r.name (renaming r) (binding_change other) both (record { names = names r is; ids = λ o. refl; owns = λ o. refl }) xs
        (each_so (NamedJoins r.name (renaming r) (binding_change other) both) binds_named (in_module xs))
        ∙ sym (joins (binding_change find) (renaming r) both (record { keeps = binding_keeps find; ids = λ o. refl; owns = λ o. refl }) xs
        (each_so (Joins (binding_change find) (renaming r) both) binds_kept (in_module xs)))

  position_told : (o : Option ℕ) → option_map (λ k. index.Num k start_of_text) o ≡ option_map (renamed_index r) (option_map (λ k. index.Num k start_of_text) o)
  position_told None = refl
  position_told (Some k) = refl

  pub same_positioned : (xs : List ModuleField) → fields_with_type_positions (renamed_fields r xs) ≡ renamed_fields r (fields_with_type_positions xs)
  same_positioned xs =
      ap (map (bound_field (position_for (renamed_fields r xs)))) (same_completed xs)
      ∙ all_bound (position_for xs) (position_for (renamed_fields r xs)) (λ s. ap (option_map (λ k. index.Num k start_of_text)) (index_told xs s)
      ∙ position_told (index_for xs s)) (fields_with_implied_types xs)
