-- The checks of a module with other names.
use Rattle.std.specs.Prelude.{codes}
use Rattle.std.specs.List.{slice_get, flat_map}
use Rattle.std.specs.Option.{option_or}
use Rattle.std.proofs.Common.{◌≡◌, ℕ, false, not, List, [], ◌∷◌, ◌++◌, map, Option, Some, None, option_map, is_some, refl, sym, ap, ◌∙◌, subst}
use Rattle.std.proofs.lemmas.Grind.{flat_map-append}
use Rattle.std.proofs.lemmas.List.{map-append}
use Rattle.std.proofs.lemmas.List.Elements.{Contains-append_left}
use Rattle.wast_base.specs.Ids.{Name, name_of, text_of, Mark, mark_of, span_of_index}
use Rattle.wast_base.specs.Faults.{ImportAfter, Duplicate, OutOfBounds, NotFunc, NoMatch, Labels, NoNamedFields}
use Rattle.wast_base.specs.Spaces.{name_if, word_of, position_of, is_borne}
use Rattle.wast_base.specs.Blocks.{Blocks}
use Rattle.wast_resolve_labels.specs.OpenBlocks.{label_depth}
use Rattle.wast_tree_nodes.specs.Items.{Item, items}
use Rattle.wast_tree_nodes.specs.Known.{names_in}
use Rattle.wast_tree_nodes.specs.Sites.{Check, ItemIndex, Locals, Site, Asked, Used, Declared, LocalAt, FieldAt, LabelAt, Repeated, Begins}
use Rattle.wast_tree_nodes.specs.Sites.{Ends, in_type_use, asked_in, checks_of, in_module}
use Rattle.wast_tree_map.specs.Mapped.{mapped_func_kind, mapped_table_kind, mapped_global_kind, mapped_field}
use Rattle.wast_tree_map.specs.Named.{Naming, renamed, renamed_mark, renamed_item, named_locals, named_ask, named_site}
use Rattle.wast_tree_map.proofs.Ways.{option_at, index_in, both_at}
use Rattle.wast_tree_map.proofs.Types.{signature_at}
use Rattle.wast_tree_map.proofs.Laws.{stands_named}
use Rattle.wast_tree_map.proofs.Alone.{defines_alone}
use Rattle.wast_expand_keys.specs.Signatures.{signature_of, same_signature_by}
use Rattle.wast_resolve_laws.specs.Tree.{Span, Index, Space, FunctionType, TypeUse, FuncKind, TableKind, GlobalKind, ModuleField}
use Rattle.wast_resolve_laws.specs.Tree.func
use Rattle.wast_resolve_laws.specs.Tree.table
use Rattle.wast_resolve_laws.specs.Tree.global
use Rattle.wast_resolve_laws.specs.Tree.index
use Rattle.wast_resolve_laws.specs.Tree.space
use Rattle.wast_resolve_laws.specs.Tree.field
use Rattle.wast_resolve_rules.specs.Scopes.{Shape, Function, Struct, Other, Scope, module_scope, denoted, type_at, local_number}
use Rattle.wast_tree_nodes.specs.Profiles.{is_imported_func, is_imported_table, is_imported_global}
use Rattle.wast_resolve_rules.specs.ImportOrder.{imported_at, import_place, unless_import, last_defined, defined_word, nothing_defined, order_demand}
use Rattle.wast_resolve_rules.specs.Matches.{same_number, same_type, signatures_match}
use Rattle.wast_resolve_rules.specs.Demands.{Demand, one_demand, first_unmet, known_index, each_after, new_name_in, own_demand}
use Rattle.wast_resolve_rules.specs.Demands.{field_demand, field_demands, item_demand, item_demands, ask_demand, ask_demands, match_with}
use Rattle.wast_resolve_rules.specs.Demands.{match_demands, match_if, use_demand, named_field, field_at, access_demand, repeated_demand}
use Rattle.wast_resolve_rules.specs.Demands.{site_demand, site_demands, name_demands, order_demands, demands}
use Rattle.wast_resolve_laws.specs.Renaming.{Renaming, IsRenaming, renamed_index, renamed_type, renamed_use, renaming, renamed_fields}
use Rattle.wast_resolve_laws.specs.Renaming.{mark_if, index_marks, ask_marks, told_marks, RenamesFault}
use Rattle.wast_resolve_laws.proofs.Nameless.{by_names}
use Rattle.wast_resolve_laws.proofs.OtherNames.{position_same, borne_same, expects_same, names_same, marks_same, signatures_same, signature_changed, names}
use Rattle.wast_resolve_laws.proofs.RenamedShapes.{ShapesAlike, FoundAlike, get_alike, shapes_alike, items_are, numbers_are, span_same, type_denoted, at_index}
use Rattle.wast_resolve_laws.proofs.ToldNames.{AllAlike, both_alike, all_among, parts_alike, first_alike, one_alike, lone, told_alike}

-- the ids of struct fields that an error can have
abbrev pub fields_marks : List Item → List Mark
fields_marks xs = flat_map (λ x. flat_map mark_if x.fields) xs

abbrev asks_marks : List Check → List Mark
asks_marks asks = flat_map ask_marks asks

module _ (r : Renaming) (is : IsRenaming r) where
  abbrev n : Naming
  n = r.name

  -- Items.
  own_alike : (marks : List Mark) (before : List Item) (x : Item)
      → AllAlike n marks (own_demand before x) (own_demand (map (renamed_item n) before) (renamed_item n x))
  own_alike marks before x = by x.id
    where
      by : (id : Option Mark) → AllAlike n marks (new_name_in (word_of x.space) (names_in x.space before) id)
          (new_name_in (word_of x.space) (names_in x.space (map (renamed_item n) before)) (renamed_mark n id))
      by None = tt
      by (Some m) = one_alike n marks (Duplicate (word_of x.space)) m.1 refl
          (ap not (ap (is_borne (n m.0)) (names_same n is.injective x.space before) ∙ borne_same n is.injective m.0 (names_in x.space before)))

  field_told : (before : List (Option Mark)) (id : Option Mark)
      → AllAlike n (mark_if id) (field_demand before id) (field_demand (map (renamed_mark n) before) (renamed_mark n id))
  field_told before None = tt
  field_told before (Some m) = (
    record {
      fault = (m.0, (lone n m, (refl, refl)));
      place = refl;
      met = ap not (ap (is_borne (n m.0)) (marks_same n is.injective before) ∙ borne_same n is.injective m.0 (map name_if before));
    },
    tt,
  )

  fields_told : (before ids : List (Option Mark))
      → AllAlike n (flat_map mark_if ids) (each_after field_demand before ids)
      (each_after field_demand (map (renamed_mark n) before) (map (renamed_mark n) ids))
  fields_told before [] = tt
  fields_told before (id ∷ ids) =
      let old = each_after field_demand (before ++ id ∷ []) ids in
      parts_alike n (mark_if id) (flat_map mark_if ids) (field_demand before id) (field_demand (map (renamed_mark n) before) (renamed_mark n id)) old
      (each_after field_demand (map (renamed_mark n) before ++ renamed_mark n id ∷ []) (map (renamed_mark n) ids)) (field_told before id)
      (subst (λ (b : List (Option Mark)). AllAlike n (flat_map mark_if ids) old (each_after field_demand b (map (renamed_mark n) ids)))
      (map-append (renamed_mark n) before (id ∷ [])) (fields_told (before ++ id ∷ []) ids))

  items_told : (before xs : List Item)
      → AllAlike n (fields_marks xs) (each_after item_demand before xs) (each_after item_demand (map (renamed_item n) before) (map (renamed_item n) xs))
  items_told before [] = tt
  items_told before (x ∷ xs) =
      let own = flat_map mark_if x.fields in
      let old = each_after item_demand (before ++ x ∷ []) xs in
      parts_alike n own (fields_marks xs) (item_demand before x) (item_demand (map (renamed_item n) before) (renamed_item n x)) old
      (each_after item_demand (map (renamed_item n) before ++ renamed_item n x ∷ []) (map (renamed_item n) xs))
      (both_alike n own (own_demand before x) (own_demand (map (renamed_item n) before) (renamed_item n x)) (field_demands x.fields)
      (field_demands (map (renamed_mark n) x.fields)) (own_alike own before x) (fields_told [] x.fields))
      (subst (λ (b : List Item). AllAlike n (fields_marks xs) old (each_after item_demand b (map (renamed_item n) xs)))
      (map-append (renamed_item n) before (x ∷ [])) (items_told (before ++ x ∷ []) xs))

  -- An index whose name has a number in one look-up, and whose new name has it in the other.
  index_told : (number other : Name → Option ℕ) → ((q : Name) → other (n q) ≡ number q) → (word : List ℕ) (i : Index)
      → AllAlike n (index_marks i) (known_index number word i) (known_index other word (renamed_index r i))
  index_told number other h word (index.Num k place) = tt
  index_told number other h word (index.Id id) =
      told_alike n word (mark_of id) (mark_of (r.id id)) _ _ (is.calls id) (ap is_some (ap (λ (m : Mark). other m.0) (is.calls id) ∙ h (name_of id)))

  -- Sites, in two scopes.
  module _ (c d : Scope) (numbers : (s : Space) (q : Name) → d.known.number s (n q) ≡ c.known.number s q) (types : ShapesAlike r c.types d.types) where
    ask_told : (a : Check) → AllAlike n (ask_marks a) (ask_demand c.known a) (ask_demand d.known (named_ask n (renaming r).index a))
    ask_told (ItemIndex s i) = index_told (c.known.number s) (d.known.number s) (numbers s) (word_of s) i
    ask_told x = tt

    asks_told : (asks : List Check) → AllAlike n (asks_marks asks) (ask_demands c.known asks) (ask_demands d.known (map (named_ask n (renaming r).index) asks))
    asks_told [] = tt
    asks_told (a ∷ asks) =
        parts_alike n (ask_marks a) (asks_marks asks) (ask_demand c.known a) (ask_demand d.known (named_ask n (renaming r).index a))
        (ask_demands c.known asks) (ask_demands d.known (map (named_ask n (renaming r).index) asks)) (ask_told a) (asks_told asks)

    type_same : (i j : Index) → same_type d.known (renamed_index r i) (renamed_index r j) ≡ same_type c.known i j
    type_same i j = λ t. same_number (type_denoted r is c d numbers types i t) (type_denoted r is c d numbers types j t)

    -- an inline type, and the type at its index
    with_alike : (marks : List Mark) (place : Span) (t : FunctionType) (o other : Option Shape) → FoundAlike r o other
        → AllAlike n marks (match_with (signatures_match c.known t) place o) (match_with (signatures_match d.known (renamed_type r t)) place other)
    with_alike marks place t (Some (Function s)) (Some (Function u)) h =
        one_alike n marks NoMatch place refl
        ((λ i. same_signature_by (same_type d.known) (signature_changed (option_map r.id) (λ s. renamed_index r) t i) (h i))
        ∙ signatures_same (λ s. renamed_index r) (same_type c.known) (same_type d.known) type_same (signature_of t) s)
    with_alike marks place t None None h = one_alike n marks OutOfBounds place refl refl
    with_alike marks place t (Some (Struct number)) (Some (Struct other)) h = one_alike n marks NotFunc place refl refl
    with_alike marks place t (Some Other) (Some Other) h = one_alike n marks NotFunc place refl refl
    with_alike marks place t o other h = absurd h

    if_alike : (marks : List Mark) (i : Option Index) (t : Option FunctionType)
        → AllAlike n marks (match_if c i t) (match_if d (option_map (renamed_index r) i) (option_map (renamed_type r) t))
    if_alike marks (Some i) (Some t) =
        let there = denoted (c.known.number space.Ty) i in
        subst (λ (p : Span × Option ℕ). AllAlike n marks (match_demands c i t)
        (match_with (signatures_match d.known (renamed_type r t)) p.0 (type_at d.types p.1)))
        (λ j. (sym (span_same r is i) j, sym (type_denoted r is c d numbers types i) j))
        (with_alike marks (span_of_index i) t (type_at c.types there) (type_at d.types there) (at_index r is c d numbers types i))
    if_alike marks None None = tt
    if_alike marks None (Some t) = tt
    if_alike marks (Some i) None = tt

    use_asks : (u : TypeUse FunctionType) → in_type_use (renamed_use r u) ≡ map (named_ask n (renaming r).index) (in_type_use u)
    use_asks u = (both_at u.index u.inline (option_at (index_in space.Ty) u.index) (option_at signature_at u.inline)).stands n (renaming r) (names r is)

    use_told : (u : TypeUse FunctionType) → AllAlike n (asks_marks (in_type_use u)) (use_demand c u) (use_demand d (renamed_use r u))
    use_told u =
        let marks = asks_marks (in_type_use u) in
        both_alike n marks (ask_demands c.known (in_type_use u)) (ask_demands d.known (in_type_use (renamed_use r u))) (match_if c u.index u.inline)
        (match_if d (renamed_use r u).index (renamed_use r u).inline)
        (subst (λ (asks : List Check). AllAlike n marks (ask_demands c.known (in_type_use u)) (ask_demands d.known asks)) (sym (use_asks u))
        (asks_told (in_type_use u))) (if_alike marks u.index u.inline)

    -- a struct field access
    none_told : (k : ℕ) (m o : Mark) → o ≡ (n m.0, m.1) → AllAlike n (m ∷ []) (one_demand (NoNamedFields (text_of m.0) k) m.1 false)
        (one_demand (NoNamedFields (text_of o.0) k) o.1 false)
    none_told k m o e = (
      record {
        fault = (m.0, (lone n m, (refl, ap (λ (p : Mark). NoNamedFields (text_of p.0) k) e)));
        place = ap (λ (p : Mark). p.1) e;
        met = refl;
      },
      tt,
    )

    named_told : (k : ℕ) (m o : Mark) → o ≡ (n m.0, m.1) → (x y : Option Shape) → FoundAlike r x y → AllAlike n (m ∷ []) (named_field k x m) (named_field k y o)
    named_told k m o e (Some (Struct number)) (Some (Struct other)) h =
        told_alike n (codes "field") m o _ _ e (ap is_some (ap (λ (p : Mark). other p.0) e ∙ h m.0))
    named_told k m o e (Some (Function s)) (Some (Function t)) h = none_told k m o e
    named_told k m o e (Some Other) (Some Other) h = none_told k m o e
    named_told k m o e None None h = none_told k m o e
    named_told k m o e x y h = absurd h

    field_at_told : (o : Option ℕ) (i : Index) → AllAlike n (index_marks i) (field_at c.types o i) (field_at d.types o (renamed_index r i))
    field_at_told None i = tt
    field_at_told (Some k) (index.Num m place) = tt
    field_at_told (Some k) (index.Id id) = named_told k (mark_of id) (mark_of (r.id id)) (is.calls id) (slice_get c.types k) (slice_get d.types k)
        (get_alike r c.types d.types types k)

    access_told : (owner i : Index) → AllAlike n (asks_marks (asked_in (FieldAt owner i))) (access_demand c owner i)
        (access_demand d (renamed_index r owner) (renamed_index r i))
    access_told owner i =
        let there = denoted (c.known.number space.Ty) owner in
        parts_alike n (index_marks owner) (index_marks i ++ []) (ask_demand c.known (ItemIndex space.Ty owner))
        (ask_demand d.known (ItemIndex space.Ty (renamed_index r owner))) (field_at c.types there i)
        (field_at d.types (denoted (d.known.number space.Ty) (renamed_index r owner)) (renamed_index r i)) (ask_told (ItemIndex space.Ty owner))
        (all_among n (index_marks i) (index_marks i ++ []) (Contains-append_left (index_marks i) []) (field_at c.types there i)
        (field_at d.types (denoted (d.known.number space.Ty) (renamed_index r owner)) (renamed_index r i))
        (subst (λ (o : Option ℕ). AllAlike n (index_marks i) (field_at c.types there i) (field_at d.types o (renamed_index r i)))
        (sym (type_denoted r is c d numbers types owner)) (field_at_told there i)))

    -- a label that is repeated, and a local that is declared
    repeated_alike : (marks : List Mark) (blocks : Blocks) (m : Option Mark)
        → AllAlike n marks (repeated_demand blocks m) (repeated_demand (renamed n blocks) (renamed_mark n m))
    repeated_alike marks blocks None = tt
    repeated_alike marks blocks (Some m) = one_alike n marks Labels m.1 refl (expects_same n is.injective (Some m) blocks)

    declared_alike : (marks : List Mark) (before : List (Option Name)) (m : Option Mark)
        → AllAlike n marks (new_name_in (codes "local") before m) (new_name_in (codes "local") (renamed n before) (renamed_mark n m))
    declared_alike marks before None = tt
    declared_alike marks before (Some m) = one_alike n marks (Duplicate (codes "local")) m.1 refl (ap not (borne_same n is.injective m.0 before))

    -- a local among those with names
    local_told : (l : Locals) (i : Index) → AllAlike n (index_marks i) (known_index (local_number c l) (codes "local") i)
        (known_index (local_number d (named_locals n (renaming r) l)) (codes "local") (renamed_index r i))
    local_told l i =
        subst (λ (ds : List Demand). AllAlike n (index_marks i) ds (known_index (local_number d (named_locals n (renaming r) l)) (codes "local")
        (renamed_index r i))) (sym (by_names c l (codes "local") i))
        (subst (λ (es : List Demand). AllAlike n (index_marks i) (known_index (λ name. position_of name l.names) (codes "local") i) es)
        (sym (by_names d (named_locals n (renaming r) l) (codes "local") (renamed_index r i)))
        (index_told (λ name. position_of name l.names) (λ name. position_of name (renamed n l.names)) (λ q. position_same n is.injective q l.names)
        (codes "local") i))

    -- an index alone
    alone : (marks : List Mark) (ds es : List Demand) → AllAlike n marks ds es → AllAlike n (marks ++ []) ds es
    alone marks ds es h = all_among n marks (marks ++ []) (Contains-append_left marks []) ds es h

    site_told : (s : Site) → AllAlike n (asks_marks (asked_in s)) (site_demand c s) (site_demand d (named_site n (renaming r) s))
    site_told (Asked a) = alone (ask_marks a) (ask_demand c.known a) (ask_demand d.known (named_ask n (renaming r).index a)) (ask_told a)
    site_told (Used w u) = use_told u
    site_told (Declared before m) = declared_alike [] before m
    site_told (LocalAt l i) = alone (index_marks i) (site_demand c (LocalAt l i)) (site_demand d (named_site n (renaming r) (LocalAt l i))) (local_told l i)
    site_told (FieldAt owner i) = access_told owner i
    site_told (LabelAt blocks i) =
        alone (index_marks i) (site_demand c (LabelAt blocks i)) (site_demand d (named_site n (renaming r) (LabelAt blocks i)))
        (index_told (λ name. label_depth name blocks) (λ name. label_depth name (renamed n blocks)) (λ q. position_same n is.injective q blocks)
        (codes "label") i)
    site_told (Repeated blocks m) = repeated_alike (asks_marks (asked_in (Repeated blocks m))) blocks m
    site_told (Begins blocks m) = tt
    site_told Ends = tt

    sites_told : (ss : List Site) → AllAlike n (asks_marks (checks_of ss)) (site_demands c ss) (site_demands d (map (named_site n (renaming r)) ss))
    sites_told [] = tt
    sites_told (s ∷ ss) =
        let new = map (named_site n (renaming r)) ss in
        subst (λ (marks : List Mark). AllAlike n marks (site_demands c (s ∷ ss)) (site_demands d (named_site n (renaming r) s ∷ new)))
        (sym (flat_map-append ask_marks (asked_in s) (checks_of ss)))
        (parts_alike n (asks_marks (asked_in s)) (asks_marks (checks_of ss)) (site_demand c s) (site_demand d (named_site n (renaming r) s))
        (site_demands c ss) (site_demands d new) (site_told s) (sites_told ss))

  items_alike : (xs : List ModuleField) → AllAlike n (fields_marks (items xs)) (item_demands (items xs)) (item_demands (items (renamed_fields r xs)))
  items_alike xs = subst (λ (its : List Item). AllAlike n (fields_marks (items xs)) (item_demands (items xs)) (item_demands its))
      (sym (items_are r is xs)) (items_told [] (items xs))

  names_told : (xs : List ModuleField) → AllAlike n (told_marks xs) (name_demands xs) (name_demands (renamed_fields r xs))
  names_told xs =
      let c = module_scope xs in
      let d = module_scope (renamed_fields r xs) in
      let sites = in_module xs in
      parts_alike n (fields_marks (items xs)) (asks_marks (checks_of sites)) (item_demands (items xs)) (item_demands (items (renamed_fields r xs)))
      (site_demands c sites) (site_demands d (in_module (renamed_fields r xs)))
      (items_alike xs)
      (subst (λ (ss : List Site). AllAlike n (asks_marks (checks_of sites)) (site_demands c sites) (site_demands d ss))
      (sym (stands_named n (renaming r) (names r is) xs))
      (sites_told c d (numbers_are r is xs) (shapes_alike r is xs) sites))

  -- The order of imports.
  func_kept : (span : Span) (u : TypeUse FunctionType) (k : FuncKind)
      → imported_at span (Some (is_imported_func (mapped_func_kind (renaming r) u k))) ≡ imported_at span (Some (is_imported_func k))
  func_kept span u (func.Import source exact) = refl
  func_kept span u (func.Inline locals e) = refl

  table_kept : (span : Span) (k : TableKind) → imported_at span (Some (is_imported_table (mapped_table_kind (renaming r) k))) ≡ imported_at span
      (Some (is_imported_table k))
  table_kept span (table.Import source ty) = refl
  table_kept span x = refl

  global_kept : (span : Span) (k : GlobalKind) → imported_at span (Some (is_imported_global (mapped_global_kind (renaming r) k))) ≡ imported_at span
      (Some (is_imported_global k))
  global_kept span (global.Import source) = refl
  global_kept span (global.Inline e) = refl

  import_kept : (x : ModuleField) → import_place (mapped_field (renaming r) x) ≡ import_place x
  import_kept (field.Func f) = func_kept f.span f.ty f.kind
  import_kept (field.Table t) = table_kept t.span t.kind
  import_kept (field.Global g) = global_kept g.span g.kind
  import_kept x = refl

  last_kept : (xs : List ModuleField) → last_defined (renamed_fields r xs) ≡ last_defined xs
  last_kept [] = refl
  last_kept (x ∷ xs) = λ i. option_or (last_kept xs i) (unless_import (import_kept x i) (defines_alone (renaming r) x i))

  nothing_alike : (marks : List Mark) (last : Option Space) (place : Option Span) → AllAlike n marks (nothing_defined last place) (nothing_defined last place)
  nothing_alike marks last None = tt
  nothing_alike marks None (Some place) = tt
  nothing_alike marks (Some s) (Some place) = one_alike n marks (ImportAfter (defined_word s)) place refl refl

  order_alike : (marks : List Mark) (before : List ModuleField) (x : ModuleField)
      → AllAlike n marks (order_demand before x) (order_demand (renamed_fields r before) (mapped_field (renaming r) x))
  order_alike marks before x =
      subst (λ (ds : List Demand). AllAlike n marks (order_demand before x) ds)
      (λ i. nothing_defined (sym (last_kept before) i) (sym (import_kept x) i)) (nothing_alike marks (last_defined before) (import_place x))

  orders_alike : (marks : List Mark) (before xs : List ModuleField)
      → AllAlike n marks (each_after order_demand before xs) (each_after order_demand (renamed_fields r before) (renamed_fields r xs))
  orders_alike marks before [] = tt
  orders_alike marks before (x ∷ xs) =
      let old = each_after order_demand (before ++ x ∷ []) xs in
      both_alike n marks (order_demand before x) (order_demand (renamed_fields r before) (mapped_field (renaming r) x)) old
      (each_after order_demand (renamed_fields r before ++ mapped_field (renaming r) x ∷ []) (renamed_fields r xs)) (order_alike marks before x)
      (subst (λ (b : List ModuleField). AllAlike n marks old (each_after order_demand b (renamed_fields r xs)))
      (map-append (mapped_field (renaming r)) before (x ∷ [])) (orders_alike marks (before ++ x ∷ []) xs))

-- The first check that fails.
pub same_demands : (r : Renaming) → IsRenaming r → (xs : List ModuleField)
    → RenamesFault r.name (told_marks xs) (first_unmet (demands xs)) (first_unmet (demands (renamed_fields r xs)))
same_demands r is xs =
    first_alike r.name (told_marks xs) (demands xs) (demands (renamed_fields r xs))
    (both_alike r.name (told_marks xs) (order_demands xs) (order_demands (renamed_fields r xs)) (name_demands xs)
    (name_demands (renamed_fields r xs)) (orders_alike r is (told_marks xs) [] xs) (names_told r is xs))

-- and of the items alone
pub same_item_demands : (r : Renaming) → IsRenaming r → (xs : List ModuleField)
    → RenamesFault r.name (fields_marks (items xs)) (first_unmet (item_demands (items xs))) (first_unmet (item_demands (items (renamed_fields r xs))))
same_item_demands r is xs = first_alike r.name (fields_marks (items xs)) (item_demands (items xs)) (item_demands (items (renamed_fields r xs)))
    (items_alike r is xs)
