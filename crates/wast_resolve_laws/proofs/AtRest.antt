-- Resolved fields have no id at an index and no new generated id, and they stay well formed.
use Rattle.std.proofs.Common.{◌≡◌, ℕ, suc, ◌<◌, ◌≤◌, Bool, true, ◌&&◌, List, [], ◌∷◌, refl, sym, ap, ◌∙◌, map}
use Rattle.std.specs.Prelude.{nat_lt, Option, Some, None, is_some}
use Rattle.std.specs.Cmp.{first_so, second_so}
use Rattle.std.specs.List.{flat_map, list_all, slice_get}
use Rattle.std.proofs.lemmas.Bool.{ltb-true, lt-ltb}
use Rattle.std.proofs.lemmas.List.Folds.{list_all-append, list_all-map}
use native.Mathlib.Omega.{arith}
use Rattle.wast_base.specs.Ids.{Name, name_of, mark_of, is_number, Mark}
use Rattle.wast_base.specs.Faults.{Cause}
use Rattle.wast_base.specs.Spaces.{is_settled_index}
use Rattle.wast_tree_nodes.specs.Items.{items}
use Rattle.wast_tree_nodes.specs.Sites.{Check, ItemIndex, InnerIndex, PlainId, Clause, Covered, Site, Asked, Used, Declared, LocalAt}
use Rattle.wast_tree_nodes.specs.Sites.{FieldAt, LabelAt, Repeated, Begins, Ends, in_type_use, mark_asked, asked_in, checks_of, in_module}
use Rattle.wast_tree_nodes.specs.Known.{IdContext, id_context}
use Rattle.wast_tree_nodes.specs.Generations.{generation_at, generation_in, greatest_item, greatest_asked, greatest_generation}
use Rattle.wast_tree_nodes.specs.WellFormed.{is_written_index, is_kept, are_kept, is_well_formed}
use Rattle.wast_tree_nodes.specs.Resolved.{is_numbered, are_numbered, has_numbers}
use Rattle.wast_tree_map.specs.Mapped.{mapped_ask, mapped_field, Each}
use Rattle.wast_tree_map.proofs.Alone.{items_alone}
use Rattle.wast_expand_inline.proofs.Below.{each_below, greatest_below}
use Rattle.wast_resolve_labels.specs.OpenBlocks.{label_depth}
use Rattle.wast_resolve_laws.specs.Tree.{Id, Span, Index, ModuleField}
use Rattle.wast_resolve_laws.specs.Tree.index
use Rattle.wast_resolve_laws.specs.Tree.space
use Rattle.wast_resolve_rules.specs.Scopes.{Shape, Function, Struct, Other, Scope, module_scope, denoted, type_at, field_in, local_number, field_number}
use Rattle.wast_resolve_rules.specs.Demands.{first_unmet, known_index, ask_demand, ask_demands, match_if, named_field, field_at}
use Rattle.wast_resolve_rules.specs.Demands.{site_demand, site_demands, item_demands, name_demands}
use Rattle.wast_resolve_rules.specs.Resolved.{numbered_at, numbered_by, resolved_index, numbering_change, resolved_fields}
use Rattle.wast_resolve_laws.proofs.Bodies.{IsOuter, all_outer}
use Rattle.wast_resolve_laws.proofs.OwnLocals.{outer, outer_use}
use Rattle.wast_resolve_laws.proofs.ImpliedSignatures.{both_so, all_pass, all_parts}
use Rattle.wast_resolve_laws.proofs.Standing.{numbered_in, asked_passes}
use Rattle.wast_resolve_rules.proofs.Numbering.{numbering_keeps}
use Rattle.wast_resolve_rules.proofs.Unmet.{met_parts}

-- an index whose check passes becomes a number
met_index : (f : Cause) (s : Span) (id : Id) (o : Option ℕ) → first_unmet (record { fault = f; place = s; met = is_some o } ∷ []) ≡ None
    → is_number (numbered_by o id) ≡ true
met_index f s id None h = cc
met_index f s id (Some n) h = refl

met_known : (number : Name → Option ℕ) (word : List ℕ) (i : Index) → first_unmet (known_index number word i) ≡ None → is_number (resolved_index number i) ≡ true
met_known number word (index.Num n span) h = refl
met_known number word (index.Id id) h = met_index _ _ id (number (name_of id)) h

known_denotes : (number : Name → Option ℕ) (word : List ℕ) (i : Index) → first_unmet (known_index number word i) ≡ None → is_some (denoted number i) ≡ true
known_denotes number word (index.Num n span) h = refl
known_denotes number word (index.Id id) h = by_number _ _ (number (name_of id)) h
  where
    by_number : (f : Cause) (s : Span) (o : Option ℕ) → first_unmet (record { fault = f; place = s; met = is_some o } ∷ []) ≡ None → is_some o ≡ true
    by_number f s None h = absurd (cc h)
    by_number f s (Some n) h = refl

-- so does that of a field, if that of its type has a number
met_field : (types : List Shape) (o : Option ℕ) (i : Index) → is_some o ≡ true → first_unmet (field_at types o i) ≡ None
    → is_number (resolved_index (field_in (type_at types o)) i) ≡ true
met_field types None i some h = absurd (cc some)
met_field types (Some n) (index.Num m span) some h = refl
met_field types (Some n) (index.Id id) some h = by_shape (slice_get types n) h
  where
    by_shape : (o : Option Shape) → first_unmet (named_field n o (mark_of id)) ≡ None → is_number (numbered_by (field_in o (name_of id)) id) ≡ true
    by_shape None h = absurd (cc h)
    by_shape (Some (Function s)) h = absurd (cc h)
    by_shape (Some (Struct number)) h = met_index _ _ id (number (name_of id)) h
    by_shape (Some Other) h = absurd (cc h)

-- no generated id is new
below_by : (id : Id) (o : Option ℕ) → generation_at (numbered_by o id) ≤ generation_at (index.Id id)
below_by id None = omega arith
below_by id (Some n) = omega arith

below_index : (number : Name → Option ℕ) (i : Index) → generation_at (resolved_index number i) ≤ generation_at i
below_index number (index.Num n span) = omega arith
below_index number (index.Id id) = below_by id (number (name_of id))

-- the ids that are kept stay, once each index is a number
number_settles : (number : Name → Option ℕ) (i : Index) → is_number i ≡ true → is_settled_index number i ≡ true
number_settles number (index.Num n span) h = refl
number_settles number (index.Id id) h = absurd (cc h)

number_written : (i : Index) → is_number i ≡ true → is_written_index i ≡ true
number_written (index.Num n span) h = refl
number_written (index.Id id) h = absurd (cc h)

-- an id without a check passes
mark_passes : (ok : Check → Bool) → ((m : Mark) → ok (PlainId m) ≡ true) → (m : Option Mark) → list_all ok (mark_asked m) ≡ true
mark_passes ok one None = refl
mark_passes ok one (Some m) = ap (λ b. b && true) (one m)

module _ (c : Scope) where
  abbrev numbered_ask : Check → Check
  numbered_ask a = mapped_ask (numbered_at c.known) a

  met_ask : (a : Check) → outer a ≡ a → first_unmet (ask_demand c.known a) ≡ None → is_numbered (numbered_ask a) ≡ true
  met_ask (ItemIndex s i) o h = met_known (c.known.number s) _ i h
  met_ask (InnerIndex i) o h = absurd (cc o)
  met_ask a o h = refl

  met_asks : (asks : List Check) → map outer asks ≡ asks → first_unmet (ask_demands c.known asks) ≡ None → are_numbered (map numbered_ask asks) ≡ true
  met_asks [] o h = refl
  met_asks (a ∷ asks) o h =
      let head : outer a ≡ a = cc in
      let tail : map outer asks ≡ asks = cc in
      let p = met_parts (ask_demand c.known a) (ask_demands c.known asks) h in
      ap (λ b. b && are_numbered (map numbered_ask asks)) (met_ask a head p.0) ∙ met_asks asks tail p.1

  -- If the checks of a site pass, its checks after numbering are of numbers.
  site_numbered : (s : Site) → IsOuter s → first_unmet (site_demand c s) ≡ None → are_numbered (numbered_in c s) ≡ true
  site_numbered (Asked a) o h = ap (λ b. b && true) (met_ask a o h)
  site_numbered (Used w u) o h = met_asks (in_type_use u) (outer_use u) (met_parts (ask_demands c.known (in_type_use u)) (match_if c u.index u.inline) h).0
  site_numbered (LocalAt locals i) o h = ap (λ b. b && true) (met_known (local_number c locals) _ i h)
  site_numbered (FieldAt owner i) o h =
      let known = c.known.number space.Ty in
      let p = met_parts (ask_demand c.known (ItemIndex space.Ty owner)) (field_at c.types (denoted known owner) i) h in
      both_so (is_number (resolved_index known owner)) (is_number (resolved_index (field_number c owner) i) && true) (met_known known _ owner p.0)
      (ap (λ b. b && true) (met_field c.types (denoted known owner) i (known_denotes known _ owner p.0) p.1))
  site_numbered (LabelAt blocks i) o h = ap (λ b. b && true) (met_known (λ name. label_depth name blocks) _ i h)
  site_numbered (Repeated blocks m) o h = mark_passes is_numbered (λ m. refl) m
  site_numbered (Begins blocks m) o h = mark_passes is_numbered (λ m. refl) m
  site_numbered (Declared before m) o h = refl
  site_numbered Ends o h = refl

  sites_numbered : (ss : List Site) → Each IsOuter ss → first_unmet (site_demands c ss) ≡ None → are_numbered (flat_map (numbered_in c) ss) ≡ true
  sites_numbered [] o h = refl
  sites_numbered (s ∷ ss) o h =
      let p = met_parts (site_demand c s) (site_demands c ss) h in
      list_all-append is_numbered (numbered_in c s) (flat_map (numbered_in c) ss)
      ∙ both_so (are_numbered (numbered_in c s)) (are_numbered (flat_map (numbered_in c) ss)) (site_numbered s o.0 p.0) (sites_numbered ss o.1 p.1)

  -- no generated id is new, below a bound
  module _ (m : ℕ) where
    abbrev is_under : Check → Bool
    is_under a = nat_lt (generation_in a) m

    under : (a b : Check) → generation_in b ≤ generation_in a → is_under a ≡ true → is_under b ≡ true
    under a b le h = let lt = ltb-true (generation_in a) m h in lt-ltb (generation_in b) m (omega (arith, le, lt))

    ask_under : (a : Check) → is_under a ≡ true → is_under (numbered_ask a) ≡ true
    ask_under (ItemIndex s i) h = under (ItemIndex s i) (ItemIndex s (numbered_at c.known s i)) (below_index (c.known.number s) i) h
    ask_under a h = h

    site_under : (s : Site) → list_all is_under (asked_in s) ≡ true → list_all is_under (numbered_in c s) ≡ true
    site_under (Asked a) h = ap (λ b. b && true) (ask_under a (first_so (is_under a) true h))
    site_under (Used w u) h = list_all-map is_under numbered_ask (in_type_use u)
        ∙ all_pass is_under (λ a. is_under (numbered_ask a)) ask_under (in_type_use u) h
    site_under (LocalAt locals i) h =
        ap (λ b. b && true) (under (InnerIndex i) (InnerIndex (resolved_index (local_number c locals) i)) (below_index (local_number c locals) i)
        (first_so (is_under (InnerIndex i)) true h))
    site_under (FieldAt owner i) h =
        let j : Index = resolved_index (field_number c owner) i in
        let both = is_under (InnerIndex i) && true in
        both_so (is_under (numbered_ask (ItemIndex space.Ty owner))) (is_under (InnerIndex j) && true)
        (ask_under (ItemIndex space.Ty owner) (first_so (is_under (ItemIndex space.Ty owner)) both h))
        (ap (λ b. b && true) (under (InnerIndex i) (InnerIndex j) (below_index (field_number c owner) i)
        (first_so (is_under (InnerIndex i)) true (second_so (is_under (ItemIndex space.Ty owner)) both h))))
    site_under (LabelAt blocks i) h =
        let number : Name → Option ℕ = λ name. label_depth name blocks in
        ap (λ b. b && true) (under (InnerIndex i) (InnerIndex (resolved_index number i)) (below_index number i) (first_so (is_under (InnerIndex i)) true h))
    site_under s h = h

    sites_under : (ss : List Site) → list_all is_under (checks_of ss) ≡ true → list_all is_under (flat_map (numbered_in c) ss) ≡ true
    sites_under ss h =
        all_parts is_under (numbered_in c) ss
        ∙ all_pass (λ s. list_all is_under (asked_in s)) (λ s. list_all is_under (numbered_in c s)) site_under ss (sym (all_parts is_under asked_in ss) ∙ h)

  pub items_stay : (fields : List ModuleField) → items (map (mapped_field (numbering_change c)) fields) ≡ items fields
  items_stay fields = items_alone (numbering_change c) (λ o. refl) (numbering_keeps c) fields

  module _ (l : IdContext) where
    kept_ask : (a : Check) → is_kept c.known a ≡ true → is_numbered (numbered_ask a) ≡ true → is_kept l (numbered_ask a) ≡ true
    kept_ask (ItemIndex s i) h n = number_settles (l.number s) (numbered_at c.known s i) n
    kept_ask (InnerIndex i) h n = h
    kept_ask (PlainId m) h n = refl
    kept_ask (Clause n holds) h m = h
    kept_ask (Covered form holds) h m = refl

    kept_asks : (asks : List Check) → are_kept c.known asks ≡ true → are_numbered (map numbered_ask asks) ≡ true → are_kept l (map numbered_ask asks) ≡ true
    kept_asks [] h n = refl
    kept_asks (a ∷ asks) h n =
        let b = numbered_ask a in
        let rest = map numbered_ask asks in
        ap (λ d. d && are_kept l rest) (kept_ask a (first_so (is_kept c.known a) (are_kept c.known asks) h) (first_so (is_numbered b) (are_numbered rest) n))
        ∙ kept_asks asks (second_so (is_kept c.known a) (are_kept c.known asks) h) (second_so (is_numbered b) (are_numbered rest) n)

    site_kept : (s : Site) → are_kept c.known (asked_in s) ≡ true → are_numbered (numbered_in c s) ≡ true → are_kept l (numbered_in c s) ≡ true
    site_kept (Asked a) h n = ap (λ b. b && true) (kept_ask a (first_so (is_kept c.known a) true h) (first_so (is_numbered (numbered_ask a)) true n))
    site_kept (Used w u) h n = kept_asks (in_type_use u) h n
    site_kept (LocalAt locals i) h n =
        let j : Index = resolved_index (local_number c locals) i in
        ap (λ b. b && true) (number_written j (first_so (is_number j) true n))
    site_kept (FieldAt owner i) h n =
        let owned = numbered_ask (ItemIndex space.Ty owner) in
        let j : Index = resolved_index (field_number c owner) i in
        both_so (is_kept l owned) (is_written_index j && true)
        (kept_ask (ItemIndex space.Ty owner) (first_so (is_kept c.known (ItemIndex space.Ty owner)) (is_written_index i && true) h)
        (first_so (is_numbered owned) (is_number j && true) n))
        (ap (λ b. b && true) (number_written j (first_so (is_number j) true (second_so (is_numbered owned) (is_number j && true) n))))
    site_kept (LabelAt blocks i) h n =
        let j : Index = resolved_index (λ name. label_depth name blocks) i in
        ap (λ b. b && true) (number_written j (first_so (is_number j) true n))
    site_kept (Repeated blocks m) h n = mark_passes (is_kept l) (λ m. refl) m
    site_kept (Begins blocks m) h n = mark_passes (is_kept l) (λ m. refl) m
    site_kept (Declared before m) h n = refl
    site_kept Ends h n = refl

    sites_kept : (ss : List Site) → are_kept c.known (checks_of ss) ≡ true → are_numbered (flat_map (numbered_in c) ss) ≡ true
        → are_kept l (flat_map (numbered_in c) ss) ≡ true
    sites_kept [] h n = refl
    sites_kept (s ∷ ss) h n =
        let now = numbered_in c s in
        let behind = flat_map (numbered_in c) ss in
        let kept = sym (list_all-append (is_kept c.known) (asked_in s) (checks_of ss)) ∙ h in
        let numbers = sym (list_all-append is_numbered now behind) ∙ n in
        list_all-append (is_kept l) now behind
        ∙ both_so (are_kept l now) (are_kept l behind)
        (site_kept s (first_so (are_kept c.known (asked_in s)) (are_kept c.known (checks_of ss)) kept)
        (first_so (are_numbered now) (are_numbered behind) numbers))
        (sites_kept ss (second_so (are_kept c.known (asked_in s)) (are_kept c.known (checks_of ss)) kept)
        (second_so (are_numbered now) (are_numbered behind) numbers))

-- So the checks after numbering are of numbers.
asks_numbered : (fields : List ModuleField) → first_unmet (name_demands fields) ≡ None
    → are_numbered (flat_map (numbered_in (module_scope fields)) (in_module fields)) ≡ true
asks_numbered fields met =
    let c = module_scope fields in
    sites_numbered c (in_module fields) (all_outer fields) (met_parts (item_demands (items fields)) (site_demands c (in_module fields)) met).1

pub all_numbered : (fields : List ModuleField) → first_unmet (name_demands fields) ≡ None → has_numbers (resolved_fields fields) ≡ true
all_numbered fields met = asked_passes (module_scope fields) is_numbered fields (asks_numbered fields met)

pub still_well_formed : (fields : List ModuleField) → is_well_formed fields ≡ true → first_unmet (name_demands fields) ≡ None
    → is_well_formed (resolved_fields fields) ≡ true
still_well_formed fields h met =
    let l = id_context (items (resolved_fields fields)) in
    asked_passes (module_scope fields) (is_kept l) fields (sites_kept (module_scope fields) l (in_module fields) h (asks_numbered fields met))

pub still_below : (fields : List ModuleField) → greatest_generation (resolved_fields fields) ≤ greatest_generation fields
still_below fields =
    let c = module_scope fields in
    let i : greatest_item (items (resolved_fields fields)) ≡ greatest_item (items fields) = ap greatest_item (items_stay c fields) in
    let g : ℕ = greatest_asked (checks_of (in_module fields)) in
    let each = each_below (suc g) generation_in (checks_of (in_module fields)) (omega arith) in
    let a : greatest_asked (checks_of (in_module (resolved_fields fields))) < suc g =
    greatest_below (suc g) generation_in (checks_of (in_module (resolved_fields fields))) (omega arith)
    (asked_passes c (λ x. nat_lt (generation_in x) (suc g)) fields (sites_under c (suc g) (in_module fields) each)) in
    omega (arith, i, a)
