-- Proves EarlyStays: desugaring does not change the checks of the order of imports and of items.
use Rattle.std.proofs.Common.{◌≡◌, ℕ, Bool, true, false, cond, not, ◌||◌, List, [], ◌∷◌, ◌++◌, map, append_assoc, Option, Some, None, refl, sym, ap, ◌∙◌}
use Rattle.std.specs.Borrow.{Bor}
use Rattle.std.specs.Option.{option_or}
use Rattle.std.proofs.lemmas.Grind.{flat_map-append}
use Rattle.std.proofs.Math.Bool.{or-false}
use Rattle.wast_base.specs.Ids.{Name, Mark}
use Rattle.wast_base.specs.Faults.{Duplicate}
use Rattle.wast_base.specs.Spaces.{word_of, same_space, is_borne}
use Rattle.wast_tree_nodes.specs.Items.{Item, item, items_in, items}
use Rattle.wast_tree_nodes.specs.Known.{names_in}
use Rattle.wast_tree_nodes.specs.Sites.{in_module}
use Rattle.wast_tree_nodes.proofs.Bearing.{borne_by_both}
use Rattle.wast_expand_inline.specs.WriteOut.{Reference, export_of, elem_in, data_in, func_alone, table_alone, memory_alone, global_alone}
use Rattle.wast_expand_inline.specs.WriteOut.{tag_alone, desugar_field}
use Rattle.wast_expand_inline.specs.Referring.{by_position}
use Rattle.wast_expand_inline.specs.Written.{written_after, desugared_by_position}
use Rattle.wast_expand_inline.proofs.WrittenItems.{same_after}
use Rattle.wast_expand_keys.specs.Signatures.{Signature}
use Rattle.wast_expand_keys.specs.ImpliedTypes.{implied_signatures}
use Rattle.wast_expand_keys.specs.Expanded.{unnamed_type}
use Rattle.wast_resolve_laws.specs.Tree.{Span, Index, Space, ExportKind, FuncKind, Func, TableKind, Table, MemoryKind, Memory, GlobalKind}
use Rattle.wast_resolve_laws.specs.Tree.{Global, TagKind, Tag, ModuleField}
use Rattle.wast_resolve_laws.specs.Tree.space
use Rattle.wast_resolve_laws.specs.Tree.export
use Rattle.wast_resolve_laws.specs.Tree.func
use Rattle.wast_resolve_laws.specs.Tree.table
use Rattle.wast_resolve_laws.specs.Tree.memory
use Rattle.wast_resolve_laws.specs.Tree.global
use Rattle.wast_resolve_laws.specs.Tree.tag_kind
use Rattle.wast_resolve_laws.specs.Tree.field
use Rattle.wast_tree_nodes.specs.Profiles.{is_imported_func, is_imported_table, is_imported_memory, is_imported_global, is_imported_tag}
use Rattle.wast_resolve_rules.specs.ImportOrder.{imported_at, import_place, unless_import, defines, nothing_defined}
use Rattle.wast_resolve_rules.specs.Scopes.{module_scope}
use Rattle.wast_resolve_rules.specs.Explicit.{explicit_fields}
use Rattle.wast_resolve_rules.specs.Demands.{Demand, one_demand, first_unmet, each_after, own_demand, field_demands, item_demand}
use Rattle.wast_resolve_rules.specs.Demands.{item_demands, site_demands, order_demands, demands}
use Rattle.wast_resolve_rules.specs.Early.{early_demands}
use Rattle.wast_resolve_laws.specs.Laws.{EarlyStays, EarlyIsFirst, SitesComeAfter}
use Rattle.wast_resolve_laws.proofs.OrderKept.{completed_orders}
use Rattle.wast_resolve_rules.proofs.Orders.{orders_from, orders_are}
use Rattle.wast_resolve_rules.proofs.Unmet.{first_unmet-append, unmet_append}

-- the checks from a field on that has an inline import, or defines an item of a space
abbrev orders_at : Option Span → Space → Option Space → List ModuleField → List Demand
orders_at place s last ys = nothing_defined last place ++ orders_from (option_or (unless_import place (Some s)) last) ys

module _ (last : Option Space) (ys : List ModuleField) where
  -- exports have no such check
  exported : (span : Span) (k : ExportKind) (i : Index) (names : List (Bor (List ℕ)))
      → orders_from last (map (export_of span k i) names ++ ys) ≡ orders_from last ys
  exported span k i [] = refl
  exported span k i (name ∷ names) = exported span k i names

  -- neither have segments
  func_orders : (f : Func) (k : FuncKind)
      → orders_from last (func_alone f k ∷ ys) ≡ orders_at (imported_at f.span (Some (is_imported_func k))) space.Func last ys
  func_orders f (func.Import source exact) = refl
  func_orders f (func.Inline locals e) = refl

  table_orders : (t : Table) (k : TableKind) (i : Index) → orders_from last ((elem_in k t.span i ++ table_alone t k ∷ []) ++ ys) ≡ orders_at
      (imported_at t.span (Some (is_imported_table k))) space.Table last ys
  table_orders t (table.Import source ty) i = refl
  table_orders t x i = refl

  memory_orders : (m : Memory) (k : MemoryKind) (i : Index) → orders_from last ((data_in k m.span i ++ memory_alone m k ∷ []) ++ ys) ≡ orders_at
      (imported_at m.span (Some (is_imported_memory k))) space.Memory last ys
  memory_orders m (memory.Import source ty) i = refl
  memory_orders m x i = refl

  global_orders : (g : Global) (k : GlobalKind)
      → orders_from last (global_alone g k ∷ ys) ≡ orders_at (imported_at g.span (Some (is_imported_global k))) space.Global last ys
  global_orders g (global.Import source) = refl
  global_orders g (global.Inline e) = refl

  tag_orders : (t : Tag) (k : TagKind) → orders_from last (tag_alone t k ∷ ys) ≡ orders_at (imported_at t.span (Some (is_imported_tag k))) space.Tag last ys
  tag_orders t (tag_kind.Import source) = refl
  tag_orders t tag_kind.Inline = refl

-- after the exports of a field
module _ (last : Option Space) (span : Span) (k : ExportKind) (i : Index) (names : List (Bor (List ℕ))) (xs ys : List ModuleField) where
  behind_exports : orders_from last ((map (export_of span k i) names ++ xs) ++ ys) ≡ orders_from last (xs ++ ys)
  behind_exports = ap (orders_from last) (append_assoc (map (export_of span k i) names) xs ys) ∙ exported last (xs ++ ys) span k i names

field_orders : (r : Reference) (x : ModuleField) (last : Option Space) (ys : List ModuleField)
    → orders_from last (desugar_field r x ++ ys) ≡ nothing_defined last (import_place x) ++ orders_from (option_or (defines x) last) ys
field_orders r (field.Func f) last ys = behind_exports last f.span export.Func _ f.exports.names (func_alone f f.kind ∷ []) ys ∙ func_orders last ys f f.kind
field_orders r (field.Table t) last ys =
    let i : Index = r space.Table t.span t.id in
    behind_exports last t.span export.Table i t.exports.names (elem_in t.kind t.span i ++ table_alone t t.kind ∷ []) ys ∙ table_orders last ys t t.kind i
field_orders r (field.Memory m) last ys =
    let i : Index = r space.Memory m.span m.id in
    behind_exports last m.span export.Memory i m.exports.names (data_in m.kind m.span i ++ memory_alone m m.kind ∷ []) ys ∙ memory_orders last ys m m.kind i
field_orders r (field.Global g) last ys = behind_exports last g.span export.Global _ g.exports.names (global_alone g g.kind ∷ []) ys
    ∙ global_orders last ys g g.kind
field_orders r (field.Tag t) last ys = behind_exports last t.span export.Tag _ t.exports.names (tag_alone t t.kind ∷ []) ys ∙ tag_orders last ys t t.kind
field_orders r x last ys = refl

orders_after : (before : List Item) (xs : List ModuleField) (last : Option Space) → orders_from last (written_after before xs) ≡ orders_from last xs
orders_after before [] last = refl
orders_after before (x ∷ xs) last =
    field_orders (by_position before) x last (written_after (before ++ items_in x) xs)
    ∙ ap (λ ds. nothing_defined last (import_place x) ++ ds) (orders_after (before ++ items_in x) xs (option_or (defines x) last))

orders_stay : (fields : List ModuleField) → order_demands (explicit_fields fields) ≡ order_demands fields
orders_stay fields = completed_orders (desugared_by_position fields)
    ∙ (orders_are (desugared_by_position fields) ∙ (orders_after [] fields None ∙ sym (orders_are fields)))

-- Checks of items, from the names before them.
abbrev Borne : Type 0
Borne = Space → Name → Bool

abbrev own_by : Borne → Space → Option Mark → List Demand
own_by borne s None = []
own_by borne s (Some m) = one_demand (Duplicate (word_of s)) m.1 (not (borne s m.0))

abbrev with_item : Borne → Item → Borne
with_item borne x s q = borne s q || is_borne q (names_in s (x ∷ []))

abbrev clashes_by : Borne → List Item → List Demand
clashes_by borne [] = []
clashes_by borne (x ∷ xs) = (own_by borne x.space x.id ++ field_demands x.fields) ++ clashes_by (with_item borne x) xs

abbrev borne_in : List Item → Borne
borne_in before s q = is_borne q (names_in s before)

own_is : (before : List Item) (s : Space) (id : Option Mark) (fields : List (Option Mark))
    → own_demand before (record { space = s; id = id; fields = fields }) ≡ own_by (borne_in before) s id
own_is before s None fields = refl
own_is before s (Some m) fields = refl

same_borne : (a b : Borne) → ((s : Space) (q : Name) → a s q ≡ b s q) → a ≡ b
same_borne a b h = λ i. λ s q. h s q i

demands_are : (before xs : List Item) → each_after item_demand before xs ≡ clashes_by (borne_in before) xs
demands_are before [] = refl
demands_are before (x ∷ xs) =
    ap (λ ds. (ds ++ field_demands x.fields) ++ each_after item_demand (before ++ x ∷ []) xs) (own_is before x.space x.id x.fields)
    ∙ ap (λ ds. (own_by (borne_in before) x.space x.id ++ field_demands x.fields) ++ ds)
    (demands_are (before ++ x ∷ []) xs
    ∙ ap (λ borne. clashes_by borne xs) (same_borne (borne_in (before ++ x ∷ [])) (with_item (borne_in before) x)
    (λ s q. borne_by_both s q before (x ∷ []))))

-- An item without id and fields makes no difference.
bare_bears : (borne : Borne) (t : Space) → with_item borne (item t None []) ≡ borne
bare_bears borne t = same_borne (with_item borne (item t None [])) borne (λ s q. by_space q (borne s q) (same_space s t))
  where
    by_space : (q : Name) (a b : Bool) → (a || is_borne q (cond b (None ∷ []) [] ++ [])) ≡ a
    by_space q a true = or-false a
    by_space q a false = or-false a

-- the checks of some items, from the names before them
abbrev clashes : List Item → Borne → List Demand
clashes xs borne = clashes_by borne xs

skips : (s : Space) (xs : List Item) → clashes (item s None [] ∷ xs) ≡ clashes xs
skips s xs = λ i. λ borne. clashes_by (bare_bears borne s i) xs

more : (x : Item) (xs ys : List Item) → clashes xs ≡ clashes ys → clashes (x ∷ xs) ≡ clashes (x ∷ ys)
more x xs ys h = λ i. λ borne. (own_by borne x.space x.id ++ field_demands x.fields) ++ h i (with_item borne x)

behind : (xs : List Item) (ss : List Signature) → clashes (xs ++ items (map unnamed_type ss)) ≡ clashes xs
behind [] [] = refl
behind [] (s ∷ ss) = skips space.Ty (items (map unnamed_type ss)) ∙ behind [] ss
behind (x ∷ xs) ss = more x (xs ++ items (map unnamed_type ss)) xs (behind xs ss)

items_stay : (fields : List ModuleField) → item_demands (items (explicit_fields fields)) ≡ item_demands (items fields)
items_stay fields =
    let written = desugared_by_position fields in
    let types = map unnamed_type (implied_signatures written) in
    let same : clashes (items (explicit_fields fields)) ≡ clashes (items fields) =
    ap clashes (flat_map-append items_in written types)
    ∙ (behind (items written) (implied_signatures written) ∙ same_after clashes (λ s xs h. skips s xs) more [] fields) in
    demands_are [] (items (explicit_fields fields)) ∙ (ap (λ (f : Borne → List Demand). f (borne_in [])) same ∙ sym (demands_are [] (items fields)))

pub early_stays : EarlyStays
early_stays fields =
    ap (λ ds. ds ++ item_demands (items (explicit_fields fields))) (orders_stay fields) ∙ ap (λ ds. order_demands fields ++ ds) (items_stay fields)

module _ (fields : List ModuleField) where
  abbrev sites : List Demand
  sites = site_demands (module_scope (explicit_fields fields)) (in_module (explicit_fields fields))

  sites_behind : demands (explicit_fields fields) ≡ early_demands fields ++ sites
  sites_behind =
      sym (append_assoc (order_demands (explicit_fields fields)) (item_demands (items (explicit_fields fields))) sites)
      ∙ ap (λ ds. ds ++ sites) (early_stays fields)

pub early_is_first : EarlyIsFirst
early_is_first fields f h = ap first_unmet (sites_behind fields) ∙ unmet_append (early_demands fields) (sites fields) f h

pub sites_come_after : SitesComeAfter
sites_come_after fields h = ap first_unmet (sites_behind fields) ∙ first_unmet-append (early_demands fields) (sites fields) h
