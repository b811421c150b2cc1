-- The items of the result are those of the fields, some with a generated id, and segments without ids.
use Rattle.std.proofs.Common.{◌≡◌, ℕ, ◌+◌, ◌<◌, ◌≤◌, Bool, true, false, ◌||◌, is_none, List, [], ◌∷◌, ◌++◌, map, append_assoc, append-nil}
use Rattle.std.proofs.Common.{Option, Some, None, refl, sym, ap, ◌∙◌, arith}
use Rattle.std.specs.List.{flat_map, list_all, list_any}
use Rattle.std.specs.Borrow.{Bor}
use Rattle.std.specs.Cmp.Derive.{both_true}
use Rattle.std.proofs.lemmas.Bool.{and_parts}
use Rattle.std.proofs.lemmas.Grind.{flat_map-append}
use Rattle.std.proofs.lemmas.List.Folds.{list_all-append, list_any-append}
use Rattle.wast_base.specs.Ids.{gensym_id}
use Rattle.wast_tree_nodes.specs.Items.{Item, item, items_in, items}
use Rattle.wast_base.specs.Filling.{one_if, given_if, missing_id_count}
use Rattle.wast_expand_inline.specs.Tree.{Span, Id, Index, Space, Func, FuncKind, Table, TableKind, Memory, MemoryKind, Global, GlobalKind}
use Rattle.wast_expand_inline.specs.Tree.{Tag, TagKind, ExportKind, ModuleField}
use Rattle.wast_expand_inline.specs.Tree.space
use Rattle.wast_expand_inline.specs.Tree.func
use Rattle.wast_expand_inline.specs.Tree.table
use Rattle.wast_expand_inline.specs.Tree.memory
use Rattle.wast_expand_inline.specs.Tree.global
use Rattle.wast_expand_inline.specs.Tree.tag_kind
use Rattle.wast_expand_inline.specs.Tree.field
use Rattle.wast_expand_inline.specs.Segments.{has_bytes, has_elements}
use Rattle.wast_expand_inline.specs.WriteOut.{Reference, export_of, data_in, elem_in, func_alone, table_alone, memory_alone, global_alone}
use Rattle.wast_expand_inline.specs.WriteOut.{tag_alone, desugar_field}
use Rattle.wast_expand_inline.specs.Referring.{by_id, by_position, exports_some, wants_id, with_item_id}
use Rattle.wast_expand_inline.specs.Written.{with_referred_ids, written_after}
use Rattle.wast_expand_inline.proofs.BothPass.{second_is, either_stays}

-- exports are not items
exported : (span : Span) (k : ExportKind) (i : Index) (names : List (Bor (List ℕ))) (ys : List ModuleField)
    → items (map (export_of span k i) names ++ ys) ≡ items ys
exported span k i [] ys = refl
exported span k i (name ∷ names) ys = exported span k i names ys

func_items : (f : Func) (k : FuncKind) → items (func_alone f k ∷ []) ≡ item space.Func f.id [] ∷ []
func_items f (func.Import source true) = refl
func_items f x = refl

global_items : (g : Global) (k : GlobalKind) → items (global_alone g k ∷ []) ≡ item space.Global g.id [] ∷ []
global_items g (global.Import source) = refl
global_items g (global.Inline e) = refl

tag_items : (t : Tag) (k : TagKind) → items (tag_alone t k ∷ []) ≡ item space.Tag t.id [] ∷ []
tag_items t (tag_kind.Import source) = refl
tag_items t tag_kind.Inline = refl

-- the index spaces of segments
abbrev pub is_of_segments : Space → Bool
is_of_segments space.Elem = true
is_of_segments space.Data = true
is_of_segments s = false

-- The segment of inline data or elements is an item without an id.
abbrev pub segment_if : Space → Bool → List Item
segment_if s true = item s None [] ∷ []
segment_if s false = []

abbrev pub segments : ModuleField → List Item
segments (field.Table t) = segment_if space.Elem (has_elements t.kind)
segments (field.Memory m) = segment_if space.Data (has_bytes m.kind)
segments x = []

table_items : (t : Table) (k : TableKind) (i : Index) → items (elem_in k t.span i ++ table_alone t k ∷ []) ≡ segment_if space.Elem
    (has_elements k) ++ item space.Table t.id [] ∷ []
table_items t (table.Import source ty) i = refl
table_items t x i = refl

memory_items : (m : Memory) (k : MemoryKind) (i : Index) → items (data_in k m.span i ++ memory_alone m k ∷ []) ≡ segment_if space.Data
    (has_bytes k) ++ item space.Memory m.id [] ∷ []
memory_items m (memory.Import source ty) i = refl
memory_items m x i = refl

pub field_items : (r : Reference) (x : ModuleField) → items (desugar_field r x) ≡ segments x ++ items_in x
field_items r (field.Func g) = exported _ _ _ g.exports.names _ ∙ func_items g g.kind
field_items r (field.Table t) = exported _ _ _ t.exports.names _ ∙ table_items t t.kind (r space.Table t.span t.id)
field_items r (field.Memory m) = exported _ _ _ m.exports.names _ ∙ memory_items m m.kind (r space.Memory m.span m.id)
field_items r (field.Global g) = exported _ _ _ g.exports.names _ ∙ global_items g g.kind
field_items r (field.Tag t) = exported _ _ _ t.exports.names _ ∙ tag_items t t.kind
field_items r x = append-nil (items_in x)

-- A function of items that ignores segments without ids has the same value on the expansion, by id and by position.
module _ {T : Type 0} (f : List Item → T) (skips : (s : Space) (xs : List Item) → is_of_segments s ≡ true → f (item s None [] ∷ xs) ≡ f xs)
    (more : (x : Item) (xs ys : List Item) → f xs ≡ f ys → f (x ∷ xs) ≡ f (x ∷ ys)) where
  more_each : (xs ys zs : List Item) → f ys ≡ f zs → f (xs ++ ys) ≡ f (xs ++ zs)
  more_each [] ys zs h = h
  more_each (x ∷ xs) ys zs h = more x (xs ++ ys) (xs ++ zs) (more_each xs ys zs h)

  skip_if : (s : Space) (b : Bool) (ys : List Item) → is_of_segments s ≡ true → f (segment_if s b ++ ys) ≡ f ys
  skip_if s true ys h = skips s ys h
  skip_if s false ys h = refl

  skip : (x : ModuleField) (ys : List Item) → f (segments x ++ ys) ≡ f ys
  skip (field.Table t) ys = skip_if space.Elem (has_elements t.kind) ys refl
  skip (field.Memory m) ys = skip_if space.Data (has_bytes m.kind) ys refl
  skip x ys = refl

  pub same_in_field : (r : Reference) (x : ModuleField) → f (items (desugar_field r x)) ≡ f (items_in x)
  same_in_field r x = ap f (field_items r x) ∙ skip x (items_in x)

  same_behind : (r : Reference) (x : ModuleField) (ys zs : List ModuleField) → f (items ys) ≡ f (items zs)
      → f (items (desugar_field r x ++ ys)) ≡ f (items (x ∷ zs))
  same_behind r x ys zs h =
      ap f (flat_map-append items_in (desugar_field r x) ys ∙ (ap (λ xs. xs ++ items ys) (field_items r x) ∙ append_assoc (segments x) (items_in x) (items ys)))
      ∙ (skip x (items_in x ++ items ys) ∙ more_each (items_in x) (items ys) (items zs) h)

  pub same_of_items : (xs : List ModuleField) → f (items (flat_map (desugar_field by_id) xs)) ≡ f (items xs)
  same_of_items [] = refl
  same_of_items (x ∷ xs) = same_behind by_id x (flat_map (desugar_field by_id) xs) xs (same_of_items xs)

  pub same_after : (before : List Item) (xs : List ModuleField) → f (items (written_after before xs)) ≡ f (items xs)
  same_after before [] = refl
  same_after before (x ∷ xs) = same_behind (by_position before) x (written_after (before ++ items_in x) xs) xs (same_after (before ++ items_in x) xs)

-- A field that gets a generated id has one item, which had no id.
pub record IsGiven (n : ℕ) (xs ys : List Item) : Type 0 where
  pub s : Space
  pub p : Span
  pub old : xs ≡ item s None [] ∷ []
  pub new : ys ≡ item s (Some (gensym_id n p)) [] ∷ []

one_item : (n : ℕ) (s : Space) (p : Span) (id : Option Id) → is_none id ≡ true → IsGiven n (item s id [] ∷ []) (item s (Some (gensym_id n p)) [] ∷ [])
one_item n s p None h = record { s = s; p = p; old = refl; new = refl }
one_item n s p (Some id) h = absurd cc

pub given : (n : ℕ) (x : ModuleField) → wants_id x ≡ true → IsGiven n (items_in x) (items_in (with_item_id n x))
given n (field.Func f) h = one_item n space.Func f.span f.id (second_is (exports_some f.exports) (is_none f.id) h)
given n (field.Table t) h = one_item n space.Table t.span t.id (second_is (exports_some t.exports || has_elements t.kind) (is_none t.id) h)
given n (field.Memory m) h = one_item n space.Memory m.span m.id (second_is (exports_some m.exports || has_bytes m.kind) (is_none m.id) h)
given n (field.Global g) h = one_item n space.Global g.span g.id (second_is (exports_some g.exports) (is_none g.id) h)
given n (field.Tag t) h = one_item n space.Tag t.span t.id (second_is (exports_some t.exports) (is_none t.id) h)
given n x h = absurd cc

-- If an item passes a test that no item without an id passes, one still does once ids are generated.
module _ (p : Item → Bool) (none : (s : Space) → p (item s None []) ≡ false) where
  any_given : (b : Bool) (n : ℕ) (x : ModuleField) → wants_id x ≡ b → list_any p (items_in x) ≡ true
      → list_any p (items_in (given_if b with_item_id n x)) ≡ true
  any_given false n x e h = h
  any_given true n x e h = let g = given n x e in absurd (cc (h, ap (list_any p) g.old, none g.s))

  pub any_referable : (n : ℕ) (xs : List ModuleField) → list_any p (items xs) ≡ true → list_any p (items (with_referred_ids n xs)) ≡ true
  any_referable n [] h = h
  any_referable n (x ∷ xs) h =
      let next = n + one_if (wants_id x) in
      list_any-append p (items_in (given_if (wants_id x) with_item_id n x)) (items (with_referred_ids next xs))
      ∙ either_stays (list_any p (items_in x)) (list_any p (items xs)) (list_any p (items_in (given_if (wants_id x) with_item_id n x)))
      (list_any p (items (with_referred_ids next xs)))
      (any_given (wants_id x) n x refl) (any_referable next xs) (sym (list_any-append p (items_in x) (items xs)) ∙ h)

-- If each item passes a test, each still does once ids are generated, provided that items with the new ids pass it.
module _ (p : Item → Bool) (m : ℕ) (made : (k : ℕ) (s : Space) (at : Span) → k < m → p (item s (Some (gensym_id k at)) []) ≡ true) where
  all_given : (b : Bool) (n : ℕ) (x : ModuleField) → wants_id x ≡ b → n + one_if b ≤ m → list_all p (items_in x) ≡ true
      → list_all p (items_in (given_if b with_item_id n x)) ≡ true
  all_given false n x e le h = h
  all_given true n x e le h = let g = given n x e in ap (list_all p) g.new ∙ both_true (made n g.s g.p (omega (arith, le))) refl

  pub all_referable : (n : ℕ) (xs : List ModuleField) → n + missing_id_count wants_id xs ≤ m → list_all p (items xs) ≡ true
      → list_all p (items (with_referred_ids n xs)) ≡ true
  all_referable n [] le h = h
  all_referable n (x ∷ xs) le h =
      let next = n + one_if (wants_id x) in
      let parts = and_parts (list_all p (items_in x)) (list_all p (items xs)) (sym (list_all-append p (items_in x) (items xs)) ∙ h) in
      list_all-append p (items_in (given_if (wants_id x) with_item_id n x)) (items (with_referred_ids next xs))
      ∙ both_true (all_given (wants_id x) n x refl (omega (arith, le)) parts.0) (all_referable next xs (omega (arith, le)) parts.1)
