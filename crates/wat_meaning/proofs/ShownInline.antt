-- Expanding the inline parts of fields does not look at names and strings.
--
-- So the expansion of fields without the addresses of their names is that of the fields, without the addresses.
--
--   (func (export "a")), at any address      (export "a" (func 0)) (func), with "a" at address 0
use Rattle.std.specs.Int.{div_ceil}
use Rattle.std.specs.List.{flat_map}
use Rattle.std.specs.Prelude.{not, ◌==◌}
use Rattle.std.proofs.Common.{◌≡◌, ℕ, ◌+◌, Bool, true, false, length, List, [], ◌∷◌, ◌++◌, map, Option, None, refl, ap, ◌∙◌, arith}
use Rattle.std.proofs.lemmas.Grind.{common_steps}
use Rattle.std.proofs.lemmas.List.{length-map}
use Rattle.wast_base.specs.Filling.{one_if, given_if, with_ids_from, missing_id_count}
use Rattle.wast_tree_nodes.specs.DataBytes.{data_bytes, all_bytes}
use Rattle.wast_tree_nodes.specs.Items.{Item, items_in}
use Rattle.wast_expand_inline.specs.Segments.{element_count, page_size, page_count, exact_limits, has_bytes, has_elements}
use Rattle.wast_expand_inline.specs.WriteOut.{Reference, export_of, exports_of, data_in, elem_in, func_alone, table_alone, memory_alone}
use Rattle.wast_expand_inline.specs.WriteOut.{global_alone, tag_alone, desugar_field}
use Rattle.wast_expand_inline.specs.Referring.{by_id, by_position, exports_some, wants_id, with_item_id}
use Rattle.wast_expand_inline.specs.Written.{with_referred_ids, desugared_from, reference_id_count, written_after, desugared_by_position}
use Rattle.wat_syntax.specs.Tree.{Span, Index, ElemPayload, DataVal, InlineExport, FuncKind, Func, TableKind, Table, MemoryKind, Memory}
use Rattle.wat_syntax.specs.Tree.{GlobalKind, Global, TagKind, Tag, ExportKind, ModuleField}
use Rattle.wat_syntax.specs.Tree.space
use Rattle.wat_syntax.specs.Tree.payload
use Rattle.wat_syntax.specs.Tree.bytes
use Rattle.wat_syntax.specs.Tree.func
use Rattle.wat_syntax.specs.Tree.table
use Rattle.wat_syntax.specs.Tree.memory
use Rattle.wat_syntax.specs.Tree.global
use Rattle.wat_syntax.specs.Tree.tag_kind
use Rattle.wat_syntax.specs.Tree.export
use Rattle.wat_syntax.specs.Tree.field
use Rattle.wat_syntax.specs.Bare.{bare_text}
use Rattle.wat_syntax.specs.BareFields.{bare_data_val, bare_exports, bare_memory_kind, bare_tag_kind}
use Rattle.wat_ready.specs.Shown.{shown_expression, shown_field, shown_fields, shown_func, shown_func_kind, shown_global, shown_global_kind}
use Rattle.wat_ready.specs.Shown.{shown_memory, shown_payload, shown_table, shown_table_kind, shown_tag}
use Rattle.wat_meaning.proofs.ShownInlineLists.{map_changed}
use Rattle.wat_meaning.proofs.ShownItems.{items_of_shown}
use Rattle.wat_ready.proofs.ShownLists.{flat_same, flat_changed, both_changed}

-- The exports, and the segment of inline data or elements.
exports_shown : (span : Span) (kind : ExportKind) (item : Index) (exports : InlineExport)
    → exports_of span kind item (bare_exports exports) ≡ shown_fields (exports_of span kind item exports)
exports_shown span kind item exports = map_changed bare_text shown_field (export_of span kind item) (λ text. refl) exports.names

data_shown : (k : MemoryKind) (span : Span) (item : Index) → data_in (bare_memory_kind k) span item ≡ shown_fields (data_in k span item)
data_shown (memory.Inline false pieces exponent) span item = refl
data_shown (memory.Inline true pieces exponent) span item = refl
data_shown x span item = refl

elem_shown : (k : TableKind) (span : Span) (item : Index) → elem_in (shown_table_kind k) span item ≡ shown_fields (elem_in k span item)
elem_shown (table.Inline ty false shared p) span item = refl
elem_shown (table.Inline ty true shared p) span item = refl
elem_shown x span item = refl

-- The field without inline parts, or its import. The sizes of a table and a memory do not depend on addresses.
func_shown : (f : Func) (k : FuncKind) → func_alone (shown_func f) (shown_func_kind k) ≡ shown_field (func_alone f k)
func_shown f (func.Import source true) = refl
func_shown f x = refl

count_shown : (p : ElemPayload) → element_count (shown_payload p) ≡ element_count p
count_shown (payload.Indices xs) = refl
count_shown (payload.Exprs ty es) = length-map es shown_expression

table_shown : (t : Table) (k : TableKind) → table_alone (shown_table t) (shown_table_kind k) ≡ shown_field (table_alone t k)
table_shown t (table.Import source ty) = refl
table_shown t (table.Normal ty init) = refl
table_shown t (table.Inline ty is64 shared p) =
    λ i. field.Table (record (shown_table t) {
      exports = record { names = [] };
      kind = table.Normal (record { limits = exact_limits is64 (count_shown p i); elem = ty; shared = shared }) None;
    })

piece_shown : (v : DataVal) → data_bytes (bare_data_val v) ≡ data_bytes v
piece_shown (bytes.String text) = refl
piece_shown (bytes.Integral xs) = refl

pub bytes_shown : (pieces : List DataVal) → all_bytes (map bare_data_val pieces) ≡ all_bytes pieces
bytes_shown pieces = flat_same bare_data_val data_bytes piece_shown pieces

pages_shown : (pieces : List DataVal) (o : Option ℕ) → page_count (map bare_data_val pieces) o ≡ page_count pieces o
pages_shown pieces o = ap (λ (bs : List ℕ). div_ceil (length bs) (page_size o)) (bytes_shown pieces)

memory_shown : (m : Memory) (k : MemoryKind) → memory_alone (shown_memory m) (bare_memory_kind k) ≡ shown_field (memory_alone m k)
memory_shown m (memory.Import source ty) = refl
memory_shown m (memory.Normal ty) = refl
memory_shown m (memory.Inline is64 pieces exponent) =
    λ i. field.Memory (record (shown_memory m) {
      exports = record { names = [] };
      kind = memory.Normal (record { limits = exact_limits is64 (pages_shown pieces exponent i); shared = false; page_size_log2 = exponent });
    })

global_shown : (g : Global) (k : GlobalKind) → global_alone (shown_global g) (shown_global_kind k) ≡ shown_field (global_alone g k)
global_shown g (global.Import source) = refl
global_shown g (global.Inline e) = refl

tag_shown : (t : Tag) (k : TagKind) → tag_alone (shown_tag t) (bare_tag_kind k) ≡ shown_field (tag_alone t k)
tag_shown t (tag_kind.Import source) = refl
tag_shown t tag_kind.Inline = refl

-- The fields that replace a field.
module _ (r : Reference) where
  -- the exports, and the fields after them
  one_shown : (span : Span) (kind : ExportKind) (item : Index) (exports : InlineExport) (rest : List ModuleField) {after : List ModuleField}
      → after ≡ shown_fields rest → exports_of span kind item (bare_exports exports) ++ after
      ≡ shown_fields (exports_of span kind item exports ++ rest)
  one_shown span kind item exports rest h =
      both_changed shown_field (exports_of span kind item exports) rest _ _ (exports_shown span kind item exports) h

  pub desugar_shown : (x : ModuleField) → desugar_field r (shown_field x) ≡ shown_fields (desugar_field r x)
  desugar_shown (field.Func x) =
      one_shown x.span export.Func (r space.Func x.span x.id) x.exports (func_alone x x.kind ∷ []) (ap (λ f. f ∷ []) (func_shown x x.kind))
  desugar_shown (field.Global x) =
      one_shown x.span export.Global (r space.Global x.span x.id) x.exports (global_alone x x.kind ∷ [])
      (ap (λ f. f ∷ []) (global_shown x x.kind))
  desugar_shown (field.Tag x) =
      one_shown x.span export.Tag (r space.Tag x.span x.id) x.exports (tag_alone x x.kind ∷ []) (ap (λ f. f ∷ []) (tag_shown x x.kind))
  desugar_shown (field.Table x) =
      let item = r space.Table x.span x.id in
      one_shown x.span export.Table item x.exports (elem_in x.kind x.span item ++ table_alone x x.kind ∷ [])
      (both_changed shown_field (elem_in x.kind x.span item) (table_alone x x.kind ∷ []) _ _
      (elem_shown x.kind x.span item) (ap (λ f. f ∷ []) (table_shown x x.kind)))
  desugar_shown (field.Memory x) =
      let item = r space.Memory x.span x.id in
      one_shown x.span export.Memory item x.exports (data_in x.kind x.span item ++ memory_alone x x.kind ∷ [])
      (both_changed shown_field (data_in x.kind x.span item) (memory_alone x x.kind ∷ []) _ _
      (data_shown x.kind x.span item) (ap (λ f. f ∷ []) (memory_shown x x.kind)))
  desugar_shown x = refl

-- References by position.
after_shown : (before : List Item) (xs : List ModuleField) → written_after before (shown_fields xs) ≡ shown_fields (written_after before xs)
after_shown before [] = refl
after_shown before (x ∷ xs) =
    both_changed shown_field (desugar_field (by_position before) x) (written_after (before ++ items_in x) xs) _ _
    (desugar_shown (by_position before) x)
    (ap (λ its. written_after (before ++ its) (shown_fields xs)) (items_of_shown x) ∙ after_shown (before ++ items_in x) xs)

pub shown_desugared : (xs : List ModuleField) → desugared_by_position (shown_fields xs) ≡ shown_fields (desugared_by_position xs)
shown_desugared xs = after_shown [] xs

-- References by id, from a counter. The same items need a generated id.
some_exported : (e : InlineExport) → exports_some (bare_exports e) ≡ exports_some e
some_exported e = ap (λ (n : ℕ). not (n == 0)) (length-map e.names bare_text)

with_bytes : (k : MemoryKind) → has_bytes (bare_memory_kind k) ≡ has_bytes k
with_bytes (memory.Import source ty) = refl
with_bytes x = refl

with_elements : (k : TableKind) → has_elements (shown_table_kind k) ≡ has_elements k
with_elements (table.Import source ty) = refl
with_elements x = refl

wants_shown : (x : ModuleField) → wants_id (shown_field x) ≡ wants_id x
wants_shown x = grind (arith, common_steps, some_exported, with_bytes, with_elements)

id_shown : (n : ℕ) (x : ModuleField) → with_item_id n (shown_field x) ≡ shown_field (with_item_id n x)
id_shown n (field.Func x) = refl
id_shown n x = refl

-- Generated ids for fields, in order, by any test and any way to write an id that do not look at names.
module _ (wants : ModuleField → Bool) (give : ℕ → ModuleField → ModuleField)
    (same_wants : (x : ModuleField) → wants (shown_field x) ≡ wants x)
    (same_give : (n : ℕ) (x : ModuleField) → give n (shown_field x) ≡ shown_field (give n x)) where
  given_shown : (b : Bool) (n : ℕ) (x : ModuleField) → given_if b give n (shown_field x) ≡ shown_field (given_if b give n x)
  given_shown true n x = same_give n x
  given_shown false n x = refl

  pub filled_shown : (n : ℕ) (xs : List ModuleField)
      → with_ids_from wants give n (shown_fields xs) ≡ shown_fields (with_ids_from wants give n xs)
  filled_shown n [] = refl
  filled_shown n (x ∷ xs) =
      (λ i. given_if (same_wants x i) give n (shown_field x) ∷ with_ids_from wants give (n + one_if (same_wants x i)) (shown_fields xs))
      ∙ (λ i. given_shown (wants x) n x i ∷ filled_shown (n + one_if (wants x)) xs i)

pub missing_shown : (wants : ModuleField → Bool) → ((x : ModuleField) → wants (shown_field x) ≡ wants x) → (xs : List ModuleField)
    → missing_id_count wants (shown_fields xs) ≡ missing_id_count wants xs
missing_shown wants same_wants [] = refl
missing_shown wants same_wants (x ∷ xs) = λ i. one_if (same_wants x i) + missing_shown wants same_wants xs i

pub shown_reference_count : (xs : List ModuleField) → reference_id_count (shown_fields xs) ≡ reference_id_count xs
shown_reference_count xs = missing_shown wants_id wants_shown xs

pub shown_desugared_from : (n : ℕ) (xs : List ModuleField) → desugared_from n (shown_fields xs) ≡ shown_fields (desugared_from n xs)
shown_desugared_from n xs =
    ap (flat_map (desugar_field by_id)) (filled_shown wants_id with_item_id wants_shown id_shown n xs)
    ∙ flat_changed shown_field (desugar_field by_id) shown_field (desugar_shown by_id) (with_referred_ids n xs)
