-- With other names the expansion has the same fields.
use Rattle.std.specs.Borrow.{Bor}
use Rattle.std.proofs.Common.{◌≡◌, ℕ, true, false, length, List, [], ◌∷◌, ◌++◌, map, Option, Some, None, option_map, refl, sym, ap, ◌∙◌}
use Rattle.std.proofs.lemmas.List.{length-map, map-append}
use Rattle.wast_base.specs.Ids.{Mark}
use Rattle.wast_tree_nodes.specs.Items.{Item, items_in}
use Rattle.wast_tree_nodes.specs.Known.{names_in}
use Rattle.wast_tree_map.specs.Mapped.{mapped_ref, mapped_payload, mapped_func_kind, mapped_func, mapped_table_kind, mapped_table}
use Rattle.wast_tree_map.specs.Mapped.{mapped_global_kind, mapped_global, mapped_memory, mapped_tag, mapped_field}
use Rattle.wast_tree_map.specs.Named.{renamed_item}
use Rattle.wast_tree_map.proofs.Alone.{items_named_in}
use Rattle.wast_expand_inline.specs.Tree.{Span, Id, Space, ElemPayload, InlineExport, FuncKind, Func, TableKind, Table, MemoryKind, Memory}
use Rattle.wast_expand_inline.specs.Tree.{GlobalKind, Global, TagKind, Tag, ExportKind, ModuleField}
use Rattle.wast_expand_inline.specs.Tree.index
use Rattle.wast_expand_inline.specs.Tree.space
use Rattle.wast_expand_inline.specs.Tree.payload
use Rattle.wast_expand_inline.specs.Tree.func
use Rattle.wast_expand_inline.specs.Tree.table
use Rattle.wast_expand_inline.specs.Tree.memory
use Rattle.wast_expand_inline.specs.Tree.global
use Rattle.wast_expand_inline.specs.Tree.tag_kind
use Rattle.wast_expand_inline.specs.Tree.export
use Rattle.wast_expand_inline.specs.Tree.field
use Rattle.wast_expand_inline.specs.Segments.{element_count}
use Rattle.wast_expand_inline.specs.WriteOut.{Reference, export_of, exports_of, data_in, elem_in, func_alone, table_alone, memory_alone}
use Rattle.wast_expand_inline.specs.WriteOut.{global_alone, tag_alone, desugar_field}
use Rattle.wast_expand_inline.specs.Referring.{place_or, by_position}
use Rattle.wast_expand_inline.specs.Written.{written_after, desugared_by_position}
use Rattle.wast_resolve_laws.specs.Renaming.{Renaming, IsRenaming, renaming, renamed_fields}
use Rattle.wast_resolve_laws.proofs.OtherNames.{count_same, names, ids_named}

module _ (r : Renaming) (is : IsRenaming r) where
  -- An item is referred to by the same position, at the same span.
  place_same : (span : Span) (o : Option Id) → place_or span (option_map r.id o) ≡ place_or span o
  place_same span None = refl
  place_same span (Some id) = ap (λ (m : Mark). m.1) (is.calls id)

  reference_same : (before : List Item) (s : Space) (span : Span) (o : Option Id)
      → by_position (map (renamed_item r.name) before) s span (option_map r.id o) ≡ by_position before s span o
  reference_same before s span o = λ i. index.Num (count_same r.name is.injective s before i) (place_same span o i)

  exports_same : (span : Span) (kind : ExportKind) (k : ℕ) (place : Span) (texts : List (Bor (List ℕ)))
      → map (export_of span kind (index.Num k place)) texts ≡ map (mapped_field (renaming r)) (map (export_of span kind (index.Num k place)) texts)
  exports_same span kind k place [] = refl
  exports_same span kind k place (text ∷ texts) = ap (λ fs. export_of span kind (index.Num k place) text ∷ fs) (exports_same span kind k place texts)

  data_same : (kind : MemoryKind) (span : Span) (k : ℕ) (place : Span)
      → data_in kind span (index.Num k place) ≡ map (mapped_field (renaming r)) (data_in kind span (index.Num k place))
  data_same (memory.Inline false pieces exponent) span k place = refl
  data_same (memory.Inline true pieces exponent) span k place = refl
  data_same x span k place = refl

  elem_same : (kind : TableKind) (span : Span) (k : ℕ) (place : Span) → elem_in (mapped_table_kind (renaming r) kind) span (index.Num k place) ≡ map
      (mapped_field (renaming r)) (elem_in kind span (index.Num k place))
  elem_same (table.Inline ty false shared elements) span k place = refl
  elem_same (table.Inline ty true shared elements) span k place = refl
  elem_same x span k place = refl

  -- the field alone
  func_same : (x : Func) (k : FuncKind) → func_alone (mapped_func (renaming r) x) (mapped_func_kind (renaming r) x.ty k) ≡ mapped_field (renaming r)
      (func_alone x k)
  func_same x (func.Import source true) = refl
  func_same x (func.Import source false) = refl
  func_same x (func.Inline locals e) = refl

  count_elements : (p : ElemPayload) → element_count (mapped_payload (renaming r) p) ≡ element_count p
  count_elements (payload.Indices is) = length-map is _
  count_elements (payload.Exprs ty es) = length-map es _

  table_same : (x : Table) (k : TableKind) → table_alone (mapped_table (renaming r) x) (mapped_table_kind (renaming r) k) ≡ mapped_field (renaming r)
      (table_alone x k)
  table_same x (table.Import source ty) = refl
  table_same x (table.Normal ty init) = refl
  table_same x (table.Inline ty is64 shared elements) = λ i. field.Table (record (mapped_table (renaming r) x) {
    exports = record { names = [] };
    kind = table.Normal (record {
      limits = record { is64 = is64; min = count_elements elements i; max = Some (count_elements elements i) };
      elem = mapped_ref (renaming r).index ty;
      shared = shared;
    }) None;
  })

  memory_same : (x : Memory) (k : MemoryKind) → memory_alone (mapped_memory (renaming r) x) k ≡ mapped_field (renaming r) (memory_alone x k)
  memory_same x (memory.Import source ty) = refl
  memory_same x y = refl

  global_same : (x : Global) (k : GlobalKind) → global_alone (mapped_global (renaming r) x) (mapped_global_kind (renaming r) k) ≡ mapped_field
      (renaming r) (global_alone x k)
  global_same x (global.Import source) = refl
  global_same x (global.Inline e) = refl

  tag_same : (x : Tag) (k : TagKind) → tag_alone (mapped_tag (renaming r) x) k ≡ mapped_field (renaming r) (tag_alone x k)
  tag_same x (tag_kind.Import source) = refl
  tag_same x tag_kind.Inline = refl

  both_same : {xs ys : List ModuleField} (vs ws : List ModuleField) → xs ≡ map (mapped_field (renaming r)) vs
      → ys ≡ map (mapped_field (renaming r)) ws → xs ++ ys ≡ map (mapped_field (renaming r)) (vs ++ ws)
  both_same vs ws h k = (λ i. h i ++ k i) ∙ sym (map-append (mapped_field (renaming r)) vs ws)

  module _ (before : List Item) where
    abbrev old : Reference
    old = by_position before

    abbrev new : Reference
    new = by_position (map (renamed_item r.name) before)

    exported : (span : Span) (kind : ExportKind) (s : Space) (o : Option Id) (exports : InlineExport)
        → exports_of span kind (new s span (option_map r.id o)) exports ≡ map (mapped_field (renaming r)) (exports_of span kind (old s span o) exports)
    exported span kind s o exports = ap (λ i. exports_of span kind i exports) (reference_same before s span o)
        ∙ exports_same span kind (length (names_in s before)) (place_or span o) exports.names

    -- the exports, and the field after them
    one_same : (span : Span) (kind : ExportKind) (s : Space) (o : Option Id) (exports : InlineExport)
        (rest : List ModuleField) {after : List ModuleField} → after ≡ map (mapped_field (renaming r)) rest
        → exports_of span kind (new s span (option_map r.id o)) exports ++ after ≡ map (mapped_field (renaming r))
        (exports_of span kind (old s span o) exports ++ rest)
    one_same span kind s o exports rest h = both_same (exports_of span kind (old s span o) exports) rest (exported span kind s o exports) h

    field_same : (x : ModuleField) → desugar_field new (mapped_field (renaming r) x) ≡ map (mapped_field (renaming r)) (desugar_field old x)
    field_same (field.Func x) = one_same x.span export.Func space.Func x.id x.exports (func_alone x x.kind ∷ []) (ap (λ f. f ∷ []) (func_same x x.kind))
    field_same (field.Global x) = one_same x.span export.Global space.Global x.id x.exports (global_alone x x.kind ∷ [])
        (ap (λ f. f ∷ []) (global_same x x.kind))
    field_same (field.Tag x) = one_same x.span export.Tag space.Tag x.id x.exports (tag_alone x x.kind ∷ []) (ap (λ f. f ∷ []) (tag_same x x.kind))
    field_same (field.Table x) =
        let item = old space.Table x.span x.id in
        one_same x.span export.Table space.Table x.id x.exports (elem_in x.kind x.span item ++ table_alone x x.kind ∷ [])
        (both_same (elem_in x.kind x.span item) (table_alone x x.kind ∷ []) (ap (elem_in (mapped_table_kind (renaming r) x.kind) x.span)
        (reference_same before space.Table x.span x.id) ∙ elem_same x.kind x.span (length (names_in space.Table before)) (place_or x.span x.id))
        (ap (λ f. f ∷ []) (table_same x x.kind)))
    field_same (field.Memory x) =
        let item = old space.Memory x.span x.id in
        one_same x.span export.Memory space.Memory x.id x.exports (data_in x.kind x.span item ++ memory_alone x x.kind ∷ [])
        (both_same (data_in x.kind x.span item) (memory_alone x x.kind ∷ [])
        (ap (data_in x.kind x.span) (reference_same before space.Memory x.span x.id)
        ∙ data_same x.kind x.span (length (names_in space.Memory before)) (place_or x.span x.id)) (ap (λ f. f ∷ []) (memory_same x x.kind)))
    field_same x = refl

  after_same : (before : List Item) (xs : List ModuleField)
      → written_after (map (renamed_item r.name) before) (renamed_fields r xs) ≡ renamed_fields r (written_after before xs)
  after_same before [] = refl
  after_same before (x ∷ xs) =
      both_same (desugar_field (by_position before) x) (written_after (before ++ items_in x) xs) (field_same before x)
      (ap (λ its. written_after its (renamed_fields r xs))
      (ap (λ its. map (renamed_item r.name) before ++ its) (items_named_in r.name (renaming r) (ids_named r is) (names r is) x)
      ∙ sym (map-append (renamed_item r.name) before (items_in x)))
      ∙ after_same (before ++ items_in x) xs)

  pub same_written : (xs : List ModuleField) → desugared_by_position (renamed_fields r xs) ≡ renamed_fields r (desugared_by_position xs)
  same_written xs = after_same [] xs
