-- A function that is the same on each part of the expansion by ids and by positions is the same on both lists.
use Rattle.std.specs.Prelude.{⊤}
use Rattle.std.proofs.Common.{◌≡◌, ℕ, ◌+◌, ◌≤◌, ◌==◌, Bool, true, false, not, ◌&&◌, ◌||◌, true≢false, List, [], ◌∷◌, ◌++◌, map, length}
use Rattle.std.proofs.Common.{Option, Some, None, is_none, refl, sym, ap, ◌∙◌, arith}
use Rattle.std.specs.Borrow.{Bor}
use Rattle.std.specs.List.{flat_map}
use Rattle.std.proofs.Math.Dec.{eqb-suc-zero}
use Rattle.std.proofs.lemmas.List.{map-append}
use Rattle.wast_base.specs.Ids.{place_of, gensym_id}
use Rattle.wast_tree_nodes.specs.Items.{Item, item, items_in}
use Rattle.wast_tree_nodes.specs.Known.{names_in}
use Rattle.wast_tree_nodes.specs.Sites.{exported_space}
use Rattle.wast_base.specs.Filling.{one_if, given_if}
use Rattle.wast_expand_inline.specs.Tree.{InlineImport, InlineExport}
use Rattle.wast_expand_inline.specs.Segments.{data_into, elem_into, has_bytes, has_elements}
use Rattle.wast_expand_inline.specs.WriteOut.{Reference, imported_func, import_of, export_of, exports_of, data_in, elem_in, func_alone}
use Rattle.wast_expand_inline.specs.WriteOut.{table_alone, memory_alone, global_alone, tag_alone, desugar_field}
use Rattle.wast_expand_inline.specs.Referring.{by_id, by_position, exports_some, wants_id, with_item_id}
use Rattle.wast_expand_inline.specs.Written.{with_referred_ids, written_after}
use Rattle.wast_expand_inline.proofs.WrittenItems.{is_of_segments}
use Rattle.wast_resolve_laws.specs.Tree.{Span, Id, Index, NameAnnotation, Space, ItemKind, ExportKind, ElemPayload, DataVal, FuncKind, Func}
use Rattle.wast_resolve_laws.specs.Tree.{TableKind, Table, MemoryKind, Memory, GlobalKind, Global, TagKind, Tag, ModuleField}
use Rattle.wast_resolve_laws.specs.Tree.index
use Rattle.wast_resolve_laws.specs.Tree.space
use Rattle.wast_resolve_laws.specs.Tree.kind
use Rattle.wast_resolve_laws.specs.Tree.export
use Rattle.wast_resolve_laws.specs.Tree.func
use Rattle.wast_resolve_laws.specs.Tree.table
use Rattle.wast_resolve_laws.specs.Tree.memory
use Rattle.wast_resolve_laws.specs.Tree.global
use Rattle.wast_resolve_laws.specs.Tree.tag_kind
use Rattle.wast_resolve_laws.specs.Tree.field

first_or : (a b : Bool) → a ≡ true → (a || b) ≡ true
first_or true b h = refl
first_or false b h = absurd (true≢false (sym h))

second_or : (a b : Bool) → b ≡ true → (a || b) ≡ true
second_or true b h = refl
second_or false b h = h

some_there : {A : Type 0} (x : A) (xs : List A) → not (length (x ∷ xs) == 0) ≡ true
some_there x xs = ap not (eqb-suc-zero (length xs))

-- a field with this id, which can be referred to
abbrev pub called : Option Id → ModuleField → ModuleField
called id (field.Func f) = field.Func (record f { id = id })
called id (field.Table t) = field.Table (record t { id = id })
called id (field.Memory m) = field.Memory (record m { id = id })
called id (field.Global g) = field.Global (record g { id = id })
called id (field.Tag t) = field.Tag (record t { id = id })
called id x = x

-- The exports and the import of a field are the same for two ids.
pub record SameByIds {X : Type 0} (give : ModuleField → X) (x y : Option Id) : Type 0 where
  pub of_import : (span : Span) (name : Option NameAnnotation) (source : InlineImport) (k : ItemKind)
      → give (import_of span x name source k) ≡ give (import_of span y name source k)
  pub of_field : (z : ModuleField) → give (called x z) ≡ give (called y z)

-- The expansion of a field is the same for equal indices, and for a generated id from this one on as for none.
pub record IsBlind {X : Type 0} (Same : Space → Index → Index → Type 0) (n : ℕ) (give : ModuleField → X) : Type 0 where
  pub exported : (span : Span) (e : ExportKind) (i j : Index) (name : Bor (List ℕ)) → Same (exported_space e) i j
      → give (export_of span e i name) ≡ give (export_of span e j name)
  pub of_elem : (span : Span) (i j : Index) (is64 : Bool) (p : ElemPayload) → Same space.Table i j
      → give (elem_into span i is64 p) ≡ give (elem_into span j is64 p)
  pub of_data : (span : Span) (i j : Index) (is64 : Bool) (pieces : List DataVal) → Same space.Memory i j
      → give (data_into span i is64 pieces) ≡ give (data_into span j is64 pieces)
  pub given : (m : ℕ) (span : Span) → n ≤ m → SameByIds give (Some (gensym_id m span)) None

module _ (Same : Space → Index → Index → Type 0) where
  -- The id of the field's item is the same as its position after these.
  abbrev pub Owns : List Item → ModuleField → Type 0
  Owns before x = (s : Space) (id : Id) → is_of_segments s ≡ false → items_in x ≡ item s (Some id) [] ∷ []
      → Same s (index.Id id) (index.Num (length (names_in s before)) (place_of id))

  abbrev pub AllOwn : ℕ → List Item → List ModuleField → Type 0
  AllOwn n before [] = ⊤
  AllOwn n before (x ∷ xs) = Owns before (given_if (wants_id x) with_item_id n x) × AllOwn (n + one_if (wants_id x)) (before ++ items_in x) xs

  module _ {X : Type 0} {give : ModuleField → X} {n : ℕ} (blind : IsBlind Same n give) where
    abbrev Alike : List ModuleField → List ModuleField → Type 0
    Alike xs ys = map give xs ≡ map give ys

    both : (xs ys us vs : List ModuleField) → Alike xs ys → Alike us vs → Alike (xs ++ us) (ys ++ vs)
    both xs ys us vs h q = map-append give xs us ∙ (ap (λ zs. zs ++ map give us) h ∙ (ap (λ zs. map give ys ++ zs) q ∙ sym (map-append give ys vs)))

    exports_alike : (span : Span) (e : ExportKind) (i j : Index) (names : List (Bor (List ℕ)))
        → (not (length names == 0) ≡ true → Same (exported_space e) i j) → Alike (map (export_of span e i) names) (map (export_of span e j) names)
    exports_alike span e i j [] same = refl
    exports_alike span e i j (name ∷ names) same =
        λ t. blind.exported span e i j name (same (some_there name names)) t ∷ exports_alike span e i j names (λ h. same (some_there name names)) t

    -- Two references to a field by two ids that make no difference.
    module _ (r q : Reference) (x y : Option Id) (named : SameByIds give x y) where
      abbrev SameFor : Space → Span → Bool → Type 0
      SameFor s span o = o ≡ true → Same s (r s span x) (q s span y)

      -- the field alone
      func_named : (f : Func) (k : FuncKind) → give (func_alone (record f { id = x }) k) ≡ give (func_alone (record f { id = y }) k)
      func_named f (func.Import source exact) = named.of_import f.span f.name source (imported_func exact f.ty)
      func_named f k = named.of_field (func_alone f k)

      table_named : (t : Table) (k : TableKind) → give (table_alone (record t { id = x }) k) ≡ give (table_alone (record t { id = y }) k)
      table_named t (table.Import source ty) = named.of_import t.span None source (kind.Table ty)
      table_named t k = named.of_field (table_alone t k)

      memory_named : (m : Memory) (k : MemoryKind) → give (memory_alone (record m { id = x }) k) ≡ give (memory_alone (record m { id = y }) k)
      memory_named m (memory.Import source ty) = named.of_import m.span None source (kind.Memory ty)
      memory_named m k = named.of_field (memory_alone m k)

      global_named : (g : Global) (k : GlobalKind) → give (global_alone (record g { id = x }) k) ≡ give (global_alone (record g { id = y }) k)
      global_named g (global.Import source) = named.of_import g.span None source (kind.Global g.ty)
      global_named g k = named.of_field (global_alone g k)

      tag_named : (t : Tag) (k : TagKind) → give (tag_alone (record t { id = x }) k) ≡ give (tag_alone (record t { id = y }) k)
      tag_named t (tag_kind.Import source) = named.of_import t.span None source (kind.Tag t.ty)
      tag_named t k = named.of_field (tag_alone t k)

      -- the segment of inline data or elements
      elem_turns : (span : Span) (k : TableKind) → SameFor space.Table span (has_elements k)
          → Alike (elem_in k span (r space.Table span x)) (elem_in k span (q space.Table span y))
      elem_turns span (table.Inline ty is64 shared p) same =
          ap (λ v. v ∷ []) (blind.of_elem span (r space.Table span x) (q space.Table span y) is64 p (same refl))
      elem_turns span k same = refl

      data_turns : (span : Span) (k : MemoryKind) → SameFor space.Memory span (has_bytes k)
          → Alike (data_in k span (r space.Memory span x)) (data_in k span (q space.Memory span y))
      data_turns span (memory.Inline is64 pieces exponent) same =
          ap (λ v. v ∷ []) (blind.of_data span (r space.Memory span x) (q space.Memory span y) is64 pieces (same refl))
      data_turns span k same = refl

      -- its exports, the segment, and the field alone
      parts_turn : (span : Span) (e : ExportKind) (exports : InlineExport) (us vs : List ModuleField) (z w : ModuleField)
          → SameFor (exported_space e) span (exports_some exports) → Alike us vs → give z ≡ give w
          → Alike (exports_of span e (r (exported_space e) span x) exports ++ (us ++ z ∷ []))
          (exports_of span e (q (exported_space e) span y) exports ++ (vs ++ w ∷ []))
      parts_turn span e exports us vs z w same segments alone =
          let i : Index = r (exported_space e) span x in
          let j : Index = q (exported_space e) span y in
          both (exports_of span e i exports) (exports_of span e j exports) (us ++ z ∷ []) (vs ++ w ∷ []) (exports_alike span e i j exports.names same)
          (both us vs (z ∷ []) (w ∷ []) segments (ap (λ v. v ∷ []) alone))

      abbrev Turns : ModuleField → Type 0
      Turns z = Alike (desugar_field r (called x z)) (desugar_field q (called y z))

      func_turns : (f : Func) → SameFor space.Func f.span (exports_some f.exports) → Turns (field.Func f)
      func_turns f same = parts_turn f.span export.Func f.exports [] [] _ _ same refl (func_named f f.kind)

      table_turns : (t : Table) → SameFor space.Table t.span (exports_some t.exports || has_elements t.kind) → Turns (field.Table t)
      table_turns t same =
          parts_turn t.span export.Table t.exports _ _ _ _ (λ h. same (first_or (exports_some t.exports) (has_elements t.kind) h))
          (elem_turns t.span t.kind (λ h. same (second_or (exports_some t.exports) (has_elements t.kind) h))) (table_named t t.kind)

      memory_turns : (m : Memory) → SameFor space.Memory m.span (exports_some m.exports || has_bytes m.kind) → Turns (field.Memory m)
      memory_turns m same =
          parts_turn m.span export.Memory m.exports _ _ _ _ (λ h. same (first_or (exports_some m.exports) (has_bytes m.kind) h))
          (data_turns m.span m.kind (λ h. same (second_or (exports_some m.exports) (has_bytes m.kind) h))) (memory_named m m.kind)

      global_turns : (g : Global) → SameFor space.Global g.span (exports_some g.exports) → Turns (field.Global g)
      global_turns g same = parts_turn g.span export.Global g.exports [] [] _ _ same refl (global_named g g.kind)

      tag_turns : (t : Tag) → SameFor space.Tag t.span (exports_some t.exports) → Turns (field.Tag t)
      tag_turns t same = parts_turn t.span export.Tag t.exports [] [] _ _ same refl (tag_named t t.kind)

    -- A field that gets an id if it needs one, or keeps its own.
    module _ (m : ℕ) (le : n ≤ m) (before : List Item) where
      module _ (s : Space) (its : is_of_segments s ≡ false) (span : Span) (z : ModuleField) (bears : (id : Option Id)
          → items_in (called id z) ≡ item s id [] ∷ [])
          (gives : (id : Option Id) → with_item_id m (called id z) ≡ called (Some (gensym_id m span)) z) where
        abbrev ByTwo : Bool → Type 0
        ByTwo o = (r q : Reference) (x y : Option Id) → SameByIds give x y → (o ≡ true → Same s (r s span x) (q s span y))
            → Alike (desugar_field r (called x z)) (desugar_field q (called y z))

        same : {id : Option Id} → SameByIds give id id
        same = record { of_import = λ span name source k. refl; of_field = λ w. refl }

        abbrev given_one : Bool → Option Id → ModuleField
        given_one o id = given_if (o && is_none id) with_item_id m (called id z)

        one_alike : (o : Bool) (id : Option Id) → ByTwo o → Owns before (given_one o id)
            → Alike (desugar_field by_id (given_one o id)) (desugar_field (by_position before) (called id z))
        one_alike true None turns own =
            let new = Some (gensym_id m span) in
            ap (λ y. map give (desugar_field by_id y)) (gives None)
            ∙ turns by_id (by_position before) new None (blind.given m span le) (λ h. own s (gensym_id m span) its (ap items_in (gives None) ∙ bears new))
        one_alike true (Some id) turns own = turns by_id (by_position before) (Some id) (Some id) same (λ h. own s id its (bears (Some id)))
        one_alike false id turns own = turns by_id (by_position before) id id same (λ h. absurd (true≢false (sym h)))

      field_alike : (x : ModuleField) → Owns before (given_if (wants_id x) with_item_id m x)
          → Alike (desugar_field by_id (given_if (wants_id x) with_item_id m x)) (desugar_field (by_position before) x)
      field_alike (field.Func f) own = one_alike space.Func refl f.span (field.Func f) (λ id. refl) (λ id. refl) _ f.id
          (λ r q x y named. func_turns r q x y named f) own
      field_alike (field.Table t) own = one_alike space.Table refl t.span (field.Table t) (λ id. refl) (λ id. refl) _ t.id
          (λ r q x y named. table_turns r q x y named t) own
      field_alike (field.Memory z) own = one_alike space.Memory refl z.span (field.Memory z) (λ id. refl) (λ id. refl) _ z.id
          (λ r q x y named. memory_turns r q x y named z) own
      field_alike (field.Global g) own = one_alike space.Global refl g.span (field.Global g) (λ id. refl) (λ id. refl) _ g.id
          (λ r q x y named. global_turns r q x y named g) own
      field_alike (field.Tag t) own = one_alike space.Tag refl t.span (field.Tag t) (λ id. refl) (λ id. refl) _ t.id
          (λ r q x y named. tag_turns r q x y named t) own
      field_alike x own = refl

    pub fields_alike : (m : ℕ) (before : List Item) (xs : List ModuleField) → n ≤ m → AllOwn m before xs
        → Alike (flat_map (desugar_field by_id) (with_referred_ids m xs)) (written_after before xs)
    fields_alike m before [] le own = refl
    fields_alike m before (x ∷ xs) le own =
        let next = m + one_if (wants_id x) in
        both (desugar_field by_id (given_if (wants_id x) with_item_id m x)) (desugar_field (by_position before) x)
        (flat_map (desugar_field by_id) (with_referred_ids next xs)) (written_after (before ++ items_in x) xs)
        (field_alike m le before x own.0) (fields_alike next (before ++ items_in x) xs (omega (arith, le)) own.1)
