-- Proves StaysWritten and StaysByPosition: fields without inline parts are unchanged.
use Rattle.std.proofs.Common.{◌≡◌, ℕ, ◌+◌, Bool, true, false, not, ◌&&◌, ◌||◌, is_none, ◌==◌, List, [], ◌∷◌, ◌++◌, length, refl, sym, ap, ◌∙◌, arith}
use Rattle.std.specs.List.{flat_map}
use Rattle.std.specs.Borrow.{Bor}
use Rattle.std.proofs.lemmas.Bool.Decides.{Decides-eqb}
use Rattle.wast_tree_nodes.specs.Items.{Item, items_in}
use Rattle.wast_tree_nodes.specs.Profiles.{is_imported_func, is_imported_global, is_imported_tag}
use Rattle.wast_tree_nodes.specs.WrittenOut.{exports_nothing, is_written_table, is_written_memory, is_written_field, is_written_out}
use Rattle.wast_base.specs.Filling.{one_if, given_if, with_ids_from, missing_id_count}
use Rattle.wast_expand_inline.specs.Tree.{Span, Index, InlineExport, Func, FuncKind, Table, TableKind, Memory, MemoryKind, Global}
use Rattle.wast_expand_inline.specs.Tree.{GlobalKind, Tag, TagKind, ExportKind, ModuleField}
use Rattle.wast_expand_inline.specs.Tree.func
use Rattle.wast_expand_inline.specs.Tree.table
use Rattle.wast_expand_inline.specs.Tree.memory
use Rattle.wast_expand_inline.specs.Tree.global
use Rattle.wast_expand_inline.specs.Tree.tag_kind
use Rattle.wast_expand_inline.specs.Tree.field
use Rattle.wast_expand_inline.specs.Segments.{has_bytes, has_elements}
use Rattle.wast_expand_inline.specs.WriteOut.{Reference, no_exports, exports_of, data_in, elem_in, func_alone, table_alone, memory_alone}
use Rattle.wast_expand_inline.specs.WriteOut.{global_alone, tag_alone, desugar_field}
use Rattle.wast_expand_inline.specs.Referring.{by_id, by_position, wants_id, with_item_id}
use Rattle.wast_expand_inline.specs.Written.{with_referred_ids, written_after}
use Rattle.wast_expand_inline.specs.Laws.{StaysWritten, StaysByPosition, WantsNoReference}
use Rattle.wast_expand_inline.proofs.BothPass.{first_is, second_is}

-- no name to export under
pub no_names : (names : List (Bor (List ℕ))) → (length names == 0) ≡ true → names ≡ []
no_names [] h = refl
no_names (name ∷ names) h = let e : length (name ∷ names) ≡ 0 = (Decides-eqb (length (name ∷ names)) 0).0 h in absurd (omega arith)

none_exported : (e : InlineExport) → exports_nothing e ≡ true → e ≡ no_exports
none_exported e h = ap (λ (names : List (Bor (List ℕ))). record { names = names }) (no_names e.names h)

-- The function without inline parts is the function itself, if only exports are inline.
func_stays : (f : Func) (k : FuncKind) → f.kind ≡ k → not (is_imported_func k) ≡ true → func_alone f f.kind ≡ field.Func (record f { exports = no_exports })
func_stays f (func.Import source exact) e h = absurd cc
func_stays f (func.Inline locals x) e h = ap (func_alone f) e ∙ sym (ap (λ (k : FuncKind). field.Func (record f { exports = no_exports; kind = k })) e)

table_stays : (t : Table) (k : TableKind) (item : Index) → t.kind ≡ k → is_written_table k ≡ true
    → elem_in t.kind t.span item ++ table_alone t t.kind ∷ [] ≡ field.Table (record t { exports = no_exports }) ∷ []
table_stays t (table.Import source ty) item e h = absurd cc
table_stays t (table.Normal ty init) item e h =
    ap (λ (k : TableKind). elem_in k t.span item ++ table_alone t k ∷ []) e
    ∙ sym (ap (λ (k : TableKind). field.Table (record t { exports = no_exports; kind = k }) ∷ []) e)
table_stays t (table.Inline ty is64 shared p) item e h = absurd cc

memory_stays : (m : Memory) (k : MemoryKind) (item : Index) → m.kind ≡ k → is_written_memory k ≡ true
    → data_in m.kind m.span item ++ memory_alone m m.kind ∷ [] ≡ field.Memory (record m { exports = no_exports }) ∷ []
memory_stays m (memory.Import source ty) item e h = absurd cc
memory_stays m (memory.Normal ty) item e h =
    ap (λ (k : MemoryKind). data_in k m.span item ++ memory_alone m k ∷ []) e
    ∙ sym (ap (λ (k : MemoryKind). field.Memory (record m { exports = no_exports; kind = k }) ∷ []) e)
memory_stays m (memory.Inline is64 pieces exponent) item e h = absurd cc

global_stays : (g : Global) (k : GlobalKind) → g.kind ≡ k → not (is_imported_global k) ≡ true
    → global_alone g g.kind ≡ field.Global (record g { exports = no_exports })
global_stays g (global.Import source) e h = absurd cc
global_stays g (global.Inline x) e h = ap (global_alone g) e ∙ sym (ap (λ (k : GlobalKind). field.Global (record g { exports = no_exports; kind = k })) e)

tag_stays : (t : Tag) (k : TagKind) → t.kind ≡ k → not (is_imported_tag k) ≡ true → tag_alone t t.kind ≡ field.Tag (record t { exports = no_exports })
tag_stays t (tag_kind.Import source) e h = absurd cc
tag_stays t tag_kind.Inline e h = ap (tag_alone t) e ∙ sym (ap (λ (k : TagKind). field.Tag (record t { exports = no_exports; kind = k })) e)

-- without exports, the expansion is the field itself
nothing_before : (span : Span) (k : ExportKind) (item : Index) (exports : InlineExport) (alone : List ModuleField) (whole : InlineExport → ModuleField)
    → exports_nothing exports ≡ true → alone ≡ whole no_exports ∷ [] → exports_of span k item exports ++ alone ≡ whole exports ∷ []
nothing_before span k item exports alone whole none is =
    let e : exports ≡ no_exports = none_exported exports none in
    ap (λ x. exports_of span k item x ++ alone) e ∙ (is ∙ sym (ap (λ x. whole x ∷ []) e))

field_stays : (r : Reference) (x : ModuleField) → is_written_field x ≡ true → desugar_field r x ≡ x ∷ []
field_stays r (field.Func f) h =
    nothing_before _ _ _ f.exports _ (λ e. field.Func (record f { exports = e })) (first_is _ (not (is_imported_func f.kind)) h)
    (ap (λ x. x ∷ []) (func_stays f f.kind refl (second_is (exports_nothing f.exports) _ h)))
field_stays r (field.Table t) h =
    nothing_before _ _ _ t.exports _ (λ e. field.Table (record t { exports = e })) (first_is _ (is_written_table t.kind) h)
    (table_stays t t.kind _ refl (second_is (exports_nothing t.exports) _ h))
field_stays r (field.Memory m) h =
    nothing_before _ _ _ m.exports _ (λ e. field.Memory (record m { exports = e })) (first_is _ (is_written_memory m.kind) h)
    (memory_stays m m.kind _ refl (second_is (exports_nothing m.exports) _ h))
field_stays r (field.Global g) h =
    nothing_before _ _ _ g.exports _ (λ e. field.Global (record g { exports = e })) (first_is _ (not (is_imported_global g.kind)) h)
    (ap (λ x. x ∷ []) (global_stays g g.kind refl (second_is (exports_nothing g.exports) _ h)))
field_stays r (field.Tag t) h =
    nothing_before _ _ _ t.exports _ (λ e. field.Tag (record t { exports = e })) (first_is _ (not (is_imported_tag t.kind)) h)
    (ap (λ x. x ∷ []) (tag_stays t t.kind refl (second_is (exports_nothing t.exports) _ h)))
field_stays r x h = refl

-- An item that is not referred to needs no id.
no_elements : (k : TableKind) → is_written_table k ≡ true → has_elements k ≡ false
no_elements (table.Import source ty) h = refl
no_elements (table.Normal ty init) h = refl
no_elements (table.Inline ty is64 shared p) h = absurd cc

no_bytes : (k : MemoryKind) → is_written_memory k ≡ true → has_bytes k ≡ false
no_bytes (memory.Import source ty) h = refl
no_bytes (memory.Normal ty) h = refl
no_bytes (memory.Inline is64 pieces exponent) h = absurd cc

neither : (nothing more lacks : Bool) → nothing ≡ true → more ≡ false → ((not nothing || more) && lacks) ≡ false
neither nothing more lacks h k = ap (λ b. (not b || more) && lacks) h ∙ ap (λ b. b && lacks) k

unexported : (nothing lacks : Bool) → nothing ≡ true → (not nothing && lacks) ≡ false
unexported nothing lacks h = ap (λ b. not b && lacks) h

wants_none : (x : ModuleField) → is_written_field x ≡ true → wants_id x ≡ false
wants_none (field.Func f) h = unexported (exports_nothing f.exports) (is_none f.id) (first_is _ (not (is_imported_func f.kind)) h)
wants_none (field.Table t) h = neither (exports_nothing t.exports) (has_elements t.kind) (is_none t.id) (first_is _ (is_written_table t.kind) h)
    (no_elements t.kind (second_is (exports_nothing t.exports) _ h))
wants_none (field.Memory m) h = neither (exports_nothing m.exports) (has_bytes m.kind) (is_none m.id) (first_is _ (is_written_memory m.kind) h)
    (no_bytes m.kind (second_is (exports_nothing m.exports) _ h))
wants_none (field.Global g) h = unexported (exports_nothing g.exports) (is_none g.id) (first_is _ (not (is_imported_global g.kind)) h)
wants_none (field.Tag t) h = unexported (exports_nothing t.exports) (is_none t.id) (first_is _ (not (is_imported_tag t.kind)) h)
wants_none x h = refl

pub wants_no_reference : WantsNoReference
wants_no_reference [] h = refl
wants_no_reference (x ∷ xs) h =
    ap (λ b. one_if b + missing_id_count wants_id xs) (wants_none x (first_is _ (is_written_out xs) h))
    ∙ ap (λ k. 0 + k) (wants_no_reference xs (second_is (is_written_field x) _ h))

none_given : (n : ℕ) (xs : List ModuleField) → is_written_out xs ≡ true → with_referred_ids n xs ≡ xs
none_given n [] h = refl
none_given n (x ∷ xs) h =
    ap (λ b. given_if b with_item_id n x ∷ with_ids_from wants_id with_item_id (n + one_if (wants_id x)) xs) (wants_none x (first_is _ (is_written_out xs) h))
    ∙ ap (λ ys. x ∷ ys) (none_given (n + one_if (wants_id x)) xs (second_is (is_written_field x) _ h))

all_stay : (r : Reference) (xs : List ModuleField) → is_written_out xs ≡ true → flat_map (desugar_field r) xs ≡ xs
all_stay r [] h = refl
all_stay r (x ∷ xs) h =
    ap (λ ys. ys ++ flat_map (desugar_field r) xs) (field_stays r x (first_is _ (is_written_out xs) h))
    ∙ ap (λ ys. x ∷ ys) (all_stay r xs (second_is (is_written_field x) _ h))

pub stays_written : StaysWritten
stays_written n fields h = ap (flat_map (desugar_field by_id)) (none_given n fields h) ∙ all_stay by_id fields h

after_stays : (before : List Item) (xs : List ModuleField) → is_written_out xs ≡ true → written_after before xs ≡ xs
after_stays before [] h = refl
after_stays before (x ∷ xs) h =
    ap (λ ys. ys ++ written_after (before ++ items_in x) xs) (field_stays (by_position before) x (first_is _ (is_written_out xs) h))
    ∙ ap (λ ys. x ∷ ys) (after_stays (before ++ items_in x) xs (second_is (is_written_field x) _ h))

pub stays_by_position : StaysByPosition
stays_by_position fields h = after_stays [] fields h
