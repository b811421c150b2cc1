-- The checks of the result are those of the fields, and those of references to their items.
use Rattle.std.proofs.Common.{◌≡◌, ℕ, ◌+◌, Bool, true, false, not, ◌&&◌, List, [], ◌∷◌, ◌++◌, length, append-nil, Option, refl, sym, ap, ◌∙◌}
use Rattle.std.specs.List.{flat_map, list_all}
use Rattle.std.specs.Cmp.Derive.{both_true}
use Rattle.std.proofs.lemmas.Bool.{and_parts}
use Rattle.std.proofs.lemmas.List.{map-append}
use Rattle.std.proofs.lemmas.List.Folds.{list_all-append}
use Rattle.wast_base.specs.Blocks.{stays_open}
use Rattle.wast_tree_nodes.specs.Items.{Item, item, items_in, items}
use Rattle.wast_tree_nodes.specs.Sites.{Check, ItemIndex, Clause, Covered, OfItem, Site, Asked, check_sites, in_ref, in_use, in_func}
use Rattle.wast_tree_nodes.specs.Sites.{in_global_type, in_constant, in_payload, in_table_kind, in_global_kind, in_tag_type, in_field}
use Rattle.wast_tree_nodes.specs.Sites.{in_module, checks_of}
use Rattle.wast_tree_nodes.specs.Known.{names_in}
use Rattle.wast_base.specs.Filling.{one_if, given_if}
use Rattle.wast_tree_nodes.proofs.Asking.{asked_both}
use Rattle.wast_expand_inline.specs.Tree.{Span, Id, Index, Space, Func, FuncKind, Table, TableKind, Memory, MemoryKind, Global, GlobalKind}
use Rattle.wast_expand_inline.specs.Tree.{Tag, TagKind, ModuleField}
use Rattle.wast_tree_nodes.specs.Tree.form
use Rattle.wast_expand_inline.specs.Tree.index
use Rattle.wast_expand_inline.specs.Tree.space
use Rattle.wast_expand_inline.specs.Tree.func
use Rattle.wast_expand_inline.specs.Tree.table
use Rattle.wast_expand_inline.specs.Tree.memory
use Rattle.wast_expand_inline.specs.Tree.global
use Rattle.wast_expand_inline.specs.Tree.tag_kind
use Rattle.wast_expand_inline.specs.Tree.field
use Rattle.wast_expand_inline.specs.Segments.{at_zero}
use Rattle.wast_expand_inline.specs.WriteOut.{Reference, data_in, elem_in, func_alone, table_alone, memory_alone, global_alone, tag_alone, desugar_field}
use Rattle.wast_expand_inline.specs.Referring.{by_id, place_or, by_position, wants_id, with_item_id}
use Rattle.wast_expand_inline.specs.Written.{with_referred_ids, desugared_from, written_after, desugared_by_position}
use Rattle.wast_expand_inline.specs.Laws.{is_sound, StaysSoundByPosition}
use Rattle.wast_expand_inline.proofs.Exported.{both_pass, behind_exports}

-- generated ids change no check
asked_given : (b : Bool) (n : ℕ) (x : ModuleField) → in_field (given_if b with_item_id n x) ≡ in_field x
asked_given true n (field.Func f) = refl
asked_given b n x = refl

asked_referable : (n : ℕ) (xs : List ModuleField) → in_module (with_referred_ids n xs) ≡ in_module xs
asked_referable n [] = refl
asked_referable n (x ∷ xs) =
    ap (λ os. os ++ in_module (with_referred_ids (n + one_if (wants_id x)) xs)) (asked_given (wants_id x) n x)
    ∙ ap (λ os. in_field x ++ os) (asked_referable (n + one_if (wants_id x)) xs)

all_true : {A : Type 0} (xs : List A) → list_all (λ (x : A). true) xs ≡ true
all_true [] = refl
all_true (x ∷ xs) = all_true xs

-- If the checks of the fields pass a test, and clauses that hold pass it, then so do the checks of the result.
module _ (ok : Check → Bool) (clause : (n : ℕ) → ok (Clause n true) ≡ true) where
  abbrev pass : List Site → Bool
  pass os = list_all ok (checks_of os)

  abbrev passes : ModuleField → Bool
  passes x = pass (in_field x)

  both_parts : (os ps : List Site) → pass (os ++ ps) ≡ (pass os && pass ps)
  both_parts os ps = ap (list_all ok) (asked_both os ps) ∙ list_all-append ok (checks_of os) (checks_of ps)

  joined : (os ps : List Site) → pass os ≡ true → pass ps ≡ true → pass (os ++ ps) ≡ true
  joined os ps h k = both_parts os ps ∙ both_true h k

  pub parted : (os ps : List Site) → pass (os ++ ps) ≡ true → (pass os ≡ true) × (pass ps ≡ true)
  parted os ps h = and_parts (pass os) (pass ps) (sym (both_parts os ps) ∙ h)

  all_fields : (xs : List ModuleField) → pass (in_module xs) ≡ list_all passes xs
  all_fields [] = refl
  all_fields (x ∷ xs) = both_parts (in_field x) (in_module xs) ∙ ap (λ b. passes x && b) (all_fields xs)

  -- the offset of a segment is a constant without blocks
  offset_passes : (is64 : Bool) → pass (in_constant (at_zero is64)) ≡ true
  unfolding stays_open
  offset_passes false = both_true (clause 5) refl
  offset_passes true = both_true (clause 5) refl

  func_passes : (f : Func) (k : FuncKind) → pass (in_func (record f { kind = k })) ≡ true → list_all passes (func_alone f k ∷ []) ≡ true
  func_passes f (func.Import source false) h = both_true (parted (in_use OfItem f.ty) (Asked (Covered form.Descriptor true) ∷ []) h).0 refl
  func_passes f (func.Import source true) h = both_true h refl
  func_passes f (func.Inline locals e) h = both_true h refl

  table_passes : (t : Table) (k : TableKind) (i : Index) → ok (ItemIndex space.Table i) ≡ true → pass (in_table_kind k) ≡ true
      → list_all passes (elem_in k t.span i ++ table_alone t k ∷ []) ≡ true
  table_passes t (table.Import source ty) i mine h = both_true h refl
  table_passes t (table.Normal ty init) i mine h = both_true h refl
  table_passes t (table.Inline ty is64 shared p) i mine h =
      let suited : List Check = Clause 4 true ∷ [] in
      let unshared : List Check = Covered form.Shared (not shared) ∷ [] in
      let parts = parted (check_sites (in_ref ty)) (in_payload p ++ check_sites unshared) h in
      let rest = parted (in_payload p) (check_sites unshared) parts.1 in
      both_true (both_true mine (joined (in_constant (at_zero is64)) (in_payload p ++ check_sites suited) (offset_passes is64)
      (joined (in_payload p) (check_sites suited) rest.0 (both_true (clause 4) refl))))
      (both_true (ap pass (append-nil (check_sites (in_ref ty ++ unshared)) ∙ map-append Asked (in_ref ty) unshared)
      ∙ joined (check_sites (in_ref ty)) (check_sites unshared) parts.0 rest.1) refl)

  memory_passes : (m : Memory) (k : MemoryKind) (i : Index) → ok (ItemIndex space.Memory i) ≡ true
      → list_all passes (data_in k m.span i ++ memory_alone m k ∷ []) ≡ true
  memory_passes m (memory.Import source ty) i mine = refl
  memory_passes m (memory.Normal ty) i mine = refl
  memory_passes m (memory.Inline is64 pieces exponent) i mine = both_true (both_true mine (offset_passes is64)) refl

  global_passes : (g : Global) (k : GlobalKind) → pass (check_sites (in_global_type g.ty) ++ in_global_kind k) ≡ true
      → list_all passes (global_alone g k ∷ []) ≡ true
  global_passes g (global.Import source) h = both_true (sym (ap pass (append-nil (check_sites (in_global_type g.ty)))) ∙ h) refl
  global_passes g (global.Inline e) h = both_true h refl

  tag_passes : (t : Tag) (k : TagKind) → pass (in_tag_type t.ty) ≡ true → list_all passes (tag_alone t k ∷ []) ≡ true
  tag_passes t (tag_kind.Import source) h = both_true h refl
  tag_passes t tag_kind.Inline h = both_true h refl

  -- The test for the fields, the items with their ids, and the references to them.
  module _ (r : Reference) (good : Item → Bool) (own : (s : Space) (span : Span) (id : Option Id) → good (item s id []) ≡ true
      → ok (ItemIndex s (r s span id)) ≡ true) where
    -- the one item of a field
    own_passes : (s : Space) (span : Span) (id : Option Id) → list_all good (item s id [] ∷ []) ≡ true → ok (ItemIndex s (r s span id)) ≡ true
    own_passes s span id h = own s span id (and_parts (good (item s id [])) true h).0

    field_passes : (x : ModuleField) → list_all good (items_in x) ≡ true → passes x ≡ true → list_all passes (desugar_field r x) ≡ true
    field_passes (field.Func f) its h = behind_exports passes f.exports.names _ (λ name. both_true (own_passes space.Func f.span f.id its) refl)
        (func_passes f f.kind h)
    field_passes (field.Table t) its h =
        let mine = own_passes space.Table t.span t.id its in
        behind_exports passes t.exports.names _ (λ name. both_true mine refl) (table_passes t t.kind (r space.Table t.span t.id) mine h)
    field_passes (field.Memory m) its h =
        let mine = own_passes space.Memory m.span m.id its in
        behind_exports passes m.exports.names _ (λ name. both_true mine refl) (memory_passes m m.kind (r space.Memory m.span m.id) mine)
    field_passes (field.Global g) its h = behind_exports passes g.exports.names _ (λ name. both_true (own_passes space.Global g.span g.id its) refl)
        (global_passes g g.kind h)
    field_passes (field.Tag t) its h = behind_exports passes t.exports.names _ (λ name. both_true (own_passes space.Tag t.span t.id its) refl)
        (tag_passes t t.kind h)
    field_passes x its h = both_true h refl

    all_pass : (xs : List ModuleField) → list_all good (items xs) ≡ true → list_all passes xs ≡ true → list_all passes (flat_map (desugar_field r) xs) ≡ true
    all_pass [] its h = refl
    all_pass (x ∷ xs) its h =
        let of_items = and_parts (list_all good (items_in x)) (list_all good (items xs)) (sym (list_all-append good (items_in x) (items xs)) ∙ its) in
        let of_asks = and_parts (passes x) (list_all passes xs) h in
        both_pass passes (desugar_field r x) (flat_map (desugar_field r) xs) (field_passes x of_items.0 of_asks.0) (all_pass xs of_items.1 of_asks.1)

  -- so for references by id,
  pub written_pass : (good : Item → Bool) → ((s : Space) (span : Span) (id : Option Id) → good (item s id []) ≡ true
      → ok (ItemIndex s (by_id s span id)) ≡ true)
      → (n : ℕ) (fields : List ModuleField) → list_all good (items (with_referred_ids n fields)) ≡ true
      → list_all ok (checks_of (in_module fields)) ≡ true → list_all ok (checks_of (in_module (desugared_from n fields))) ≡ true
  written_pass good own n fields its h =
      all_fields (desugared_from n fields) ∙ all_pass by_id good own (with_referred_ids n fields) its (sym (all_fields (with_referred_ids n fields))
      ∙ (ap pass (asked_referable n fields) ∙ h))

  -- and for references by position, if each number passes.
  module _ (numbers : (s : Space) (m : ℕ) (span : Span) → ok (ItemIndex s (index.Num m span)) ≡ true) where
    after_pass : (before : List Item) (xs : List ModuleField) → list_all passes xs ≡ true → list_all passes (written_after before xs) ≡ true
    after_pass before [] h = refl
    after_pass before (x ∷ xs) h =
        let parts = and_parts (passes x) (list_all passes xs) h in
        let own : (s : Space) (span : Span) (id : Option Id) → true ≡ true
        → ok (ItemIndex s (by_position before s span id)) ≡ true = λ s span id e. numbers s (length (names_in s before)) (place_or span id) in
        both_pass passes (desugar_field (by_position before) x) (written_after (before ++ items_in x) xs)
        (field_passes (by_position before) (λ y. true) own x (all_true (items_in x)) parts.0) (after_pass (before ++ items_in x) xs parts.1)

    pub written_out_pass : (fields : List ModuleField) → list_all ok (checks_of (in_module fields)) ≡ true
        → list_all ok (checks_of (in_module (desugared_by_position fields))) ≡ true
    written_out_pass fields h = all_fields (desugared_by_position fields) ∙ after_pass [] fields (sym (all_fields fields) ∙ h)

pub stays_sound_by_position : StaysSoundByPosition
stays_sound_by_position = written_out_pass is_sound (λ c. refl) (λ s m span. refl)
