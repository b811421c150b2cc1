-- The sites of stable instructions: no check fails there, no type is needed, and neither resolving type uses nor numbering
-- changes anything.
use Rattle.std.specs.Prelude.{⊤, ◌==◌, ◌&&◌, not, is_none, nat_lt, codes, Bool, Option, Some, None}
use Rattle.std.proofs.Common.{◌≡◌, ℕ, true, false, List, [], ◌∷◌, ◌++◌, length, refl, sym, ap, ◌∙◌, subst}
use Rattle.std.specs.List.{flat_map, list_all}
use Rattle.std.specs.Cmp.{first_so, second_so}
use Rattle.std.specs.Int.{is_power_of_two}
use Rattle.wast_base.specs.Blocks.{Blocks}
use Rattle.wast_base.specs.FirstUnmet.{known_index}
use Rattle.wast_base.specs.Ids.{Name, is_number, mark_of_option}
use Rattle.wast_base.specs.Denoted.{resolved_index}
use Rattle.wast_base.specs.Spaces.{word_of}
use Rattle.wast_tree_nodes.specs.Known.{IdContext}
use Rattle.wast_tree_nodes.specs.Sites.{Check, ItemIndex, Clause, Covered, Where, OfItem, OfCall, OfBlock, Site, Asked, Used, Declared, LocalAt}
use Rattle.wast_tree_nodes.specs.Sites.{FieldAt, LabelAt, Repeated, Begins, Ends, BodyContext, check_sites, in_heap, in_ref, in_val, in_param}
use Rattle.wast_tree_nodes.specs.Sites.{in_signature, in_target, in_pair, in_select, if_there, at_label, in_block, in_caught, in_catch, in_instr}
use Rattle.wast_tree_nodes.specs.Sites.{context_after, in_instrs}
use Rattle.wast_tree_nodes.specs.Types.{is_short}
use Rattle.wast_tree_map.specs.Mapped.{no_change, mapped_locals, mapped_signature, JoinsAsk, Joins, Each}
use Rattle.wast_tree_map.proofs.Joined.{of_indices}
use Rattle.wast_tree_map.proofs.Kept.{joins_in}
use Rattle.wast_tree_map.proofs.Laws.{same_keeps}
use Rattle.wast_tree_map.proofs.Types.{signature_at}
use Rattle.wast_expand_keys.specs.Signatures.{signature_of}
use Rattle.wast_expand_keys.specs.NeedingUses.{needed_if, needed_without, needed_at, needed_in}
use Rattle.wast_expand_keys.specs.Expanders.{LookUp}
use Rattle.wast_expand_keys.specs.Expanded.{bound_if, bound_use, binding_change}
use Rattle.wast_resolve_labels.specs.OpenBlocks.{label_depth}
use Rattle.wast_resolve_rules.specs.Scopes.{Scope, local_number, field_number}
use Rattle.wast_resolve_rules.specs.Demands.{ask_demand, ask_demands, use_demand, access_demand, repeated_demand, site_demand, site_demands}
use Rattle.wast_resolve_rules.specs.Resolved.{numbered_at, resolved_use, numbering_change}
use Rattle.wast_resolve_passes.proofs.Tries.{none_of}
use Rattle.wast_resolve.specs.Tree.{Id, Index, Space, ValType, HeapType, FunctionType, BlockType, TryTableCatch, TryTableCatchKind, MemArgTarget, Instruction}
use Rattle.wast_resolve.specs.Tree.index
use Rattle.wast_resolve.specs.Tree.space
use Rattle.wast_resolve.specs.Tree.form
use Rattle.wast_resolve.specs.Tree.value
use Rattle.wast_resolve.specs.Tree.heap
use Rattle.wast_resolve.specs.Tree.caught
use Rattle.wast_resolve.specs.Tree.target
use Rattle.wast_resolve.specs.Tree.instr
use Rattle.wast_resolve.specs.Stable.{is_stable_heap, is_stable_val, is_stable_inline, is_stable_block, is_stable_use, is_stable_target}
use Rattle.wast_resolve.specs.Stable.{is_stable_select, is_stable_caught, is_stable_catch, is_stable}

-- The index of a check is a number, if there is one.
abbrev pub IsStableCheck : Check → Type 0
IsStableCheck (ItemIndex s i) = is_number i ≡ true
IsStableCheck x = ⊤

-- whether a type use in a body is stable; that of a function is not in its body
abbrev pub stable_by : Where → Option Index → Option FunctionType → Bool
stable_by OfItem o t = false
stable_by OfCall o t = is_stable_use o t
stable_by OfBlock o t = is_stable_block o t

-- A site in a body at which nothing is left to resolve.
abbrev pub IsStableSite : Site → Type 0
IsStableSite (Asked a) = IsStableCheck a
IsStableSite (Used w u) = stable_by w u.index u.inline ≡ true
IsStableSite (Declared before m) = ⊥
IsStableSite (LocalAt locals i) = is_number i ≡ true
IsStableSite (FieldAt owner i) = (is_number owner ≡ true) × (is_number i ≡ true)
IsStableSite (LabelAt blocks i) = is_number i ≡ true
IsStableSite (Repeated blocks m) = m ≡ None
IsStableSite (Begins blocks m) = ⊤
IsStableSite Ends = ⊤

pub each_both : {S : Type 0} (p : S → Type 0) (xs ys : List S) → Each p xs → Each p ys → Each p (xs ++ ys)
each_both p [] ys h k = k
each_both p (x ∷ xs) ys h k = (h.0, each_both p xs ys h.1 k)

-- The checks of types.
asked_sites : (asks : List Check) → Each IsStableCheck asks → Each IsStableSite (check_sites asks)
asked_sites [] h = tt
asked_sites (a ∷ asks) h = (h.0, asked_sites asks h.1)

heap_asks : (t : HeapType) → is_stable_heap t ≡ true → Each IsStableCheck (in_heap t)
heap_asks (heap.Abstract shared ty) e = (tt, (tt, tt))
heap_asks (heap.Concrete i) e = (e, tt)
heap_asks (heap.Exact i) e = (e, (tt, tt))

val_asks : (t : ValType) → is_stable_val t ≡ true → Each IsStableCheck (in_val t)
val_asks value.I32 e = tt
val_asks value.I64 e = tt
val_asks value.F32 e = tt
val_asks value.F64 e = tt
val_asks value.V128 e = tt
val_asks (value.Ref r) e = heap_asks r.heap e

vals_asks : (ts : List ValType) → list_all is_stable_val ts ≡ true → Each IsStableCheck (flat_map in_val ts)
vals_asks [] e = tt
vals_asks (t ∷ ts) e =
    each_both IsStableCheck (in_val t) (flat_map in_val ts) (val_asks t (first_so (is_stable_val t) (list_all is_stable_val ts) e))
    (vals_asks ts (second_so (is_stable_val t) (list_all is_stable_val ts) e))

select_asks : (o : Option (List ValType)) → is_stable_select o ≡ true → Each IsStableCheck (if_there (flat_map in_val) o)
select_asks None e = tt
select_asks (Some ts) e = vals_asks ts e

short_so : (t : FunctionType) → is_stable_inline t ≡ true → is_short t ≡ true
short_so t e = first_so (is_short t) (list_all is_stable_val t.results) e

inline_asks : (t : FunctionType) → is_stable_inline t ≡ true → Each IsStableCheck (in_signature t)
inline_asks t e =
    let none : t.params ≡ [] = none_of t.params (first_so (length t.params == 0) (nat_lt (length t.results) 2) (short_so t e)) in
    subst (λ ps. Each IsStableCheck (flat_map in_param ps ++ flat_map in_val t.results)) (sym none)
    (vals_asks t.results (second_so (is_short t) (list_all is_stable_val t.results) e))

-- The sites of parts of instructions.
target_sites : (t : MemArgTarget) (p q : Bool) → is_stable_target t ≡ true
    → Each IsStableSite (check_sites (in_target t ++ Clause 1 p ∷ Covered form.Ordering q ∷ []))
target_sites (target.Memory i) p q e = (e, (tt, (tt, tt)))
target_sites (target.Array i) p q e = (e, (tt, (tt, (tt, tt))))

pair_sites : (s : Space) (i : Index) (t : Space) (j : Index) → (is_number i && is_number j) ≡ true → Each IsStableSite (check_sites (in_pair s i t j))
pair_sites s i t j e = (first_so (is_number i) (is_number j) e, (second_so (is_number i) (is_number j) e, tt))

block_sites : (blocks : Blocks) (b : BlockType) → is_stable_block b.ty.index b.ty.inline ≡ true → Each IsStableSite (in_block blocks b)
block_sites blocks b e = (e, (tt, tt))

labels_sites : (blocks : Blocks) (is : List Index) → list_all is_number is ≡ true → Each IsStableSite (flat_map (at_label blocks) is)
labels_sites blocks [] e = tt
labels_sites blocks (i ∷ is) e =
    (first_so (is_number i) (list_all is_number is) e, labels_sites blocks is (second_so (is_number i) (list_all is_number is) e))

caught_sites : (k : TryTableCatchKind) → is_stable_caught k ≡ true → Each IsStableSite (check_sites (in_caught k))
caught_sites (caught.Catch t) e = (e, tt)
caught_sites (caught.CatchRef t) e = (e, tt)
caught_sites caught.CatchAll e = tt
caught_sites caught.CatchAllRef e = tt

catches_sites : (blocks : Blocks) (cs : List TryTableCatch) → list_all is_stable_catch cs ≡ true → Each IsStableSite (flat_map (in_catch blocks) cs)
catches_sites blocks [] e = tt
catches_sites blocks (c ∷ cs) e =
    let one : (is_stable_caught c.kind && is_number c.label) ≡ true = first_so (is_stable_catch c) (list_all is_stable_catch cs) e in
    each_both IsStableSite (in_catch blocks c) (flat_map (in_catch blocks) cs)
    (each_both IsStableSite (check_sites (in_caught c.kind)) (at_label blocks c.label)
    (caught_sites c.kind (first_so (is_stable_caught c.kind) (is_number c.label) one))
    (second_so (is_stable_caught c.kind) (is_number c.label) one, tt))
    (catches_sites blocks cs (second_so (is_stable_catch c) (list_all is_stable_catch cs) e))

no_mark : (o : Option Id) → is_none o ≡ true → mark_of_option o ≡ None
no_mark None e = refl
no_mark (Some id) e = absurd (cc e)

-- The sites of an instruction. The last line is of those with one index.
instr_sites : (h : BodyContext) (i : Instruction) → is_stable i ≡ true → Each IsStableSite (in_instr h i)
instr_sites h (instr.Plain op) e = tt
instr_sites h (instr.Lane op a) e = tt
instr_sites h (instr.i32_const n) e = tt
instr_sites h (instr.i64_const n) e = tt
instr_sites h (instr.f32_const n) e = tt
instr_sites h (instr.f64_const n) e = tt
instr_sites h (instr.v128_const c) e = tt
instr_sites h (instr.i8x16_shuffle lanes) e = tt
instr_sites h (instr.atomic_fence o) e = (tt, tt)
instr_sites h (instr.Mem op m) e = target_sites m.target (is_power_of_two m.align) (is_none m.ordering) e
instr_sites h (instr.MemLane op a) e = target_sites a.memarg.target (is_power_of_two a.memarg.align) (is_none a.memarg.ordering) e
instr_sites h (instr.block b) e = block_sites h.blocks b e
instr_sites h (instr.loop_ b) e = block_sites h.blocks b e
instr_sites h (instr.if_ b) e = block_sites h.blocks b e
instr_sites h (instr.try_ b) e = block_sites h.blocks b e
instr_sites h (instr.else_ label) e = (no_mark label e, tt)
instr_sites h (instr.end_ label) e = (no_mark label e, (tt, tt))
instr_sites h (instr.delegate l) e = (tt, (e, tt))
instr_sites h (instr.try_table t) e =
    let own = is_stable_block t.block.ty.index t.block.ty.inline in
    let others = list_all is_stable_catch t.catches in (
      first_so own others e,
      each_both IsStableSite (flat_map (in_catch h.blocks) t.catches) (Begins h.blocks (mark_of_option t.block.label) ∷ [])
          (catches_sites h.blocks t.catches (second_so own others e)) (tt, tt),
    )
instr_sites h (instr.br_table t) e =
    each_both IsStableSite (flat_map (at_label h.blocks) t.labels) (at_label h.blocks t.default)
    (labels_sites h.blocks t.labels (first_so (list_all is_number t.labels) (is_number t.default) e))
    (second_so (list_all is_number t.labels) (is_number t.default) e, tt)
instr_sites h (instr.call_indirect c) e =
    let used = is_stable_use c.ty.index c.ty.inline in (first_so (is_number c.table) used e, (second_so (is_number c.table) used e, tt))
instr_sites h (instr.return_call_indirect c) e =
    let used = is_stable_use c.ty.index c.ty.inline in (first_so (is_number c.table) used e, (second_so (is_number c.table) used e, tt))
instr_sites h (instr.select t) e = asked_sites (in_select t) (select_asks t.tys e)
instr_sites h (instr.ref_null t) e = asked_sites (in_heap t) (heap_asks t e)
instr_sites h (instr.ref_test a) e = asked_sites (in_ref a.rt) (heap_asks a.rt.heap e)
instr_sites h (instr.ref_cast a) e = asked_sites (in_ref a.rt) (heap_asks a.rt.heap e)
instr_sites h (instr.struct_get a) e = ((first_so (is_number a.owner) (is_number a.field) e, second_so (is_number a.owner) (is_number a.field) e), tt)
instr_sites h (instr.struct_get_s a) e = ((first_so (is_number a.owner) (is_number a.field) e, second_so (is_number a.owner) (is_number a.field) e), tt)
instr_sites h (instr.struct_get_u a) e = ((first_so (is_number a.owner) (is_number a.field) e, second_so (is_number a.owner) (is_number a.field) e), tt)
instr_sites h (instr.struct_set a) e = ((first_so (is_number a.owner) (is_number a.field) e, second_so (is_number a.owner) (is_number a.field) e), tt)
instr_sites h (instr.array_new_data a) e = pair_sites space.Ty a.array space.Data a.data_idx e
instr_sites h (instr.array_new_elem a) e = pair_sites space.Ty a.array space.Elem a.elem_idx e
instr_sites h (instr.array_copy a) e = pair_sites space.Ty a.dest_array space.Ty a.src_array e
instr_sites h (instr.array_init_data a) e = pair_sites space.Ty a.array space.Data a.segment e
instr_sites h (instr.array_init_elem a) e = pair_sites space.Ty a.array space.Elem a.segment e
instr_sites h (instr.memory_init a) e = pair_sites space.Data a.segment space.Memory a.mem e
instr_sites h (instr.memory_copy a) e = pair_sites space.Memory a.src space.Memory a.dst e
instr_sites h (instr.table_init a) e = pair_sites space.Elem a.elem space.Table a.table e
instr_sites h (instr.table_copy a) e = pair_sites space.Table a.dst space.Table a.src e
instr_sites h (instr.struct_new_desc t) e = absurd (cc e)
instr_sites h (instr.struct_new_default_desc t) e = absurd (cc e)
instr_sites h (instr.ref_get_desc t) e = absurd (cc e)
instr_sites h (instr.cont_new t) e = absurd (cc e)
instr_sites h (instr.cont_bind a) e = absurd (cc e)
instr_sites h (instr.suspend t) e = absurd (cc e)
instr_sites h (instr.switch a) e = absurd (cc e)
instr_sites h (instr.memory_discard a) e = absurd (cc e)
instr_sites h (instr.ref_cast_desc_eq a) e = absurd (cc e)
instr_sites h (instr.br_on_cast a) e = absurd (cc e)
instr_sites h (instr.br_on_cast_fail a) e = absurd (cc e)
instr_sites h (instr.br_on_cast_desc_eq a) e = absurd (cc e)
instr_sites h (instr.br_on_cast_desc_eq_fail a) e = absurd (cc e)
instr_sites h (instr.GlobalAtomic a) e = absurd (cc e)
instr_sites h (instr.TableAtomic a) e = absurd (cc e)
instr_sites h (instr.StructAtomic a) e = absurd (cc e)
instr_sites h (instr.ArrayAtomic a) e = absurd (cc e)
instr_sites h (instr.resume a) e = absurd (cc e)
instr_sites h (instr.resume_throw a) e = absurd (cc e)
instr_sites h (instr.resume_throw_ref a) e = absurd (cc e)
instr_sites h (instr.Beyond name) e = absurd (cc e)
instr_sites h i e = (e, tt)

-- So a stable body is, in any context.
pub instrs_sites : (h : BodyContext) (is : List Instruction) → list_all is_stable is ≡ true → Each IsStableSite (in_instrs h is)
instrs_sites h [] e = tt
instrs_sites h (i ∷ is) e =
    each_both IsStableSite (in_instr h i) (in_instrs (context_after h i) is) (instr_sites h i (first_so (is_stable i) (list_all is_stable is) e))
    (instrs_sites (context_after h i) is (second_so (is_stable i) (list_all is_stable is) e))

-- No check fails at a stable site.
known_none : (f : Name → Option ℕ) (word : List ℕ) (i : Index) → is_number i ≡ true → known_index f word i ≡ []
known_none f word (index.Num n p) e = refl
known_none f word (index.Id id) e = absurd (cc e)

check_none : (k : IdContext) (a : Check) → IsStableCheck a → ask_demand k a ≡ []
check_none k (ItemIndex s i) e = known_none (k.number s) (word_of s) i e
check_none k x e = refl

asks_none : (k : IdContext) (asks : List Check) → Each IsStableCheck asks → ask_demands k asks ≡ []
asks_none k [] e = refl
asks_none k (a ∷ asks) e = λ t. check_none k a e.0 t ++ asks_none k asks e.1 t

use_none : (c : Scope) (w : Where) (o : Option Index) (t : Option FunctionType) → stable_by w o t ≡ true
    → use_demand c (record { index = o; inline = t }) ≡ []
use_none c OfItem o t e = absurd (cc e)
use_none c OfCall (Some (index.Num n p)) None e = refl
use_none c OfCall (Some (index.Id id)) None e = absurd (cc e)
use_none c OfCall (Some i) (Some t) e = absurd (cc e)
use_none c OfCall None t e = absurd (cc e)
use_none c OfBlock (Some (index.Num n p)) None e = refl
use_none c OfBlock (Some (index.Id id)) None e = absurd (cc e)
use_none c OfBlock (Some i) (Some t) e = absurd (cc e)
use_none c OfBlock None None e = absurd (cc e)
use_none c OfBlock None (Some t) e = ap (λ ds. ds ++ []) (asks_none c.known (in_signature t) (inline_asks t e))

access_none : (c : Scope) (owner i : Index) → is_number owner ≡ true → is_number i ≡ true → access_demand c owner i ≡ []
access_none c (index.Num n p) (index.Num m q) d e = refl
access_none c (index.Num n p) (index.Id id) d e = absurd (cc e)
access_none c (index.Id id) i d e = absurd (cc d)

site_none : (c : Scope) (s : Site) → IsStableSite s → site_demand c s ≡ []
site_none c (Asked a) e = check_none c.known a e
site_none c (Used w u) e = use_none c w u.index u.inline e
site_none c (Declared before m) e = absurd e
site_none c (LocalAt locals i) e = known_none (local_number c locals) (codes "local") i e
site_none c (FieldAt owner i) e = access_none c owner i e.0 e.1
site_none c (LabelAt blocks i) e = known_none (λ name. label_depth name blocks) (codes "label") i e
site_none c (Repeated blocks m) e = ap (repeated_demand blocks) e
site_none c (Begins blocks m) e = refl
site_none c Ends e = refl

pub sites_none : (c : Scope) (ss : List Site) → Each IsStableSite ss → site_demands c ss ≡ []
sites_none c [] e = refl
sites_none c (s ∷ ss) e = λ t. site_none c s e.0 t ++ sites_none c ss e.1 t

-- Numbering changes nothing there.
index_still : (f : Name → Option ℕ) (i : Index) → is_number i ≡ true → resolved_index f i ≡ i
index_still f (index.Num n p) e = refl
index_still f (index.Id id) e = absurd (cc e)

module _ (k : IdContext) where
  check_still : (a : Check) → IsStableCheck a → JoinsAsk no_change.index (numbered_at k) no_change.index a
  check_still (ItemIndex s i) e = index_still (k.number s) i e
  check_still x e = tt

  asks_still : (asks : List Check) → Each IsStableCheck asks → Each (JoinsAsk no_change.index (numbered_at k) no_change.index) asks
  asks_still [] e = tt
  asks_still (a ∷ asks) e = (check_still a e.0, asks_still asks e.1)

  signature_still : (t : FunctionType) → Each IsStableCheck (in_signature t) → mapped_signature (numbered_at k) t ≡ t
  signature_still t e =
      let at = signature_at t in
      sym (ap (mapped_signature (numbered_at k)) at.still)
      ∙ (joins_in t at no_change (of_indices (numbered_at k)) no_change (record { keeps = same_keeps; ids = λ o. refl; owns = λ o. refl })
      (asks_still (in_signature t) e) ∙ at.still)

  use_still : (w : Where) (o : Option Index) (t : Option FunctionType) → stable_by w o t ≡ true
      → resolved_use k w (record { index = o; inline = t }) ≡ record { index = o; inline = t }
  use_still OfItem o t e = absurd (cc e)
  use_still OfCall (Some (index.Num n p)) None e = refl
  use_still OfCall (Some (index.Id id)) None e = absurd (cc e)
  use_still OfCall (Some i) (Some t) e = absurd (cc e)
  use_still OfCall None t e = absurd (cc e)
  use_still OfBlock (Some (index.Num n p)) None e = refl
  use_still OfBlock (Some (index.Id id)) None e = absurd (cc e)
  use_still OfBlock (Some i) (Some t) e = absurd (cc e)
  use_still OfBlock None None e = absurd (cc e)
  use_still OfBlock None (Some t) e = ap (λ (s : FunctionType). record { index = None; inline = Some s }) (signature_still t (inline_asks t e))

pub numbering_joins : (c : Scope) (s : Site) → IsStableSite s → Joins no_change (numbering_change c) no_change s
numbering_joins c (Asked a) e = check_still c.known a e
numbering_joins c (Used w u) e = use_still c.known w u.index u.inline e
numbering_joins c (LocalAt locals i) e = index_still (local_number c (mapped_locals no_change locals)) i e
numbering_joins c (FieldAt owner i) e = (index_still (c.known.number space.Ty) owner e.0, index_still (field_number c owner) i e.1)
numbering_joins c (LabelAt blocks i) e = index_still (λ name. label_depth name blocks) i e
numbering_joins c x e = tt

-- Resolving type uses changes nothing there, and no type is needed.
module _ (find : LookUp) where
  use_bound : (w : Where) (o : Option Index) (t : Option FunctionType) → stable_by w o t ≡ true
      → bound_use find w (record { index = o; inline = t }) ≡ record { index = o; inline = t }
  use_bound OfItem o t e = absurd (cc e)
  use_bound OfCall (Some i) t e = refl
  use_bound OfCall None t e = absurd (cc e)
  use_bound OfBlock (Some i) t e = refl
  use_bound OfBlock None None e = absurd (cc e)
  use_bound OfBlock None (Some t) e = ap (λ (b : Bool). record { index = bound_if (not b) (find (signature_of t)); inline = Some t }) (short_so t e)

  pub binding_joins : (s : Site) → IsStableSite s → Joins no_change (binding_change find) no_change s
  binding_joins (Asked (ItemIndex s i)) e = refl
  binding_joins (Used w u) e = use_bound w u.index u.inline e
  binding_joins (LocalAt locals i) e = refl
  binding_joins (FieldAt owner i) e = (refl, refl)
  binding_joins (LabelAt blocks i) e = refl
  binding_joins x e = tt

use_needs : (w : Where) (o : Option Index) (t : Option FunctionType) → stable_by w o t ≡ true → needed_without w o t ≡ []
use_needs OfItem o t e = absurd (cc e)
use_needs OfCall (Some i) t e = refl
use_needs OfCall None t e = absurd (cc e)
use_needs OfBlock (Some i) t e = refl
use_needs OfBlock None None e = absurd (cc e)
use_needs OfBlock None (Some t) e = ap (λ (b : Bool). needed_if (not b) (signature_of t)) (short_so t e)

site_needs : (s : Site) → IsStableSite s → needed_at s ≡ []
site_needs (Used w u) e = use_needs w u.index u.inline e
site_needs x e = refl

pub sites_need : (ss : List Site) → Each IsStableSite ss → needed_in ss ≡ []
sites_need [] e = refl
sites_need (s ∷ ss) e = λ t. site_needs s e.0 t ++ sites_need ss e.1 t
