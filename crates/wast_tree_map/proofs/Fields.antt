-- The theorems of maps at each instruction and each field.
use Rattle.std.specs.Borrow.{Bor}
use Rattle.std.specs.Int.{is_power_of_two}
use Rattle.std.specs.Prelude.{is_none, ◌&&◌, not, Option, Some, None, option_map, length}
use Rattle.std.proofs.Common.{◌≡◌, ℕ, ◌+◌, false, List, [], ◌∷◌, ◌++◌, refl, sym, ap, ◌∙◌, map, arith}
use Rattle.std.specs.List.{flat_map}
use Rattle.std.proofs.lemmas.Grind.{common_steps}
use Rattle.std.proofs.lemmas.List.{map-append}
use Rattle.wast_base.specs.Blocks.{Blocks, without_innermost, Opens, is_balanced}
use Rattle.wast_base.specs.Ids.{Name, Mark, mark_of_option}
use Rattle.wast_base.specs.Spaces.{name_if}
use Rattle.wast_tree_map.specs.Tree.{Id, Index, RefType, HeapType, TableType, GlobalType, TypeUse, FunctionType, BlockType, BrTableIndices}
use Rattle.wast_tree_map.specs.Tree.{TryTable, TryTableCatch, TryTableCatchKind, MemArg, MemArgTarget, CallIndirect, SelectTypes, Handle}
use Rattle.wast_tree_map.specs.Tree.{ResumeTable, Instruction, Expression, Local, FuncKind, Func, ItemSig, ItemKind, ImportItems, TableKind}
use Rattle.wast_tree_map.specs.Tree.{MemoryKind, GlobalKind, ElemKind, ElemPayload, Elem, DataKind, TagType, ModuleField, ValType}
use Rattle.wast_tree_map.specs.Tree.form
use Rattle.wast_tree_map.specs.Tree.space
use Rattle.wast_tree_map.specs.Tree.heap
use Rattle.wast_tree_map.specs.Tree.target
use Rattle.wast_tree_map.specs.Tree.caught
use Rattle.wast_tree_map.specs.Tree.handle
use Rattle.wast_tree_map.specs.Tree.instr
use Rattle.wast_tree_map.specs.Tree.func
use Rattle.wast_tree_map.specs.Tree.kind
use Rattle.wast_tree_map.specs.Tree.import_items
use Rattle.wast_tree_map.specs.Tree.table
use Rattle.wast_tree_map.specs.Tree.memory
use Rattle.wast_tree_map.specs.Tree.global
use Rattle.wast_tree_map.specs.Tree.elem
use Rattle.wast_tree_map.specs.Tree.payload
use Rattle.wast_tree_map.specs.Tree.data_kind
use Rattle.wast_tree_map.specs.Tree.field
use Rattle.wast_tree_map.specs.Tree.{Custom, Dylink0Subsection}
use Rattle.wast_tree_map.specs.Tree.custom
use Rattle.wast_tree_map.specs.Tree.dylink
use Rattle.wast_tree_nodes.specs.Clauses.{is_func_heap, hints_stand, stand_from, is_segment_type_allowed}
use Rattle.wast_tree_nodes.specs.Instrs.{turn_of, block_effects}
use Rattle.wast_tree_nodes.specs.Sites.{BodyContext, constant_context, OfItem, OfCall, OfBlock, Site, Asked, Declared, LabelAt, Repeated}
use Rattle.wast_tree_nodes.specs.Sites.{Begins, Ends, Clause, Covered, uncovered_check, context_after_site, after_all, check_sites}
use Rattle.wast_tree_nodes.specs.Sites.{at_index, in_heap, in_block, in_caught, in_catch, in_try_table, in_br_table, in_ref, in_pair}
use Rattle.wast_tree_nodes.specs.Sites.{in_cast, in_handle, in_handlers, in_target, in_mem_arg, in_select, in_indirect, in_instr}
use Rattle.wast_tree_nodes.specs.Sites.{context_after, in_instrs, in_expression, in_constant, in_local, local_marks, param_marks}
use Rattle.wast_tree_nodes.specs.Sites.{declaration_sites, body_here, in_func_kind, in_use, in_func, in_item_kind, in_sig, in_import}
use Rattle.wast_tree_nodes.specs.Sites.{exported_space, in_payload, in_table_kind, in_memory_kind, in_global_kind, in_elem_kind, in_elem}
use Rattle.wast_tree_nodes.specs.Sites.{in_data_kind, in_subsection, in_custom, in_field}
use Rattle.wast_tree_map.specs.Mapped.{Change, no_change, KeepsMarks, Each, mapped_heap, mapped_ref, mapped_handle, mapped_handlers}
use Rattle.wast_tree_map.specs.Mapped.{mapped_block, mapped_caught, mapped_catch, mapped_try_table, mapped_br_table, mapped_target}
use Rattle.wast_tree_map.specs.Mapped.{mapped_mem_arg, mapped_select, mapped_indirect, mapped_instr, mapped_instrs, mapped_expression}
use Rattle.wast_tree_map.specs.Mapped.{mapped_constant, mapped_local, mapped_func_kind, mapped_func, mapped_item_kind, mapped_sig}
use Rattle.wast_tree_map.specs.Mapped.{mapped_import_items, mapped_payload, mapped_table_kind, mapped_global_kind, mapped_elem_kind}
use Rattle.wast_tree_map.specs.Mapped.{mapped_elem, mapped_data_kind, mapped_field}
use Rattle.wast_tree_map.specs.Named.{Naming, RenamesIds, renamed, renamed_mark, named_locals, named_here, named_site, NamedJoins, AreNamedJoint}
use Rattle.wast_tree_map.proofs.Ways.{In, At, Among, begins_at, each_first, each_rest, index_in, index_at, mark_in, label_at, asked_at}
use Rattle.wast_tree_map.proofs.Ways.{item_id_at, use_at, fixed_at, both_at, made_at, made_among, tested_at, option_at, list_at}
use Rattle.wast_tree_map.proofs.Balanced.{renamed_turn, balanced_named}
use Rattle.wast_tree_map.proofs.Types.{heap_at, ref_at, val_at, type_at, rec_at, table_type_at, global_type_at, tag_type_at}

-- A memory argument and its memory or array.
target_at : (t : MemArgTarget) → In in_target (λ f. mapped_target f.index) t
target_at (target.Memory i) = made_at target.Memory (λ y. refl) (λ f y. refl) i (index_in space.Memory i)
target_at (target.Array i) = made_at target.Array (λ y. refl) (λ f y. refl) i (tested_at i (uncovered_check form.ArrayMemArg) (λ n f. refl)
    (index_in space.Ty i))

pub mem_arg_at : (m : MemArg) → In in_mem_arg (λ f. mapped_mem_arg f.index) m
mem_arg_at m =
    made_at (λ (t : MemArgTarget). record m { target = t }) (λ y. refl) (λ f y. refl) m.target
    (tested_at m.target (Clause 1 (is_power_of_two m.align) ∷ Covered form.Ordering (is_none m.ordering) ∷ []) (λ n f. refl) (target_at m.target))

pub select_at : (t : SelectTypes) → In in_select (λ f. mapped_select f.index) t
select_at t = made_at (λ (o : Option (List ValType)). record { tys = o }) (λ y. refl) (λ f y. refl) t.tys (option_at (list_at val_at) t.tys)

pub indirect_at : (c : CallIndirect) → At in_indirect mapped_indirect c
indirect_at c =
    made_at (λ (q : Index × TypeUse FunctionType). record { table = q.0; ty = q.1 }) (λ y. refl) (λ f y. refl) (c.table, c.ty)
    (both_at c.table c.ty (index_at space.Table c.table) (use_at OfCall c.ty))

-- A block, and a `try_table`.
block_at : (blocks : Blocks) (b : BlockType) → Among in_block (λ f blocks b. mapped_block f b) blocks b
block_at blocks b =
    made_among in_block (λ f blocks. mapped_block f) blocks (λ (q : TypeUse FunctionType × Option Id). record b { ty = q.0; label = q.1 })
    (λ y. refl) (λ n y. refl) (λ f y. refl) (λ n f y. refl) (b.ty, b.label)
    (both_at b.ty b.label (use_at OfBlock b.ty) (begins_at blocks b.label))

pub caught_at : (c : TryTableCatchKind) → In in_caught (λ f. mapped_caught f.index) c
caught_at (caught.Catch e) = made_at caught.Catch (λ y. refl) (λ f y. refl) e (index_in space.Tag e)
caught_at (caught.CatchRef e) = made_at caught.CatchRef (λ y. refl) (λ f y. refl) e (index_in space.Tag e)
caught_at c = fixed_at c (λ f. refl) (λ n f. refl)

catch_at : (blocks : Blocks) (c : TryTableCatch) → Among in_catch mapped_catch blocks c
catch_at blocks c =
    made_among in_catch mapped_catch blocks (λ (q : TryTableCatchKind × Index). record { kind = q.0; label = q.1 }) (λ y. refl) (λ n y. refl)
    (λ f y. refl) (λ n f y. refl) (c.kind, c.label)
    (both_at c.kind c.label (asked_at c.kind (caught_at c.kind)) (label_at blocks c.label))

try_table_at : (blocks : Blocks) (t : TryTable) → Among in_try_table mapped_try_table blocks t
try_table_at blocks t =
    made_among in_try_table mapped_try_table blocks
    (λ (q : TypeUse FunctionType × (List TryTableCatch × Option Id)). record { block = record t.block { ty = q.0; label = q.1.1 }; catches = q.1.0 })
    (λ y. refl) (λ n y. refl) (λ f y. refl) (λ n f y. refl) (t.block.ty, (t.catches, t.block.label))
    (both_at t.block.ty (t.catches, t.block.label) (use_at OfBlock t.block.ty) (both_at t.catches t.block.label (list_at (catch_at blocks) t.catches)
    (begins_at blocks t.block.label)))

br_table_at : (blocks : Blocks) (t : BrTableIndices) → Among in_br_table mapped_br_table blocks t
br_table_at blocks t =
    made_among in_br_table mapped_br_table blocks (λ (q : List Index × Index). record { labels = q.0; default = q.1 }) (λ y. refl) (λ n y. refl)
    (λ f y. refl) (λ n f y. refl) (t.labels, t.default)
    (both_at t.labels t.default (list_at (label_at blocks) t.labels) (label_at blocks t.default))

-- A branch on a cast: its label and its two types.
abbrev Cast : Type 0
Cast = Index × (RefType × RefType)

abbrev in_cast_of : Blocks → Cast → List Site
in_cast_of blocks q = in_cast blocks q.0 q.1.0 q.1.1

abbrev mapped_cast : Change → Blocks → Cast → Cast
mapped_cast f blocks q = (f.label blocks q.0, (mapped_ref f.index q.1.0, mapped_ref f.index q.1.1))

cast_at : (blocks : Blocks) (q : Cast) → Among in_cast_of mapped_cast blocks q
cast_at blocks q = both_at q.0 q.1 (label_at blocks q.0) (asked_at q.1 (both_at q.1.0 q.1.1 (ref_at q.1.0) (ref_at q.1.1)))

-- An unsupported construct.
uncovered_cast_at : (blocks : Blocks) (q : Cast) → Among (λ blocks q. in_cast_of blocks q ++ check_sites (uncovered_check form.Descriptor)) mapped_cast blocks q
uncovered_cast_at blocks q = tested_at q (check_sites (uncovered_check form.Descriptor)) (λ n f. refl) (cast_at blocks q)

uncovered_ref_at : (r : RefType) → In (λ r. in_ref r ++ uncovered_check form.Descriptor) (λ f. mapped_ref f.index) r
uncovered_ref_at r = tested_at r (uncovered_check form.Descriptor) (λ n f. refl) (ref_at r)

-- The handlers of a resume instruction.
handle_at : (blocks : Blocks) (x : Handle) → Among in_handle mapped_handle blocks x
handle_at blocks (handle.OnLabel e l) =
    made_among in_handle mapped_handle blocks (λ (q : Index × Index). handle.OnLabel q.0 q.1) (λ y. refl) (λ n y. refl) (λ f y. refl) (λ n f y. refl)
    (e, l) (both_at e l (index_at space.Tag e) (label_at blocks l))
handle_at blocks (handle.OnSwitch e) = made_among in_handle mapped_handle blocks (λ (i : Index). handle.OnSwitch i) (λ y. refl) (λ n y. refl)
    (λ f y. refl) (λ n f y. refl) e (index_at space.Tag e)

handlers_at : (blocks : Blocks) (t : ResumeTable) → Among in_handlers mapped_handlers blocks t
handlers_at blocks t =
    made_among in_handlers mapped_handlers blocks (λ (xs : List Handle). record { handlers = xs }) (λ y. refl) (λ n y. refl) (λ f y. refl)
    (λ n f y. refl) t.handlers
    (tested_at t.handlers (check_sites (uncovered_check form.StackSwitching)) (λ n f. refl) (list_at (handle_at blocks) t.handlers))

-- The rest of the instruction.
resume_at : (blocks : Blocks) (q : Index × ResumeTable)
    → Among (λ blocks q. at_index space.Ty q.0 ++ in_handlers blocks q.1) (λ f blocks q. (f.index space.Ty q.0, mapped_handlers f blocks q.1)) blocks q
resume_at blocks q = both_at q.0 q.1 (index_at space.Ty q.0) (handlers_at blocks q.1)

throw_at : (blocks : Blocks) (q : (Index × Index) × ResumeTable)
    → Among (λ blocks q. check_sites (in_pair space.Ty q.0.0 space.Tag q.0.1) ++ in_handlers blocks q.1)
    (λ f blocks q. ((f.index space.Ty q.0.0, f.index space.Tag q.0.1), mapped_handlers f blocks q.1)) blocks q
throw_at blocks q = both_at q.0 q.1 (asked_at q.0 (both_at q.0.0 q.0.1 (index_in space.Ty q.0.0) (index_in space.Tag q.0.1))) (handlers_at blocks q.1)

-- The innermost block is closed.
closed_named : (n : Naming) (blocks : Blocks) → without_innermost (renamed n blocks) ≡ renamed n (without_innermost blocks)
closed_named n [] = refl
closed_named n (b ∷ bs) = refl

-- An instruction. A tactic goes through the variants, with one line for each kind of immediates that has parts. The
-- mapped one is in a body whose function is mapped, with other names.
module _ (n : Naming) (f : Change) (k : RenamesIds n f) where
  heap_stands : (t : HeapType) → check_sites (in_heap (mapped_heap f.index t)) ≡ map (named_site n f) (check_sites (in_heap t))
  heap_stands t = (asked_at t (heap_at t)).stands n f k

  block_stands : (blocks : Blocks) (b : BlockType) → in_block (renamed n blocks) (mapped_block f b) ≡ map (named_site n f) (in_block blocks b)
  block_stands blocks b = (block_at blocks b).stands n f k

  abbrev repeats : Blocks → Option Id → List Site
  repeats blocks o = Repeated blocks (mark_of_option o) ∷ []

  repeated_stands : (blocks : Blocks) (o : Option Id) → repeats (renamed n blocks) (f.own o) ≡ map (named_site n f) (repeats blocks o)
  repeated_stands blocks o = ap (λ m. Repeated (renamed n blocks) m ∷ []) (k.owns o)

  pub instr_stands : (h : BodyContext) (i : Instruction) → in_instr (named_here n f h) (mapped_instr f h i) ≡ map (named_site n f) (in_instr h i)
  instr_stands h (instr.Mem op m) = (asked_at m (mem_arg_at m)).stands n f k
  instr_stands h (instr.select t) = (asked_at t (select_at t)).stands n f k
  instr_stands h (instr.call_indirect c) = (indirect_at c).stands n f k
  instr_stands h (instr.return_call_indirect c) = (indirect_at c).stands n f k
  instr_stands h (instr.try_table t) = (try_table_at h.blocks t).stands n f k
  instr_stands h (instr.br_table t) = (br_table_at h.blocks t).stands n f k
  instr_stands h (instr.MemLane op a) = (asked_at a.memarg (mem_arg_at a.memarg)).stands n f k
  instr_stands h (instr.br_on_cast a) = (cast_at h.blocks (a.label, (a.to_type, a.from_type))).stands n f k
  instr_stands h (instr.br_on_cast_fail a) = (cast_at h.blocks (a.label, (a.to_type, a.from_type))).stands n f k
  instr_stands h (instr.br_on_cast_desc_eq a) = (uncovered_cast_at h.blocks (a.label, (a.to_type, a.from_type))).stands n f k
  instr_stands h (instr.br_on_cast_desc_eq_fail a) = (uncovered_cast_at h.blocks (a.label, (a.to_type, a.from_type))).stands n f k
  instr_stands h (instr.ref_test a) = (asked_at a.rt (ref_at a.rt)).stands n f k
  instr_stands h (instr.ref_cast a) = (asked_at a.rt (ref_at a.rt)).stands n f k
  instr_stands h (instr.ref_cast_desc_eq a) = (asked_at a.rt (uncovered_ref_at a.rt)).stands n f k
  instr_stands h (instr.resume a) = (resume_at h.blocks (a.type_index, a.table)).stands n f k
  instr_stands h (instr.resume_throw_ref a) = (resume_at h.blocks (a.type_index, a.table)).stands n f k
  instr_stands h (instr.resume_throw a) = (throw_at h.blocks ((a.type_index, a.tag_index), a.table)).stands n f k
  instr_stands h (instr.else_ label) = repeated_stands h.blocks label
  instr_stands h (instr.end_ label) = ap (λ ss. ss ++ Ends ∷ []) (repeated_stands h.blocks label)
  instr_stands h (instr.delegate l) = ap (λ bs. Ends ∷ LabelAt bs (f.label (without_innermost h.blocks) l) ∷ []) (closed_named n h.blocks)
  instr_stands h i = grind (arith, common_steps, heap_stands, block_stands)

module _ (n : Naming) (x g f : Change) (j : AreNamedJoint n x g f) where
  heap_joins : (t : HeapType) → Each (NamedJoins n x g f) (check_sites (in_heap t)) → mapped_heap g.index (mapped_heap x.index t) ≡ mapped_heap f.index t
  heap_joins t e = (asked_at t (heap_at t)).joins n x g f j e

  block_joins : (blocks : Blocks) (b : BlockType) → Each (NamedJoins n x g f) (in_block blocks b) → mapped_block g (mapped_block x b) ≡ mapped_block f b
  block_joins blocks b e = (block_at blocks b).joins n x g f j e

  instr_joins : (h : BodyContext) (i : Instruction) → Each (NamedJoins n x g f) (in_instr h i)
      → mapped_instr g (named_here n x h) (mapped_instr x h i) ≡ mapped_instr f h i
  instr_joins h (instr.Mem op m) e = ap (instr.Mem op) ((asked_at m (mem_arg_at m)).joins n x g f j e)
  instr_joins h (instr.select t) e = ap instr.select ((asked_at t (select_at t)).joins n x g f j e)
  instr_joins h (instr.call_indirect c) e = ap instr.call_indirect ((indirect_at c).joins n x g f j e)
  instr_joins h (instr.return_call_indirect c) e = ap instr.return_call_indirect ((indirect_at c).joins n x g f j e)
  instr_joins h (instr.try_table t) e = ap instr.try_table ((try_table_at h.blocks t).joins n x g f j e)
  instr_joins h (instr.br_table t) e = ap instr.br_table ((br_table_at h.blocks t).joins n x g f j e)
  instr_joins h (instr.MemLane op a) e = ap (λ (m : MemArg). instr.MemLane op (record a { memarg = m }))
      ((asked_at a.memarg (mem_arg_at a.memarg)).joins n x g f j e)
  instr_joins h (instr.br_on_cast a) e = ap (λ (q : Cast). instr.br_on_cast (record { label = q.0; from_type = q.1.1; to_type = q.1.0 }))
      ((cast_at h.blocks (a.label, (a.to_type, a.from_type))).joins n x g f j e)
  instr_joins h (instr.br_on_cast_fail a) e = ap (λ (q : Cast). instr.br_on_cast_fail (record { label = q.0; from_type = q.1.1; to_type = q.1.0 }))
      ((cast_at h.blocks (a.label, (a.to_type, a.from_type))).joins n x g f j e)
  instr_joins h (instr.br_on_cast_desc_eq a) e =
      ap (λ (q : Cast). instr.br_on_cast_desc_eq (record { label = q.0; from_type = q.1.1; to_type = q.1.0 }))
      ((uncovered_cast_at h.blocks (a.label, (a.to_type, a.from_type))).joins n x g f j e)
  instr_joins h (instr.br_on_cast_desc_eq_fail a) e =
      ap (λ (q : Cast). instr.br_on_cast_desc_eq_fail (record { label = q.0; from_type = q.1.1; to_type = q.1.0 }))
      ((uncovered_cast_at h.blocks (a.label, (a.to_type, a.from_type))).joins n x g f j e)
  instr_joins h (instr.ref_test a) e = ap (λ (r : RefType). instr.ref_test (record { rt = r })) ((asked_at a.rt (ref_at a.rt)).joins n x g f j e)
  instr_joins h (instr.ref_cast a) e = ap (λ (r : RefType). instr.ref_cast (record { rt = r })) ((asked_at a.rt (ref_at a.rt)).joins n x g f j e)
  instr_joins h (instr.ref_cast_desc_eq a) e = ap (λ (r : RefType). instr.ref_cast_desc_eq (record { rt = r }))
      ((asked_at a.rt (uncovered_ref_at a.rt)).joins n x g f j e)
  instr_joins h (instr.resume a) e = ap (λ (q : Index × ResumeTable). instr.resume (record { type_index = q.0; table = q.1 }))
      ((resume_at h.blocks (a.type_index, a.table)).joins n x g f j e)
  instr_joins h (instr.resume_throw_ref a) e = ap (λ (q : Index × ResumeTable). instr.resume_throw_ref (record { type_index = q.0; table = q.1 }))
      ((resume_at h.blocks (a.type_index, a.table)).joins n x g f j e)
  instr_joins h (instr.resume_throw a) e =
      ap (λ (q : (Index × Index) × ResumeTable). instr.resume_throw (record { type_index = q.0.0; tag_index = q.0.1; table = q.1 }))
      ((throw_at h.blocks ((a.type_index, a.tag_index), a.table)).joins n x g f j e)
  instr_joins h (instr.else_ label) e = ap instr.else_ (j.owns label)
  instr_joins h (instr.end_ label) e = ap instr.end_ (j.owns label)
  instr_joins h (instr.delegate l) e = ap (λ bs. instr.delegate (g.label bs (x.label (without_innermost h.blocks) l))) (closed_named n h.blocks)
      ∙ ap instr.delegate e.1.0
  instr_joins h i e = grind (arith, common_steps, heap_joins, block_joins)

heap_still : (t : HeapType) → mapped_heap no_change.index t ≡ t
heap_still t = (heap_at t).still

instr_still : (h : BodyContext) (i : Instruction) → mapped_instr no_change h i ≡ i
instr_still h (instr.Mem op m) = ap (instr.Mem op) (mem_arg_at m).still
instr_still h (instr.select t) = ap instr.select (select_at t).still
instr_still h (instr.call_indirect c) = ap instr.call_indirect (indirect_at c).still
instr_still h (instr.return_call_indirect c) = ap instr.return_call_indirect (indirect_at c).still
instr_still h (instr.try_table t) = ap instr.try_table (try_table_at h.blocks t).still
instr_still h (instr.br_table t) = ap instr.br_table (br_table_at h.blocks t).still
instr_still h (instr.MemLane op a) = ap (λ (m : MemArg). instr.MemLane op (record a { memarg = m })) (asked_at a.memarg (mem_arg_at a.memarg)).still
instr_still h (instr.br_on_cast a) = ap (λ (q : Cast). instr.br_on_cast (record { label = q.0; from_type = q.1.1; to_type = q.1.0 }))
    (cast_at h.blocks (a.label, (a.to_type, a.from_type))).still
instr_still h (instr.br_on_cast_fail a) = ap (λ (q : Cast). instr.br_on_cast_fail (record { label = q.0; from_type = q.1.1; to_type = q.1.0 }))
    (cast_at h.blocks (a.label, (a.to_type, a.from_type))).still
instr_still h (instr.br_on_cast_desc_eq a) = ap (λ (q : Cast). instr.br_on_cast_desc_eq (record { label = q.0; from_type = q.1.1; to_type = q.1.0 }))
    (uncovered_cast_at h.blocks (a.label, (a.to_type, a.from_type))).still
instr_still h (instr.br_on_cast_desc_eq_fail a) =
    ap (λ (q : Cast). instr.br_on_cast_desc_eq_fail (record { label = q.0; from_type = q.1.1; to_type = q.1.0 }))
    (uncovered_cast_at h.blocks (a.label, (a.to_type, a.from_type))).still
instr_still h (instr.ref_test a) = ap (λ (r : RefType). instr.ref_test (record { rt = r })) (asked_at a.rt (ref_at a.rt)).still
instr_still h (instr.ref_cast a) = ap (λ (r : RefType). instr.ref_cast (record { rt = r })) (asked_at a.rt (ref_at a.rt)).still
instr_still h (instr.ref_cast_desc_eq a) = ap (λ (r : RefType). instr.ref_cast_desc_eq (record { rt = r })) (asked_at a.rt (uncovered_ref_at a.rt)).still
instr_still h (instr.resume a) = ap (λ (q : Index × ResumeTable). instr.resume (record { type_index = q.0; table = q.1 }))
    (resume_at h.blocks (a.type_index, a.table)).still
instr_still h (instr.resume_throw_ref a) = ap (λ (q : Index × ResumeTable). instr.resume_throw_ref (record { type_index = q.0; table = q.1 }))
    (resume_at h.blocks (a.type_index, a.table)).still
instr_still h (instr.resume_throw a) = ap (λ (q : (Index × Index) × ResumeTable). instr.resume_throw (record {
  type_index = q.0.0;
  tag_index = q.0.1;
  table = q.1;
})) (throw_at h.blocks ((a.type_index, a.tag_index), a.table)).still
instr_still h i = grind (arith, common_steps, heap_still)

-- The position of the next instruction in the mapped body.
pub named_if : (n : Naming) (m : Option Mark) → name_if (renamed_mark n m) ≡ option_map n (name_if m)
named_if n None = refl
named_if n (Some m) = refl

after_site : (n : Naming) (f : Change) (h : BodyContext) (s : Site) → context_after_site (named_here n f h) (named_site n f s) ≡ named_here n f
    (context_after_site h s)
after_site n f h (Begins blocks m) = ap (λ (name : Option Name). record { locals = named_locals n f h.locals; blocks = name ∷ renamed n h.blocks })
    (named_if n m)
after_site n f h Ends = ap (λ (blocks : Blocks). record { locals = named_locals n f h.locals; blocks = blocks }) (closed_named n h.blocks)
after_site n f h x = refl

after_mapped : (n : Naming) (f : Change) (h : BodyContext) (ss : List Site)
    → after_all (named_here n f h) (map (named_site n f) ss) ≡ named_here n f (after_all h ss)
after_mapped n f h [] = refl
after_mapped n f h (s ∷ ss) = ap (λ g. after_all g (map (named_site n f) ss)) (after_site n f h s) ∙ after_mapped n f (context_after_site h s) ss

pub behind_mapped : (n : Naming) (f : Change) → RenamesIds n f → (h : BodyContext) (i : Instruction)
    → context_after (named_here n f h) (mapped_instr f h i) ≡ named_here n f (context_after h i)
behind_mapped n f k h i = ap (after_all (named_here n f h)) (instr_stands n f k h i) ∙ after_mapped n f h (in_instr h i)

-- Instructions, one after the other.
pub instrs_stand : (n : Naming) (f : Change) → RenamesIds n f → (h : BodyContext) (is : List Instruction)
    → in_instrs (named_here n f h) (mapped_instrs f h is) ≡ map (named_site n f) (in_instrs h is)
instrs_stand n f k h [] = refl
instrs_stand n f k h (i ∷ is) =
    ap (λ g. in_instr (named_here n f h) (mapped_instr f h i) ++ in_instrs g (mapped_instrs f (context_after h i) is)) (behind_mapped n f k h i)
    ∙ (ap (λ z. z ++ in_instrs (named_here n f (context_after h i)) (mapped_instrs f (context_after h i) is)) (instr_stands n f k h i)
    ∙ (ap (λ z. map (named_site n f) (in_instr h i) ++ z) (instrs_stand n f k (context_after h i) is)
    ∙ sym (map-append (named_site n f) (in_instr h i) (in_instrs (context_after h i) is))))

instrs_join : (n : Naming) (x g f : Change) → AreNamedJoint n x g f → (h : BodyContext) (is : List Instruction)
    → Each (NamedJoins n x g f) (in_instrs h is) → mapped_instrs g (named_here n x h) (mapped_instrs x h is) ≡ mapped_instrs f h is
instrs_join n x g f j h [] e = refl
instrs_join n x g f j h (i ∷ is) e =
    ap (λ p. mapped_instr g (named_here n x h) (mapped_instr x h i) ∷ mapped_instrs g p (mapped_instrs x (context_after h i) is))
    (behind_mapped n x j.names h i)
    ∙ (λ t. instr_joins n x g f j h i (each_first (NamedJoins n x g f) (in_instr h i) (in_instrs (context_after h i) is) e) t
    ∷ instrs_join n x g f j (context_after h i) is (each_rest (NamedJoins n x g f) (in_instr h i) (in_instrs (context_after h i) is) e) t)

instrs_still : (h : BodyContext) (is : List Instruction) → mapped_instrs no_change h is ≡ is
instrs_still h [] = refl
instrs_still h (i ∷ is) = λ t. instr_still h i t ∷ instrs_still (context_after h i) is t

-- A mapped instruction opens and closes the same blocks, with other labels.
module _ (n : Naming) (f : Change) (k : RenamesIds n f) where
  opens_named : (o : Option Id) → Opens (name_if (mark_of_option (f.own o))) ≡ Opens (option_map n (name_if (mark_of_option o)))
  opens_named o = ap (λ m. Opens (name_if m)) (k.owns o) ∙ ap Opens (named_if n (mark_of_option o))

  turn_named : (h : BodyContext) (i : Instruction) → turn_of (mapped_instr f h i) ≡ renamed_turn n (turn_of i)
  turn_named h (instr.block b) = opens_named b.label
  turn_named h (instr.loop_ b) = opens_named b.label
  turn_named h (instr.if_ b) = opens_named b.label
  turn_named h (instr.try_ b) = opens_named b.label
  turn_named h (instr.try_table t) = opens_named t.block.label
  turn_named h i = grind (arith, common_steps)

  turns_named : (h : BodyContext) (is : List Instruction) → block_effects (mapped_instrs f h is) ≡ map (renamed_turn n) (block_effects is)
  turns_named h [] = refl
  turns_named h (i ∷ is) = λ t. turn_named h i t ∷ turns_named (context_after h i) is t

-- There are as many instructions.
length_still : (f : Change) (h : BodyContext) (is : List Instruction) → length (mapped_instrs f h is) ≡ length is
length_still f h [] = refl
length_still f h (i ∷ is) = omega (arith, length_still f (context_after h i) is)

-- The expression of a function, in the mapped body.
pub expression_stands : (n : Naming) (f : Change) → RenamesIds n f → (h : BodyContext) (e : Expression)
    → in_expression (named_here n f h) (mapped_expression f h e) ≡ map (named_site n f) (in_expression h e)
expression_stands n f k h e =
    let hints = Asked (Clause 2 (hints_stand e)) ∷ [] in
    ap (λ l. in_instrs (named_here n f h) (mapped_instrs f h e.instrs) ++ Asked (Clause 2 (stand_from l 0 e.branch_hints)) ∷ []) (length_still f h e.instrs)
    ∙ (ap (λ z. z ++ hints) (instrs_stand n f k h e.instrs) ∙ sym (map-append (named_site n f) (in_instrs h e.instrs) hints))

expression_joins : (n : Naming) (x g f : Change) → AreNamedJoint n x g f → (h : BodyContext) (e : Expression)
    → Each (NamedJoins n x g f) (in_expression h e) → mapped_expression g (named_here n x h) (mapped_expression x h e) ≡ mapped_expression f h e
expression_joins n x g f j h e q =
    let hints = Asked (Clause 2 (hints_stand e)) ∷ [] in
    ap (λ (is : List Instruction). record e { instrs = is }) (instrs_join n x g f j h e.instrs (each_first (NamedJoins n x g f) (in_instrs h e.instrs) hints q))

expression_still : (h : BodyContext) (e : Expression) → mapped_expression no_change h e ≡ e
expression_still h e = ap (λ (is : List Instruction). record e { instrs = is }) (instrs_still h e.instrs)

-- A constant expression is in no function, and balanced or not as before.
constant_at : (e : Expression) → At in_constant mapped_constant e
constant_at e =
    let own = Asked (Clause 5 (is_balanced (block_effects e.instrs))) ∷ [] in
    record {
      stands = λ n f k.
          ap (λ b. in_instrs constant_context (mapped_instrs f constant_context e.instrs) ++ Asked (Clause 5 b) ∷ [])
          (ap is_balanced (turns_named n f k constant_context e.instrs) ∙ balanced_named n (block_effects e.instrs))
          ∙ (ap (λ z. z ++ own) (instrs_stand n f k constant_context e.instrs) ∙ sym (map-append (named_site n f) (in_instrs constant_context e.instrs) own));
      joins = λ n x g f j q. ap (λ (is : List Instruction). record e { instrs = is })
          (instrs_join n x g f j constant_context e.instrs (each_first (NamedJoins n x g f) (in_instrs constant_context e.instrs) own q));
      still = expression_still constant_context e;
    }

local_at : (l : Local) → In in_local mapped_local l
local_at l = made_at (λ (q : ValType × Option Id). record l { ty = q.0; id = q.1 }) (λ y. refl) (λ f y. refl) (l.ty, l.id)
    (both_at l.ty l.id (val_at l.ty) (mark_in l.id))

-- Declared ids are kept or renamed.
pub marks_stay : (f : Change) → KeepsMarks f → (locals : List Local) → local_marks (map (mapped_local f) locals) ≡ local_marks locals
marks_stay f k [] = refl
marks_stay f k (l ∷ ls) = λ t. k.owns l.id t ∷ marks_stay f k ls t

pub marks_named : (n : Naming) (f : Change) → RenamesIds n f → (locals : List Local)
    → local_marks (map (mapped_local f) locals) ≡ map (renamed_mark n) (local_marks locals)
marks_named n f k [] = refl
marks_named n f k (l ∷ ls) = λ t. k.owns l.id t ∷ marks_named n f k ls t

names_named : (n : Naming) (ms : List (Option Mark)) → map name_if (map (renamed_mark n) ms) ≡ renamed n (map name_if ms)
names_named n [] = refl
names_named n (m ∷ ms) = λ t. named_if n m t ∷ names_named n ms t

declaring_named : (n : Naming) (f : Change) (before : List (Option Name)) (ms : List (Option Mark))
    → declaration_sites (renamed n before) (map (renamed_mark n) ms) ≡ map (named_site n f) (declaration_sites before ms)
declaring_named n f before [] = refl
declaring_named n f before (m ∷ ms) =
    ap (λ b. Declared (renamed n before) (renamed_mark n m) ∷ declaration_sites b (map (renamed_mark n) ms))
    (ap (λ (l : Option Name). renamed n before ++ l ∷ []) (named_if n m) ∙ sym (map-append (option_map n) before (name_if m ∷ [])))
    ∙ ap (λ ds. Declared (renamed n before) (renamed_mark n m) ∷ ds) (declaring_named n f (before ++ name_if m ∷ []) ms)

-- The types of the locals, the declared ids, and the body, in a function whose type use is mapped.
locals_at : (locals : List Local) → At (λ ls. check_sites (flat_map in_local ls)) (λ f. map (mapped_local f)) locals
locals_at locals = asked_at locals (list_at local_at locals)

-- All declared ids, and the position of the body.
all_marks : (n : Naming) (f : Change) → RenamesIds n f → (u : TypeUse FunctionType) (locals : List Local)
    → param_marks (f.used OfItem u).inline ++ local_marks (map (mapped_local f) locals) ≡ map (renamed_mark n) (param_marks u.inline ++ local_marks locals)
all_marks n f k u locals =
    (λ t. k.params u t ++ marks_named n f k locals t) ∙ sym (map-append (renamed_mark n) (param_marks u.inline) (local_marks locals))

here_named : (n : Naming) (f : Change) → RenamesIds n f → (u : TypeUse FunctionType) (locals : List Local)
    → body_here (f.used OfItem u) (param_marks (f.used OfItem u).inline ++ local_marks (map (mapped_local f) locals)) ≡ named_here n f
    (body_here u (param_marks u.inline ++ local_marks locals))
here_named n f k u locals =
    ap (body_here (f.used OfItem u)) (all_marks n f k u locals)
    ∙ ap (λ (names : List (Option Name)). record { locals = record { owner = Some (f.used OfItem u); names = names }; blocks = [] })
    (names_named n (param_marks u.inline ++ local_marks locals))

pub kind_stands : (n : Naming) (f : Change) → RenamesIds n f → (u : TypeUse FunctionType) (k : FuncKind)
    → in_func_kind (f.used OfItem u) (mapped_func_kind f u k) ≡ map (named_site n f) (in_func_kind u k)
kind_stands n f k u (func.Import import exact) = refl
kind_stands n f k u (func.Inline locals e) =
    let marks = param_marks u.inline ++ local_marks locals in
    let new_locals = map (mapped_local f) locals in
    let new_marks = param_marks (f.used OfItem u).inline ++ local_marks new_locals in
    let here = body_here u marks in
    let types = check_sites (flat_map in_local locals) in
    let names = declaration_sites [] marks in
    let body = in_expression here e in
    ap (λ ms. check_sites (flat_map in_local new_locals) ++ (declaration_sites [] ms ++ in_expression (body_here (f.used OfItem u) new_marks)
    (mapped_expression f here e))) (all_marks n f k u locals)
    ∙ (ap (λ p. check_sites (flat_map in_local new_locals) ++ (declaration_sites [] (map (renamed_mark n) marks) ++ in_expression p
    (mapped_expression f here e))) (here_named n f k u locals)
    ∙ (ap (λ z. z ++ (declaration_sites [] (map (renamed_mark n) marks) ++ in_expression (named_here n f here) (mapped_expression f here e)))
    ((locals_at locals).stands n f k)
    ∙ (ap (λ z. map (named_site n f) types ++ (declaration_sites [] (map (renamed_mark n) marks) ++ z)) (expression_stands n f k here e)
    ∙ (ap (λ z. map (named_site n f) types ++ (z ++ map (named_site n f) body)) (declaring_named n f [] marks)
    ∙ (ap (λ z. map (named_site n f) types ++ z) (sym (map-append (named_site n f) names body)) ∙ sym (map-append (named_site n f) types (names ++ body)))))))

kind_joins : (n : Naming) (x g f : Change) → AreNamedJoint n x g f → (u : TypeUse FunctionType) (k : FuncKind)
    → Each (NamedJoins n x g f) (in_func_kind u k) → mapped_func_kind g (x.used OfItem u) (mapped_func_kind x u k) ≡ mapped_func_kind f u k
kind_joins n x g f j u (func.Import import exact) q = refl
kind_joins n x g f j u (func.Inline locals e) q =
    let marks = param_marks u.inline ++ local_marks locals in
    let here = body_here u marks in
    let types = check_sites (flat_map in_local locals) in
    let names = declaration_sites [] marks in
    let body = in_expression here e in
    let rest = each_rest (NamedJoins n x g f) types (names ++ body) q in
    ap (λ p. func.Inline (map (mapped_local g) (map (mapped_local x) locals)) (mapped_expression g p (mapped_expression x here e)))
    (here_named n x j.names u locals)
    ∙ (λ t. func.Inline ((locals_at locals).joins n x g f j (each_first (NamedJoins n x g f) types (names ++ body) q) t)
    (expression_joins n x g f j here e (each_rest (NamedJoins n x g f) names body rest) t))

kind_still : (u : TypeUse FunctionType) (k : FuncKind) → mapped_func_kind no_change u k ≡ k
kind_still u (func.Import import exact) = refl
kind_still u (func.Inline locals e) =
    λ t. func.Inline ((locals_at locals).still t) (expression_still (body_here u (param_marks u.inline ++ local_marks locals)) e t)

func_at : (x : Func) → At in_func mapped_func x
func_at x =
    record {
      stands = λ n f k. ap (λ z. in_use OfItem (f.used OfItem x.ty) ++ z) (kind_stands n f k x.ty x.kind);
      joins = λ n h g f j e t. record x { id = j.ids x.id t; ty = e.0 t; kind = kind_joins n h g f j x.ty x.kind e.1 t };
      still = λ t. record x { kind = kind_still x.ty x.kind t };
    }

item_kind_at : (k : ItemKind) → At in_item_kind mapped_item_kind k
item_kind_at (kind.Func u) = made_at kind.Func (λ y. refl) (λ f y. refl) u (use_at OfItem u)
item_kind_at (kind.FuncExact u) = made_at kind.FuncExact (λ y. refl) (λ f y. refl) u (tested_at u (check_sites (uncovered_check form.Descriptor))
    (λ n f. refl) (use_at OfItem u))
item_kind_at (kind.Table t) = made_at kind.Table (λ y. refl) (λ f y. refl) t (asked_at t (table_type_at t))
item_kind_at (kind.Memory t) = fixed_at (kind.Memory t) (λ f. refl) (λ n f. refl)
item_kind_at (kind.Global t) = made_at kind.Global (λ y. refl) (λ f y. refl) t (asked_at t (global_type_at t))
item_kind_at (kind.Tag t) = made_at kind.Tag (λ y. refl) (λ f y. refl) t (tag_type_at t)

sig_at : (s : ItemSig) → At in_sig mapped_sig s
sig_at s = made_at (λ (q : Option Id × ItemKind). record s { id = q.0; kind = q.1 }) (λ y. refl) (λ f y. refl) (s.id, s.kind)
    (both_at s.id s.kind (item_id_at s.id) (item_kind_at s.kind))

-- With its name.
named_sig_at : (p : Bor (List ℕ) × ItemSig) → At (λ p. in_sig p.1) (λ f p. (p.0, mapped_sig f p.1)) p
named_sig_at p = made_at (λ (s : ItemSig). (p.0, s)) (λ y. refl) (λ f y. refl) p.1 (sig_at p.1)

import_at : (i : ImportItems) → At in_import mapped_import_items i
import_at (import_items.Single source name sig) = made_at (import_items.Single source name) (λ y. refl) (λ f y. refl) sig (sig_at sig)
import_at (import_items.Group1 source items) =
    made_at (import_items.Group1 source) (λ y. refl) (λ f y. refl) items (tested_at items (check_sites (uncovered_check form.CompactImports))
    (λ n f. refl) (list_at named_sig_at items))
import_at (import_items.Group2 source sig []) =
    made_at (λ (q : ItemKind × Option Id). import_items.Group2 source (record sig { id = q.1; kind = q.0 }) []) (λ y. refl) (λ f y. refl) (sig.kind, sig.id)
    (both_at sig.kind sig.id (item_kind_at sig.kind) (asked_at sig.id (tested_at sig.id (uncovered_check form.CompactImports) (λ n f. refl) (mark_in sig.id))))
import_at (import_items.Group2 source sig (name ∷ names)) =
    made_at (λ (s : ItemSig). import_items.Group2 source s (name ∷ names)) (λ y. refl) (λ f y. refl) sig
    (tested_at sig (check_sites (uncovered_check form.CompactImports)) (λ n f. refl) (sig_at sig))

payload_at : (p : ElemPayload) → At in_payload mapped_payload p
payload_at (payload.Indices is) = made_at payload.Indices (λ y. refl) (λ f y. refl) is (list_at (index_at space.Func) is)
payload_at (payload.Exprs ty es) = made_at (λ (q : List Expression × RefType). payload.Exprs q.1 q.0) (λ y. refl) (λ f y. refl) (es, ty)
    (both_at es ty (list_at constant_at es) (asked_at ty (ref_at ty)))

table_kind_at : (t : TableKind) → At in_table_kind mapped_table_kind t
table_kind_at (table.Import import ty) = made_at (table.Import import) (λ y. refl) (λ f y. refl) ty (asked_at ty (table_type_at ty))
table_kind_at (table.Normal ty init) =
    made_at (λ (q : TableType × Option Expression). table.Normal q.0 q.1) (λ y. refl) (λ f y. refl) (ty, init)
    (both_at ty init (asked_at ty (table_type_at ty)) (option_at constant_at init))
table_kind_at (table.Inline ty is64 shared elements) =
    made_at (λ (q : RefType × ElemPayload). table.Inline q.0 is64 shared q.1) (λ y. refl) (λ f y. refl) (ty, elements)
    (both_at ty elements (asked_at ty (ref_at ty)) (tested_at elements (Asked (Covered form.Shared (not shared)) ∷ []) (λ n f. refl) (payload_at elements)))

memory_kind_still : (n : Naming) (f : Change) (k : MemoryKind) → map (named_site n f) (in_memory_kind k) ≡ in_memory_kind k
memory_kind_still n f (memory.Import import ty) = refl
memory_kind_still n f x = refl

global_kind_at : (g : GlobalKind) → At in_global_kind mapped_global_kind g
global_kind_at (global.Import import) = fixed_at (global.Import import) (λ f. refl) (λ n f. refl)
global_kind_at (global.Inline e) = made_at global.Inline (λ y. refl) (λ f y. refl) e (constant_at e)

elem_kind_at : (e : ElemKind) → At in_elem_kind mapped_elem_kind e
elem_kind_at (elem.Active table offset) =
    made_at (λ (q : Option Index × Expression). elem.Active q.0 q.1) (λ y. refl) (λ f y. refl) (table, offset)
    (both_at table offset (option_at (index_at space.Table) table) (constant_at offset))
elem_kind_at e = fixed_at e (λ f. refl) (λ n f. refl)

-- Whether a segment has its table or contains functions.
suits_still : (f : Change) (e : ElemKind) (p : ElemPayload) → is_segment_type_allowed (mapped_elem_kind f e) (mapped_payload f p) ≡ is_segment_type_allowed e p
suits_still f (elem.Active (Some i) offset) p = refl
suits_still f (elem.Active None offset) (payload.Indices is) = refl
suits_still f (elem.Active None offset) (payload.Exprs ty es) = ap (λ b. ty.nullable && b) (func_heap ty.heap)
  where
    func_heap : (t : HeapType) → is_func_heap (mapped_heap f.index t) ≡ is_func_heap t
    func_heap (heap.Abstract shared ty) = refl
    func_heap x = refl
suits_still f x p = refl

elem_at : (e : Elem) → At in_elem mapped_elem e
elem_at e =
    let a = both_at e.kind e.payload (elem_kind_at e.kind) (tested_at e.payload (Asked (Clause 4 (is_segment_type_allowed e.kind e.payload)) ∷ [])
    (λ n f. refl) (payload_at e.payload)) in
    record {
      stands = λ n f k. ap (λ b. in_elem_kind (mapped_elem_kind f e.kind) ++ (in_payload (mapped_payload f e.payload) ++ Asked (Clause 4 b) ∷ []))
          (suits_still f e.kind e.payload) ∙ a.stands n f k;
      joins = λ n h g f j q t. record e { id = j.ids e.id t; kind = (a.joins n h g f j q t).0; payload = (a.joins n h g f j q t).1 };
      still = λ t. record e { kind = (a.still t).0; payload = (a.still t).1 };
    }

data_kind_at : (d : DataKind) → At in_data_kind mapped_data_kind d
data_kind_at (data_kind.Active memory offset) =
    made_at (λ (q : Index × Expression). data_kind.Active q.0 q.1) (λ y. refl) (λ f y. refl) (memory, offset)
    (both_at memory offset (index_at space.Memory memory) (constant_at offset))
data_kind_at d = fixed_at d (λ f. refl) (λ n f. refl)

-- Nothing in a custom section changes.
subsections_still : (n : Naming) (f : Change) (ss : List Dylink0Subsection)
    → map (named_site n f) (check_sites (flat_map in_subsection ss)) ≡ check_sites (flat_map in_subsection ss)
subsections_still n f [] = refl
subsections_still n f (dylink.TargetArch text ∷ ss) = ap (λ sites. Asked (Covered form.TargetArch false) ∷ sites) (subsections_still n f ss)
subsections_still n f (s ∷ ss) = subsections_still n f ss

custom_still : (n : Naming) (f : Change) (c : Custom) → map (named_site n f) (in_custom c) ≡ in_custom c
custom_still n f (custom.Dylink0 info) = subsections_still n f info.subsections
custom_still n f c = refl

pub field_at : (x : ModuleField) → At in_field mapped_field x
field_at (field.Ty t) = made_at field.Ty (λ y. refl) (λ f y. refl) t (asked_at t (type_at t))
field_at (field.Rec r) = made_at field.Rec (λ y. refl) (λ f y. refl) r (asked_at r (rec_at r))
field_at (field.Import m) = made_at (λ (i : ImportItems). field.Import (record m { items = i })) (λ y. refl) (λ f y. refl) m.items (import_at m.items)
field_at (field.Func x) = made_at field.Func (λ y. refl) (λ f y. refl) x (func_at x)
field_at (field.Table t) =
    made_at (λ (q : Option Id × TableKind). field.Table (record t { id = q.0; kind = q.1 })) (λ y. refl) (λ f y. refl) (t.id, t.kind)
    (both_at t.id t.kind (item_id_at t.id) (table_kind_at t.kind))
field_at (field.Memory m) =
    made_at (λ (o : Option Id). field.Memory (record m { id = o })) (λ y. refl) (λ f y. refl) m.id
    (tested_at m.id (in_memory_kind m.kind) (λ n f. memory_kind_still n f m.kind) (item_id_at m.id))
field_at (field.Global x) =
    made_at (λ (q : Option Id × (GlobalType × GlobalKind)). field.Global (record x { id = q.0; ty = q.1.0; kind = q.1.1 })) (λ y. refl) (λ f y. refl)
    (x.id, (x.ty, x.kind))
    (both_at x.id (x.ty, x.kind) (item_id_at x.id) (both_at x.ty x.kind (asked_at x.ty (global_type_at x.ty)) (global_kind_at x.kind)))
field_at (field.Export e) = made_at (λ (i : Index). field.Export (record e { item = i })) (λ y. refl) (λ f y. refl) e.item
    (index_at (exported_space e.kind) e.item)
field_at (field.Start i) = made_at field.Start (λ y. refl) (λ f y. refl) i (index_at space.Func i)
field_at (field.Elem e) = made_at field.Elem (λ y. refl) (λ f y. refl) e (elem_at e)
field_at (field.Data d) = made_at (λ (q : Option Id × DataKind). field.Data (record d { id = q.0; kind = q.1 })) (λ y. refl) (λ f y. refl)
    (d.id, d.kind) (both_at d.id d.kind (item_id_at d.id) (data_kind_at d.kind))
field_at (field.Tag t) = made_at (λ (q : Option Id × TagType). field.Tag (record t { id = q.0; ty = q.1 })) (λ y. refl) (λ f y. refl) (t.id, t.ty)
    (both_at t.id t.ty (item_id_at t.id) (tag_type_at t.ty))
field_at (field.Custom c) = fixed_at (field.Custom c) (λ f. refl) (λ n f. custom_still n f c)
