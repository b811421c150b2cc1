-- An instruction reads the locals of its body, and so do all after it. Apart from indices of locals and labels, no
-- check depends on the function.
use Rattle.std.proofs.Common.{◌≡◌, true, List, [], ◌∷◌, ◌++◌, map, Option, None, refl, sym, ap, ◌∙◌, arith, false}
use Rattle.std.specs.List.{flat_map}
use Rattle.std.proofs.lemmas.Grind.{common_steps}
use Rattle.std.proofs.lemmas.List.{map-append}
use Rattle.wast_base.specs.Blocks.{Blocks, is_balanced}
use Rattle.wast_base.specs.Ids.{mark_of_option}
use Rattle.wast_tree_nodes.specs.Clauses.{hints_stand}
use Rattle.wast_tree_nodes.specs.Instrs.{block_effects}
use Rattle.wast_tree_nodes.specs.Sites.{Check, InnerIndex, Clause, Covered, Site, Asked, LocalAt, Begins, BodyContext, Locals, OfBlock}
use Rattle.wast_tree_nodes.specs.Sites.{context_after_site, after_all, context_after, constant_context, check_sites, uncovered_check}
use Rattle.wast_tree_nodes.specs.Sites.{if_there, in_heap, in_ref, in_index, in_pair, in_signature, in_type_use, in_mem_arg, in_select}
use Rattle.wast_tree_nodes.specs.Sites.{in_use, at_index, at_label, in_cast, in_handle, in_handlers, in_catch, in_try_table, in_br_table}
use Rattle.wast_tree_nodes.specs.Sites.{in_instr, in_instrs, in_expression, in_constant}
use Rattle.wast_resolve_laws.specs.Tree.{Index, Space, Form, RefType, HeapType, FunctionType, TypeUse, Handle, ResumeTable, BrTableIndices}
use Rattle.wast_resolve_laws.specs.Tree.{TryTable, TryTableCatch, MemArg, MemArgTarget, Instruction, Expression}
use Rattle.wast_resolve_laws.specs.Tree.space
use Rattle.wast_resolve_laws.specs.Tree.form
use Rattle.wast_resolve_laws.specs.Tree.handle
use Rattle.wast_resolve_laws.specs.Tree.target
use Rattle.wast_resolve_laws.specs.Tree.instr
use Rattle.wast_resolve_core_types.proofs.TypeParts.{as_type, both_typed, index_part, list_part, option_part}
use Rattle.wast_resolve_core_types.proofs.PartsOfTypes.{heap_part, ref_part, val_part, signature_part}

-- the checks that do not depend on the function
abbrev pub outer : Check → Check
outer (InnerIndex i) = Clause 0 true
outer a = a

-- a site with this owner of its local, whose checks do not depend on the function
abbrev pub own : Option (TypeUse FunctionType) → Site → Site
own o (Asked a) = Asked (outer a)
own o (LocalAt locals i) = LocalAt (record locals { owner = o }) i
own o s = s

-- No check in types depends on the function.
outer_one : (a : Check) → outer (as_type a) ≡ as_type a
outer_one a = grind (arith, common_steps)

outer_typed : (asks : List Check) → map outer (map as_type asks) ≡ map as_type asks
outer_typed [] = refl
outer_typed (a ∷ asks) = λ i. outer_one a i ∷ outer_typed asks i

outer_part : (asks : List Check) → map as_type asks ≡ asks → map outer asks ≡ asks
outer_part asks typed = ap (map outer) (sym typed) ∙ (outer_typed asks ∙ typed)

pub outer_use : (u : TypeUse FunctionType) → map outer (in_type_use u) ≡ in_type_use u
outer_use u =
    outer_part (in_type_use u)
    (both_typed (if_there (in_index space.Ty) u.index) (if_there in_signature u.inline) ((option_part index_part).typed u.index)
    ((option_part signature_part).typed u.inline))

module _ (o : Option (TypeUse FunctionType)) where
  abbrev pub Fixed : List Site → Type 0
  Fixed ss = map (own o) ss ≡ ss

  pub fixed_both : (xs ys : List Site) → Fixed xs → Fixed ys → Fixed (xs ++ ys)
  fixed_both xs ys h k = map-append (own o) xs ys ∙ (ap (λ zs. zs ++ map (own o) ys) h ∙ ap (λ zs. xs ++ zs) k)

  pub fixed_each : {A : Type 0} (f : A → List Site) → ((x : A) → Fixed (f x)) → (xs : List A) → Fixed (flat_map f xs)
  fixed_each f one [] = refl
  fixed_each f one (x ∷ xs) = fixed_both (f x) (flat_map f xs) (one x) (fixed_each f one xs)

  asked_own : (asks : List Check) → map (own o) (check_sites asks) ≡ check_sites (map outer asks)
  asked_own [] = refl
  asked_own (a ∷ asks) = ap (λ ss. Asked (outer a) ∷ ss) (asked_own asks)

  pub fixed_asks : (asks : List Check) → map as_type asks ≡ asks → Fixed (check_sites asks)
  fixed_asks asks typed = asked_own asks ∙ ap check_sites (outer_part asks typed)

  -- the checks of types, and after them whether a construct is supported
  pub fixed_form : (asks : List Check) (form : Check) → map as_type asks ≡ asks → as_type form ≡ form → Fixed (check_sites (asks ++ form ∷ []))
  fixed_form asks form typed same = fixed_asks (asks ++ form ∷ []) (both_typed asks (form ∷ []) typed (ap (λ a. a ∷ []) same))

  heap_fixed : (t : HeapType) → Fixed (check_sites (in_heap t))
  heap_fixed t = fixed_asks (in_heap t) (heap_part.typed t)

  target_fixed : (t : MemArgTarget) (m : MemArg) → Fixed (check_sites (in_mem_arg (record m { target = t })))
  target_fixed (target.Memory i) m = refl
  target_fixed (target.Array i) m = refl

  labels_fixed : (blocks : Blocks) (is : List Index) → Fixed (flat_map (at_label blocks) is)
  labels_fixed blocks is = fixed_each (at_label blocks) (λ i. refl) is

  catch_fixed : (blocks : Blocks) (c : TryTableCatch) → Fixed (in_catch blocks c)
  catch_fixed blocks c = grind (arith, common_steps)

  try_table_fixed : (blocks : Blocks) (t : TryTable) → Fixed (in_try_table blocks t)
  try_table_fixed blocks t =
      let begins = Begins blocks (mark_of_option t.block.label) ∷ [] in
      fixed_both (in_use OfBlock t.block.ty) (flat_map (in_catch blocks) t.catches ++ begins) refl
      (fixed_both (flat_map (in_catch blocks) t.catches) begins (fixed_each (in_catch blocks) (catch_fixed blocks) t.catches) refl)

  br_table_fixed : (blocks : Blocks) (t : BrTableIndices) → Fixed (in_br_table blocks t)
  br_table_fixed blocks t = fixed_both (flat_map (at_label blocks) t.labels) (at_label blocks t.default) (labels_fixed blocks t.labels) refl

  uncovered_fixed : (ss : List Site) (f : Form) → Fixed ss → Fixed (ss ++ check_sites (uncovered_check f))
  uncovered_fixed ss f h = fixed_both ss (check_sites (uncovered_check f)) h refl

  cast_fixed : (blocks : Blocks) (l : Index) (to from : RefType) → Fixed (in_cast blocks l to from)
  cast_fixed blocks l to from = fixed_both (at_label blocks l) (check_sites (in_ref to ++ in_ref from)) refl
      (fixed_asks (in_ref to ++ in_ref from) (both_typed (in_ref to) (in_ref from) (ref_part.typed to) (ref_part.typed from)))

  handle_fixed : (blocks : Blocks) (x : Handle) → Fixed (in_handle blocks x)
  handle_fixed blocks (handle.OnLabel e l) = refl
  handle_fixed blocks (handle.OnSwitch e) = refl

  table_fixed : (blocks : Blocks) (t : ResumeTable) → Fixed (in_handlers blocks t)
  table_fixed blocks t = uncovered_fixed (flat_map (in_handle blocks) t.handlers) form.StackSwitching
      (fixed_each (in_handle blocks) (handle_fixed blocks) t.handlers)

  handlers_fixed : (blocks : Blocks) (s : Space) (i : Index) (t : ResumeTable) → Fixed (at_index s i ++ in_handlers blocks t)
  handlers_fixed blocks s i t = fixed_both (at_index s i) (in_handlers blocks t) refl (table_fixed blocks t)

-- An instruction reads the locals of its body: a tactic goes through the variants.
instr_fixed : (h : BodyContext) (i : Instruction) → Fixed h.locals.owner (in_instr h i)
instr_fixed h (instr.Mem op m) = target_fixed h.locals.owner m.target m
instr_fixed h (instr.select t) = fixed_asks h.locals.owner (in_select t) ((option_part (list_part val_part)).typed t.tys)
instr_fixed h (instr.try_table t) = try_table_fixed h.locals.owner h.blocks t
instr_fixed h (instr.br_table t) = br_table_fixed h.locals.owner h.blocks t
instr_fixed h (instr.MemLane op a) = target_fixed h.locals.owner a.memarg.target a.memarg
instr_fixed h (instr.ref_test a) = fixed_asks h.locals.owner (in_ref a.rt) (ref_part.typed a.rt)
instr_fixed h (instr.ref_cast a) = fixed_asks h.locals.owner (in_ref a.rt) (ref_part.typed a.rt)
instr_fixed h (instr.ref_cast_desc_eq a) = fixed_form h.locals.owner (in_ref a.rt) (Covered form.Descriptor false) (ref_part.typed a.rt) refl
instr_fixed h (instr.br_on_cast a) = cast_fixed h.locals.owner h.blocks a.label a.to_type a.from_type
instr_fixed h (instr.br_on_cast_fail a) = cast_fixed h.locals.owner h.blocks a.label a.to_type a.from_type
instr_fixed h (instr.br_on_cast_desc_eq a) = uncovered_fixed h.locals.owner (in_cast h.blocks a.label a.to_type a.from_type) form.Descriptor
    (cast_fixed h.locals.owner h.blocks a.label a.to_type a.from_type)
instr_fixed h (instr.br_on_cast_desc_eq_fail a) = uncovered_fixed h.locals.owner (in_cast h.blocks a.label a.to_type a.from_type) form.Descriptor
    (cast_fixed h.locals.owner h.blocks a.label a.to_type a.from_type)
instr_fixed h (instr.resume a) = handlers_fixed h.locals.owner h.blocks (space.Ty) a.type_index a.table
instr_fixed h (instr.resume_throw a) = fixed_both h.locals.owner (check_sites (in_pair space.Ty a.type_index space.Tag a.tag_index))
    (in_handlers h.blocks a.table) refl (table_fixed h.locals.owner h.blocks a.table)
instr_fixed h (instr.resume_throw_ref a) = handlers_fixed h.locals.owner h.blocks (space.Ty) a.type_index a.table
instr_fixed h i = grind (arith, common_steps, heap_fixed h.locals.owner)

-- the locals are the same in the context of the next instruction
after_locals : (h : BodyContext) (s : Site) → (context_after_site h s).locals ≡ h.locals
after_locals h s = grind (arith, common_steps)

all_locals : (h : BodyContext) (ss : List Site) → (after_all h ss).locals ≡ h.locals
all_locals h [] = refl
all_locals h (s ∷ ss) = all_locals (context_after_site h s) ss ∙ after_locals h s

instrs_fixed : (h : BodyContext) (is : List Instruction) → Fixed h.locals.owner (in_instrs h is)
instrs_fixed h [] = refl
instrs_fixed h (i ∷ is) =
    fixed_both h.locals.owner (in_instr h i) (in_instrs (context_after h i) is) (instr_fixed h i)
    (ap (λ (l : Locals). map (own l.owner) (in_instrs (context_after h i) is)) (sym (all_locals h (in_instr h i))) ∙ instrs_fixed (context_after h i) is)

pub expression_fixed : (h : BodyContext) (e : Expression) → Fixed h.locals.owner (in_expression h e)
expression_fixed h e = fixed_both h.locals.owner (in_instrs h e.instrs) (Asked (Clause 2 (hints_stand e)) ∷ []) (instrs_fixed h e.instrs) refl

pub constant_fixed : (e : Expression) → Fixed None (in_constant e)
constant_fixed e = fixed_both None (in_instrs constant_context e.instrs) (Asked (Clause 5 (is_balanced (block_effects e.instrs))) ∷ [])
    (instrs_fixed constant_context e.instrs) refl
