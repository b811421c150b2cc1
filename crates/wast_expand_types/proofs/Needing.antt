-- The signatures that sites need, and that the type uses of a body do not depend on the context.
use Rattle.std.specs.Prelude.{true, false}
use Rattle.std.proofs.Common.{◌≡◌, ℕ, List, map, [], ◌∷◌, ◌++◌, append-nil, Option, Some, None, refl, sym, ap, ◌∙◌}
use Rattle.std.specs.List.{flat_map}
use Rattle.std.proofs.lemmas.Grind.{flat_map-append}
use Rattle.wast_base.specs.Ids.{Name, Mark, mark_of_option, gensym_id}
use Rattle.wast_base.specs.Spaces.{name_if}
use Rattle.wast_base.specs.Blocks.{Blocks, is_balanced}
use Rattle.wast_tree_nodes.specs.Instrs.{block_effects}
use Rattle.wast_tree_nodes.specs.Sites.{Check, Clause, OfItem, OfBlock, Site, Asked, Begins, BodyContext, constant_context, check_sites}
use Rattle.wast_tree_nodes.specs.Sites.{at_label, in_index, in_caught, in_catch, in_handle, in_handlers, in_cast, in_ref, uncovered_check}
use Rattle.wast_tree_nodes.specs.Sites.{in_block, in_try_table, in_br_table, in_pair, in_type, in_rec, in_instr, context_after, in_instrs}
use Rattle.wast_tree_nodes.specs.Sites.{in_expression, in_constant, in_local, param_marks, local_marks, declaration_sites, body_here}
use Rattle.wast_tree_nodes.specs.Sites.{in_func_kind, in_use, in_func, in_sig, in_subsection, in_field}
use Rattle.wast_expand_types.specs.Tree.{Index, RefType, Handle, ResumeTable, BlockType, BrTableIndices, TryTable, TryTableCatch}
use Rattle.wast_expand_types.specs.Tree.{FunctionType, TypeUse, SelectTypes, Instruction, Expression, Local, FuncKind, Func, Custom, Rec}
use Rattle.wast_expand_types.specs.Tree.{ItemSig}
use Rattle.wast_expand_types.specs.Tree.form
use Rattle.wast_expand_types.specs.Tree.custom
use Rattle.wast_expand_types.specs.Tree.handle
use Rattle.wast_expand_types.specs.Tree.space
use Rattle.wast_expand_types.specs.Tree.ty
use Rattle.wast_expand_types.specs.Tree.instr
use Rattle.wast_expand_types.specs.Tree.func
use Rattle.wast_expand_types.specs.Tree.field
use Rattle.wast_tree_map.specs.Mapped.{mapped_select, mapped_catch, mapped_instr, mapped_instrs, mapped_expression, mapped_constant}
use Rattle.wast_tree_map.specs.Mapped.{mapped_local, mapped_func_kind, mapped_handle, mapped_handlers}
use Rattle.wast_tree_map.proofs.Types.{val_at}
use Rattle.wast_tree_map.proofs.Fields.{select_at, caught_at}
use Rattle.wast_expand_keys.specs.Signatures.{Signature, signature_of}
use Rattle.wast_expand_keys.specs.NeedingUses.{needed_at, needed_in}
use Rattle.wast_expand_keys.specs.Expanders.{LookUp}
use Rattle.wast_expand_keys.specs.Expanded.{def_of, start_of_text, bound_if, bound_use, binding_change}
use Rattle.wast_expand_types.specs.Binding.{no_use, wants_type}

-- The signatures that consecutive parts need, and those of a list.
pub needed_both : (xs ys : List Site) → needed_in (xs ++ ys) ≡ needed_in xs ++ needed_in ys
needed_both xs ys = flat_map-append needed_at xs ys

pub needed_each : {T : Type 0} (sites : T → List Site) (xs : List T) → needed_in (flat_map sites xs) ≡ flat_map (λ x. needed_in (sites x)) xs
needed_each sites [] = refl
needed_each sites (x ∷ xs) = needed_both (sites x) (flat_map sites xs) ∙ ap (λ ss. needed_in (sites x) ++ ss) (needed_each sites xs)

pub each_none : {X A : Type 0} {f : X → List A} → ((x : X) → f x ≡ []) → (xs : List X) → flat_map f xs ≡ []
each_none one [] = refl
each_none {f = f} one (x ∷ xs) = ap (λ ys. ys ++ flat_map f xs) (one x) ∙ each_none one xs

-- Checks of ids need no type, and neither do declarations.
pub needed_asking : (asks : List Check) → needed_in (check_sites asks) ≡ []
needed_asking [] = refl
needed_asking (a ∷ asks) = needed_asking asks

needed_declaring : (before : List (Option Name)) (marks : List (Option Mark)) → needed_in (declaration_sites before marks) ≡ []
needed_declaring before [] = refl
needed_declaring before (m ∷ ms) = needed_declaring (before ++ name_if m ∷ []) ms

pub needed_besides : (xs : List Site) (asks : List Check) → needed_in (xs ++ check_sites asks) ≡ needed_in xs
needed_besides xs asks = needed_both xs (check_sites asks) ∙ (ap (λ ss. needed_in xs ++ ss) (needed_asking asks) ∙ append-nil (needed_in xs))

-- Each item of a group needs what it needs alone.
pub needed_group : {A : Type 0} (items : List (A × ItemSig))
    → needed_in (flat_map (λ p. in_sig p.1) items ++ check_sites (uncovered_check form.CompactImports)) ≡ flat_map (λ p. needed_in (in_sig p.1)) items
needed_group items = needed_besides (flat_map (λ p. in_sig p.1) items) (uncovered_check form.CompactImports) ∙ needed_each (λ p. in_sig p.1) items

-- Labels need no type.
needed_label : (blocks : Blocks) (l : Index) → needed_in (at_label blocks l) ≡ []
needed_label blocks l = refl

needed_catch : (blocks : Blocks) (c : TryTableCatch) → needed_in (in_catch blocks c) ≡ []
needed_catch blocks c = needed_both (check_sites (in_caught c.kind)) (at_label blocks c.label)
    ∙ (append-nil (needed_in (check_sites (in_caught c.kind))) ∙ needed_asking (in_caught c.kind))

pub needed_br_table : (blocks : Blocks) (t : BrTableIndices) → needed_in (in_br_table blocks t) ≡ []
needed_br_table blocks t =
    needed_both (flat_map (at_label blocks) t.labels) (at_label blocks t.default)
    ∙ (append-nil (needed_in (flat_map (at_label blocks) t.labels)) ∙ (needed_each (at_label blocks) t.labels ∙ each_none (needed_label blocks) t.labels))

needed_handle : (blocks : Blocks) (x : Handle) → needed_in (in_handle blocks x) ≡ []
needed_handle blocks (handle.OnLabel e l) = refl
needed_handle blocks (handle.OnSwitch e) = refl

pub needed_handlers : (blocks : Blocks) (t : ResumeTable) → needed_in (in_handlers blocks t) ≡ []
needed_handlers blocks t =
    needed_both (flat_map (in_handle blocks) t.handlers) (check_sites (uncovered_check form.StackSwitching))
    ∙ (append-nil (needed_in (flat_map (in_handle blocks) t.handlers))
    ∙ (needed_each (in_handle blocks) t.handlers ∙ each_none (needed_handle blocks) t.handlers))

pub needed_resume : (blocks : Blocks) (asks : List Check) (t : ResumeTable) → needed_in (check_sites asks ++ in_handlers blocks t) ≡ []
needed_resume blocks asks t = needed_both (check_sites asks) (in_handlers blocks t)
    ∙ (ap (λ ss. ss ++ needed_in (in_handlers blocks t)) (needed_asking asks) ∙ needed_handlers blocks t)

pub needed_cast : (blocks : Blocks) (l : Index) (to from : RefType) → needed_in (in_cast blocks l to from) ≡ []
needed_cast blocks l to from = needed_asking (in_ref to ++ in_ref from)

-- A block needs the type of its type use, and catch clauses need no more.
pub needed_block : (blocks : Blocks) (b : BlockType) → needed_in (in_block blocks b) ≡ needed_in (in_use OfBlock b.ty)
needed_block blocks b = needed_both (in_use OfBlock b.ty) (Begins blocks (mark_of_option b.label) ∷ []) ∙ append-nil (needed_in (in_use OfBlock b.ty))

pub needed_try_table : (blocks : Blocks) (t : TryTable) → needed_in (in_try_table blocks t) ≡ needed_in (in_use OfBlock t.block.ty)
needed_try_table blocks t =
    let catches = flat_map (in_catch blocks) t.catches in
    let begins = Begins blocks (mark_of_option t.block.label) ∷ [] in
    needed_both (in_use OfBlock t.block.ty) (catches ++ begins)
    ∙ (ap (λ ss. needed_in (in_use OfBlock t.block.ty) ++ ss)
    (needed_both catches begins ∙ (append-nil (needed_in catches) ∙ (needed_each (in_catch blocks) t.catches ∙ each_none (needed_catch blocks) t.catches)))
    ∙ append-nil (needed_in (in_use OfBlock t.block.ty)))

-- An instruction has the same type uses in any context, and so has a body.
instr_anywhere : (h : BodyContext) (i : Instruction) → needed_in (in_instr h i) ≡ needed_in (in_instr constant_context i)
instr_anywhere h (instr.try_table t) = needed_try_table h.blocks t ∙ sym (needed_try_table [] t)
instr_anywhere h (instr.br_table t) = needed_br_table h.blocks t ∙ sym (needed_br_table [] t)
instr_anywhere h (instr.resume a) = needed_resume h.blocks (in_index space.Ty a.type_index) a.table
    ∙ sym (needed_resume [] (in_index space.Ty a.type_index) a.table)
instr_anywhere h (instr.resume_throw_ref a) = needed_resume h.blocks (in_index space.Ty a.type_index) a.table
    ∙ sym (needed_resume [] (in_index space.Ty a.type_index) a.table)
instr_anywhere h (instr.resume_throw a) = needed_resume h.blocks (in_pair space.Ty a.type_index space.Tag a.tag_index) a.table
    ∙ sym (needed_resume [] (in_pair space.Ty a.type_index space.Tag a.tag_index) a.table)
instr_anywhere h i = refl

instrs_anywhere : (h : BodyContext) (is : List Instruction) → needed_in (in_instrs h is) ≡ flat_map (λ i. needed_in (in_instr constant_context i)) is
instrs_anywhere h [] = refl
instrs_anywhere h (i ∷ is) =
    needed_both (in_instr h i) (in_instrs (context_after h i) is)
    ∙ (ap (λ ss. ss ++ needed_in (in_instrs (context_after h i) is)) (instr_anywhere h i)
    ∙ ap (λ ss. needed_in (in_instr constant_context i) ++ ss) (instrs_anywhere (context_after h i) is))

pub needed_body : (h : BodyContext) (e : Expression) → needed_in (in_expression h e) ≡ flat_map (λ i. needed_in (in_instr constant_context i)) e.instrs
needed_body h e = needed_both (in_instrs h e.instrs) _ ∙ (append-nil (needed_in (in_instrs h e.instrs)) ∙ instrs_anywhere h e.instrs)

pub needed_constant : (e : Expression) → needed_in (in_constant e) ≡ flat_map (λ i. needed_in (in_instr constant_context i)) e.instrs
needed_constant e = needed_both (in_instrs constant_context e.instrs) (Asked (Clause 5 (is_balanced (block_effects e.instrs))) ∷ [])
    ∙ (append-nil (needed_in (in_instrs constant_context e.instrs)) ∙ instrs_anywhere constant_context e.instrs)

-- only a body needs types
pub needed_inline : (u : TypeUse FunctionType) (locals : List Local) (e : Expression)
    → needed_in (in_func_kind u (func.Inline locals e)) ≡ needed_in (in_constant e)
needed_inline u locals e =
    let marks = param_marks u.inline ++ local_marks locals in
    let types = check_sites (flat_map in_local locals) in
    let names = declaration_sites [] marks in
    let body = in_expression (body_here u marks) e in
    needed_both types (names ++ body)
    ∙ (ap (λ ss. ss ++ needed_in (names ++ body)) (needed_asking (flat_map in_local locals))
    ∙ (needed_both names body
    ∙ (ap (λ ss. ss ++ needed_in body) (needed_declaring [] marks)
    ∙ (needed_body (body_here u marks) e ∙ sym (needed_constant e)))))

kind_anywhere : (u : TypeUse FunctionType) (k : FuncKind) → needed_in (in_func_kind u k) ≡ needed_in (in_func_kind no_use k)
kind_anywhere u (func.Import import exact) = refl
kind_anywhere u (func.Inline locals e) = needed_inline u locals e ∙ sym (needed_inline no_use locals e)

pub needed_func : (f : Func) → needed_in (in_func f) ≡ needed_in (in_use OfItem f.ty) ++ needed_in (in_func_kind no_use f.kind)
needed_func f = needed_both (in_use OfItem f.ty) (in_func_kind f.ty f.kind) ∙ ap (λ ss. needed_in (in_use OfItem f.ty) ++ ss) (kind_anywhere f.ty f.kind)

-- the types of `select` have no type use
pub select_stays : (t : SelectTypes) → mapped_select (λ s i. i) t ≡ t
select_stays t = (select_at t).still

-- An instruction is resolved in the same way in any context.
module _ (find : LookUp) where
  -- of a block with catch clauses only the type
  catch_kept : (blocks : Blocks) (c : TryTableCatch) → mapped_catch (binding_change find) blocks c ≡ c
  catch_kept blocks c = λ t. record { kind = (caught_at c.kind).still t; label = c.label }

  pub catches_kept : (blocks : Blocks) (cs : List TryTableCatch) → map (mapped_catch (binding_change find) blocks) cs ≡ cs
  catches_kept blocks [] = refl
  catches_kept blocks (c ∷ cs) = λ t. catch_kept blocks c t ∷ catches_kept blocks cs t

  bound_anywhere : (h : BodyContext) (i : Instruction) → mapped_instr (binding_change find) h i ≡ mapped_instr (binding_change find) constant_context i
  bound_anywhere h (instr.call f) = refl
  bound_anywhere h i = refl

  pub bound_instrs : (h : BodyContext) (is : List Instruction)
      → mapped_instrs (binding_change find) h is ≡ map (mapped_instr (binding_change find) constant_context) is
  bound_instrs h [] = refl
  bound_instrs h (i ∷ is) = λ t. bound_anywhere h i t ∷ bound_instrs (context_after h i) is t

  bound_body : (h : BodyContext) (e : Expression) → mapped_expression (binding_change find) h e ≡ mapped_constant (binding_change find) e
  bound_body h e = ap (λ (is : List Instruction). record e { instrs = is }) (bound_instrs h e.instrs ∙ sym (bound_instrs constant_context e.instrs))

  locals_stay : (locals : List Local) → map (mapped_local (binding_change find)) locals ≡ locals
  locals_stay [] = refl
  locals_stay (l ∷ ls) = λ t. record l { ty = (val_at l.ty).still t } ∷ locals_stay ls t

  pub inline_bound : (u : TypeUse FunctionType) (locals : List Local) (e : Expression)
      → mapped_func_kind (binding_change find) u (func.Inline locals e) ≡ func.Inline locals (mapped_constant (binding_change find) e)
  inline_bound u locals e = λ t. func.Inline (locals_stay locals t) (bound_body (body_here u (param_marks u.inline ++ local_marks locals)) e t)

  pub bound_kind_anywhere : (u : TypeUse FunctionType) (k : FuncKind)
      → mapped_func_kind (binding_change find) u k ≡ mapped_func_kind (binding_change find) no_use k
  bound_kind_anywhere u (func.Import import exact) = refl
  bound_kind_anywhere u (func.Inline locals e) = inline_bound u locals e ∙ sym (inline_bound no_use locals e)

-- The type use of a block is resolved like another if it needs a type. Otherwise only its inline type is set.
module _ (find : LookUp) where
  pub block_wants : (i : Option Index) (inline : Option FunctionType) → wants_type i inline ≡ true
      → bound_use find OfBlock (record { index = i; inline = inline }) ≡ bound_use find OfItem (record { index = i; inline = inline })
  block_wants (Some j) inline h = absurd cc
  block_wants None None h = absurd cc
  block_wants None (Some t) h = ap (λ b. record { index = bound_if b (find (signature_of t)); inline = Some t }) h

-- A type definition needs no type.
pub ty_none : (t : ty.«Type») → needed_in (in_field (field.Ty t)) ≡ []
ty_none t = needed_asking (in_type t)

pub rec_none : (r : Rec) → needed_in (in_field (field.Rec r)) ≡ []
rec_none r = needed_asking (in_rec r)

pub custom_none : (c : Custom) → needed_in (in_field (field.Custom c)) ≡ []
custom_none (custom.Dylink0 info) = needed_asking (flat_map in_subsection info.subsections)
custom_none c = refl

-- the type that is appended for a signature, with its id
abbrev pub made_type : ℕ → Signature → ty.«Type»
made_type n s = record { span = start_of_text; id = Some (gensym_id n start_of_text); name = None; def = def_of s false }

-- The handlers of a resumption are unchanged.
handle_kept : (find : LookUp) (blocks : Blocks) (x : Handle) → mapped_handle (binding_change find) blocks x ≡ x
handle_kept find blocks (handle.OnLabel e l) = refl
handle_kept find blocks (handle.OnSwitch e) = refl

handles_kept : (find : LookUp) (blocks : Blocks) (xs : List Handle) → map (mapped_handle (binding_change find) blocks) xs ≡ xs
handles_kept find blocks [] = refl
handles_kept find blocks (x ∷ xs) = λ i. handle_kept find blocks x i ∷ handles_kept find blocks xs i

pub handlers_kept : (find : LookUp) (blocks : Blocks) (t : ResumeTable) → mapped_handlers (binding_change find) blocks t ≡ t
handlers_kept find blocks t = ap (λ (xs : List Handle). record { handlers = xs }) (handles_kept find blocks t.handlers)
