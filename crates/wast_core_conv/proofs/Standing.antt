-- What "may be encoded" means for a list of sites: for checks alone, indices, instructions and bodies.
use Rattle.std.proofs.Common.{◌≡◌, Bool, true, false, ◌&&◌, List, [], ◌∷◌, ◌++◌, refl, sym, ap, ◌∙◌}
use Rattle.std.specs.Prelude.{Option, Some, None}
use Rattle.std.specs.List.{flat_map, list_all}
use Rattle.std.proofs.lemmas.List.Folds.{list_all-append}
use Rattle.wast_base.specs.Blocks.{Blocks, is_balanced}
use Rattle.wast_base.specs.Ids.{Name, Mark, mark_of_option, is_number}
use Rattle.wast_base.specs.Spaces.{name_if}
use Rattle.wast_tree_nodes.specs.Clauses.{hints_stand}
use Rattle.wast_tree_nodes.specs.Instrs.{block_effects}
use Rattle.wast_tree_nodes.specs.Sites.{Check, ItemIndex, Clause, OfBlock, Site, Asked, Used, LabelAt, Begins, BodyContext}
use Rattle.wast_tree_nodes.specs.Sites.{constant_context, context_after, body_here, param_marks, local_marks, declaration_sites}
use Rattle.wast_tree_nodes.specs.Sites.{check_sites, if_there, in_id, in_index, at_index, in_local, at_label, in_use, in_caught, in_catch}
use Rattle.wast_tree_nodes.specs.Sites.{in_try_table, in_br_table, in_ref, in_access, in_cast, in_handle, in_handlers, uncovered_check}
use Rattle.wast_tree_nodes.specs.Sites.{in_instr, in_instrs, in_expression, in_constant, in_func_kind}
use Rattle.wast_tree_nodes.specs.Resolved.{is_numbered, are_numbered}
use Rattle.wast_core_conv.specs.Tree.{Id, Index, Space, TypeUse, FunctionType, BrTableIndices, TryTable, TryTableCatch, RefType}
use Rattle.wast_core_conv.specs.Tree.{StructAccess, ResumeTable, Instruction, Expression, Local}
use Rattle.wast_core_conv.specs.Tree.form
use Rattle.wast_core_conv.specs.Tree.instr as instruction
use Rattle.wast_core_conv.specs.Tree.func
use Rattle.wast_core_conv.specs.Encodable.{is_encodable_ask, are_encodable, is_encodable_site, encodable, are_entered, is_encodable_catch}
use Rattle.wast_core_conv.specs.Encodable.{is_encodable_instr, is_encodable_code, is_encodable_expression, is_encodable_kind}
use Rattle.wast_core_conv.proofs.EachPasses.{both_pass, both_true, both_lists, each_passes, each_of_one, each_same}

pub asking_passes : (asks : List Check) → encodable (check_sites asks) ≡ are_encodable asks
asking_passes [] = refl
asking_passes (a ∷ asks) = ap (λ b. is_encodable_ask a && b) (asking_passes asks)

pub asking_entered : (asks : List Check) → are_entered (check_sites asks) ≡ are_encodable asks
asking_entered [] = refl
asking_entered (a ∷ asks) = ap (λ b. is_encodable_ask a && b) (asking_entered asks)

-- Checks, and then other sites.
pub asked_then : (asks : List Check) (ss : List Site) → encodable (check_sites asks ++ ss) ≡ true → (are_encodable asks ≡ true) × (encodable ss ≡ true)
asked_then asks ss h =
    let both = both_lists is_encodable_site (check_sites asks) ss h in
    (sym (asking_passes asks) ∙ both.0, both.1)

-- Indices.
pub numbers_in : (s : Space) (is : List Index) → are_numbered (flat_map (in_index s) is) ≡ list_all is_number is
numbers_in s is = each_of_one is_numbered (ItemIndex s) is

pub encodable_in : (s : Space) (is : List Index) → are_encodable (flat_map (in_index s) is) ≡ list_all is_number is
encodable_in s is = each_of_one is_encodable_ask (ItemIndex s) is

pub encodable_at : (s : Space) (is : List Index) → encodable (flat_map (at_index s) is) ≡ list_all is_number is
encodable_at s is = each_of_one is_encodable_site (λ i. Asked (ItemIndex s i)) is

-- An id has no checks.
pub behind_id : (id : Option Id) (asks : List Check) → are_encodable (if_there in_id id ++ asks) ≡ are_encodable asks
behind_id None asks = refl
behind_id (Some id) asks = refl

-- `br_table`: its labels, with any enclosing blocks.
pub br_table_tells : (blocks : Blocks) (t : BrTableIndices) → encodable (in_br_table blocks t) ≡ (list_all is_number t.labels && (is_number t.default && true))
br_table_tells blocks t =
    list_all-append is_encodable_site (flat_map (at_label blocks) t.labels) (at_label blocks t.default)
    ∙ ap (λ b. b && (is_number t.default && true)) (each_of_one is_encodable_site (LabelAt blocks) t.labels)

pub br_table_parts : (t : BrTableIndices) → encodable (in_br_table constant_context.blocks t) ≡ true
    → (list_all is_number t.labels ≡ true) × (is_number t.default ≡ true)
br_table_parts t e =
    let both = both_pass (list_all is_number t.labels) _ (sym (br_table_tells constant_context.blocks t) ∙ e) in
    (both.0, (both_pass (is_number t.default) true both.1).0)

-- A clause of `try_table`: its tag and its label.
pub catch_tells : (blocks : Blocks) (c : TryTableCatch) → encodable (in_catch blocks c) ≡ (are_encodable (in_caught c.kind) && (is_number c.label && true))
catch_tells blocks c =
    list_all-append is_encodable_site (check_sites (in_caught c.kind)) (at_label blocks c.label)
    ∙ ap (λ b. b && (is_number c.label && true)) (asking_passes (in_caught c.kind))

catches_tell : (blocks : Blocks) (cs : List TryTableCatch) → encodable (flat_map (in_catch blocks) cs) ≡ list_all is_encodable_catch cs
catches_tell blocks cs =
    each_passes is_encodable_site (in_catch blocks) cs
    ∙ each_same (λ c. encodable (in_catch blocks c)) is_encodable_catch (λ c. catch_tells blocks c ∙ sym (catch_tells constant_context.blocks c)) cs

-- `try_table`: its type and its clauses.
pub try_table_tells : (blocks : Blocks) (t : TryTable)
    → encodable (in_try_table blocks t) ≡ (is_encodable_site (Used OfBlock t.block.ty) && (list_all is_encodable_catch t.catches && true))
try_table_tells blocks t =
    let begins = Begins blocks (mark_of_option t.block.label) ∷ [] in
    ap (λ b. is_encodable_site (Used OfBlock t.block.ty) && b)
    (list_all-append is_encodable_site (flat_map (in_catch blocks) t.catches) begins ∙ ap (λ b. b && true) (catches_tell blocks t.catches))

pub try_table_parts : (t : TryTable) → encodable (in_try_table constant_context.blocks t) ≡ true
    → (encodable (in_use OfBlock t.block.ty) ≡ true) × (list_all is_encodable_catch t.catches ≡ true)
try_table_parts t e =
    let both = both_pass (is_encodable_site (Used OfBlock t.block.ty)) _ (sym (try_table_tells constant_context.blocks t) ∙ e) in
    (both_true _ true both.0 refl, (both_pass (list_all is_encodable_catch t.catches) true both.1).0)

-- A struct field access: the type of the struct, and the field.
pub access_parts : (a : StructAccess) → encodable (in_access a) ≡ true → (is_number a.owner ≡ true) × (is_number a.field ≡ true)
access_parts a e = both_pass (is_number a.owner) (is_number a.field) (both_pass _ true e).0

-- A branch on a cast: its label and its two types.
pub record CastParts (l : Index) (target source : RefType) : Type 0 where
  pub label : is_number l ≡ true
  pub to : are_encodable (in_ref target) ≡ true
  pub from : are_encodable (in_ref source) ≡ true

pub cast_parts : (l : Index) (to from : RefType) → encodable (in_cast constant_context.blocks l to from) ≡ true → CastParts l to from
cast_parts l to from e =
    let both = both_pass (is_number l) (encodable (check_sites (in_ref to ++ in_ref from))) e in
    let types = both_lists is_encodable_ask (in_ref to) (in_ref from) (sym (asking_passes (in_ref to ++ in_ref from)) ∙ both.1) in
    record { label = both.0; to = types.0; from = types.1 }

-- No handler is supported, with any enclosing blocks.
pub handlers_tell : (blocks : Blocks) (t : ResumeTable) → encodable (in_handlers blocks t) ≡ false
handlers_tell blocks t =
    list_all-append is_encodable_site (flat_map (in_handle blocks) t.handlers) (check_sites (uncovered_check form.StackSwitching))
    ∙ never_both (encodable (flat_map (in_handle blocks) t.handlers))
  where
    never_both : (b : Bool) → (b && false) ≡ false
    never_both true = refl
    never_both false = refl

handlers_anywhere : (h g : BodyContext) (t : ResumeTable) → encodable (in_handlers h.blocks t) ≡ encodable (in_handlers g.blocks t)
handlers_anywhere h g t = handlers_tell h.blocks t ∙ sym (handlers_tell g.blocks t)

-- An instruction, in any context.
pub anywhere : (h g : BodyContext) (i : Instruction) → encodable (in_instr h i) ≡ encodable (in_instr g i)
anywhere h g (instruction.br_table t) = br_table_tells h.blocks t ∙ sym (br_table_tells g.blocks t)
anywhere h g (instruction.try_table t) = try_table_tells h.blocks t ∙ sym (try_table_tells g.blocks t)
anywhere h g (instruction.resume a) = ap (λ b. is_number a.type_index && b) (handlers_anywhere h g a.table)
anywhere h g (instruction.resume_throw a) = ap (λ b. is_number a.type_index && (is_number a.tag_index && b)) (handlers_anywhere h g a.table)
anywhere h g (instruction.resume_throw_ref a) = ap (λ b. is_number a.type_index && b) (handlers_anywhere h g a.table)
anywhere h g i = refl

pub instrs_pass : (h : BodyContext) (is : List Instruction) → encodable (in_instrs h is) ≡ list_all is_encodable_instr is
instrs_pass h [] = refl
instrs_pass h (i ∷ is) =
    list_all-append is_encodable_site (in_instr h i) (in_instrs (context_after h i) is)
    ∙ (ap (λ b. b && encodable (in_instrs (context_after h i) is)) (anywhere h constant_context i)
    ∙ ap (λ b. is_encodable_instr i && b) (instrs_pass (context_after h i) is))

-- The expression of a function: its instructions, and that its branch hints are on them.
expression_tells : (h : BodyContext) (e : Expression)
    → encodable (in_expression h e) ≡ (list_all is_encodable_instr e.instrs && encodable (Asked (Clause 2 (hints_stand e)) ∷ []))
expression_tells h e =
    let hints = Asked (Clause 2 (hints_stand e)) ∷ [] in
    list_all-append is_encodable_site (in_instrs h e.instrs) hints ∙ ap (λ b. b && encodable hints) (instrs_pass h e.instrs)

-- An expression: only its instructions are checked, and the blocks of a constant expression are balanced.
pub code_ready : (e : Expression) → encodable (in_expression constant_context e) ≡ true → is_encodable_code e ≡ true
code_ready e p = (both_lists is_encodable_site (in_instrs constant_context e.instrs) _ p).0

-- The hints of a function body are on its instructions.
pub code_hinted : (e : Expression) → encodable (in_expression constant_context e) ≡ true → hints_stand e ≡ true
code_hinted e p = (both_pass (hints_stand e) true (both_lists is_encodable_site (in_instrs constant_context e.instrs) _ p).1).0

pub constant_ready : (e : Expression) → encodable (in_constant e) ≡ true → is_encodable_expression e ≡ true
constant_ready e p =
    let both = both_lists is_encodable_site (in_instrs constant_context e.instrs) _ p in
    both_true (is_encodable_code e) (is_balanced (block_effects e.instrs)) both.0 (both_pass (is_balanced (block_effects e.instrs)) true both.1).0

pub ready_instrs : (e : Expression) → is_encodable_expression e ≡ true → list_all is_encodable_instr e.instrs ≡ true
ready_instrs e p = sym (instrs_pass constant_context e.instrs) ∙ (both_pass (is_encodable_code e) (is_balanced (block_effects e.instrs)) p).0

pub ready_balanced : (e : Expression) → is_encodable_expression e ≡ true → is_balanced (block_effects e.instrs) ≡ true
ready_balanced e p = (both_pass (is_encodable_code e) (is_balanced (block_effects e.instrs)) p).1

-- The declaration of a parameter or a local has no checks.
declared_passes : (before : List (Option Name)) (marks : List (Option Mark)) → encodable (declaration_sites before marks) ≡ true
declared_passes before [] = refl
declared_passes before (m ∷ ms) = declared_passes (before ++ name_if m ∷ []) ms

-- A body: its locals and its instructions, in any function.
pub body_tells : (u : TypeUse FunctionType) (locals : List Local) (e : Expression)
    → encodable (in_func_kind u (func.Inline locals e)) ≡ (are_encodable (flat_map in_local locals) && encodable (in_expression constant_context e))
body_tells u locals e =
    let marks = param_marks u.inline ++ local_marks locals in
    let body = in_expression (body_here u marks) e in
    let rest = declaration_sites [] marks ++ body in
    list_all-append is_encodable_site (check_sites (flat_map in_local locals)) rest
    ∙ (ap (λ b. b && encodable rest) (asking_passes (flat_map in_local locals))
    ∙ ap (λ b. are_encodable (flat_map in_local locals) && b)
    (list_all-append is_encodable_site (declaration_sites [] marks) body
    ∙ (ap (λ b. b && encodable body) (declared_passes [] marks) ∙ (expression_tells (body_here u marks) e ∙ sym (expression_tells constant_context e)))))

pub body_parts : (locals : List Local) (e : Expression)
    → is_encodable_kind (func.Inline locals e) ≡ true
    → (list_all (λ l. are_encodable (in_local l)) locals ≡ true) × (list_all is_encodable_instr e.instrs ≡ true)
body_parts locals e h =
    let both = both_pass (are_encodable (flat_map in_local locals)) (is_encodable_code e) h in
    (sym (each_passes is_encodable_ask in_local locals) ∙ both.0, sym (instrs_pass constant_context e.instrs) ∙ both.1)
