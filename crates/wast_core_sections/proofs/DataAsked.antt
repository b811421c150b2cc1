-- An instruction that needs a data count has an index of a data segment. So a module without such an index has no data
-- count section.
use Rattle.std.proofs.Common.{◌≡◌, Bool, true, false, not, ◌||◌, List, [], ◌∷◌, ◌++◌, refl, ap, ◌∙◌}
use Rattle.std.specs.List.{flat_map, list_any}
use Rattle.std.proofs.Math.Bool.{or-true}
use Rattle.std.proofs.lemmas.List.Folds.{list_any-append}
use Rattle.wast_tree_nodes.specs.Sites.{Site, Asked, Clause, OfItem, BodyContext, context_after, check_sites, declaration_sites}
use Rattle.wast_tree_nodes.specs.Sites.{param_marks, local_marks, body_here, in_local, in_use, in_instr, in_instrs, in_expression}
use Rattle.wast_tree_nodes.specs.Sites.{in_func_kind, in_field, in_module, checks_of}
use Rattle.wast_tree_nodes.specs.Clauses.{hints_stand}
use Rattle.wast_tree_nodes.specs.Instrs.{needs_data_count}
use Rattle.wast_tree_nodes.proofs.Asking.{asked_both}
use Rattle.wast_tree_visit.specs.Surveys.{is_of_data}
use Rattle.wast_core_sections.specs.Tree.{FunctionType, TypeUse, Instruction, FuncKind, ModuleField}
use Rattle.wast_core_sections.specs.Tree.instr
use Rattle.wast_core_sections.specs.Tree.func
use Rattle.wast_core_sections.specs.Tree.field
use Rattle.wast_core_sections.specs.DataCounts.{instrs_of, body_needs_count, needs_count, may_be_counted}

abbrev asks_data : List Site → Bool
asks_data sites = list_any is_of_data (checks_of sites)

both_ask : (xs ys : List Site) → asks_data (xs ++ ys) ≡ (asks_data xs || asks_data ys)
both_ask xs ys = ap (list_any is_of_data) (asked_both xs ys) ∙ list_any-append is_of_data (checks_of xs) (checks_of ys)

-- If some sites pass a test, more sites do.
join : (a b c d : Bool) → (a || not c) ≡ true → (b || not d) ≡ true → ((a || b) || not (c || d)) ≡ true
join true b c d h k = refl
join false true c d h k = refl
join false false true d h k = h
join false false false d h k = k

behind_more : (a b c : Bool) → (b || not c) ≡ true → ((a || b) || not c) ≡ true
behind_more true b c h = refl
behind_more false b c h = h

before_more : (a b c : Bool) → (a || not c) ≡ true → ((a || b) || not c) ≡ true
before_more true b c h = refl
before_more false b true h = absurd cc
before_more false b false h = or-true b

asks_behind : (xs ys : List Site) (c : Bool) → (asks_data ys || not c) ≡ true → (asks_data (xs ++ ys) || not c) ≡ true
asks_behind xs ys c h = ap (λ b. b || not c) (both_ask xs ys) ∙ behind_more (asks_data xs) (asks_data ys) c h

asks_before : (xs ys : List Site) (c : Bool) → (asks_data xs || not c) ≡ true → (asks_data (xs ++ ys) || not c) ≡ true
asks_before xs ys c h = ap (λ b. b || not c) (both_ask xs ys) ∙ before_more (asks_data xs) (asks_data ys) c h

instr_asks : (h : BodyContext) (i : Instruction) → (asks_data (in_instr h i) || not (needs_data_count i)) ≡ true
instr_asks h (instr.memory_init a) = refl
instr_asks h (instr.data_drop d) = refl
instr_asks h (instr.array_new_data a) = refl
instr_asks h (instr.array_init_data a) = refl
instr_asks h i = or-true (asks_data (in_instr h i))

instrs_ask : (h : BodyContext) (is : List Instruction) → (asks_data (in_instrs h is) || not (list_any needs_data_count is)) ≡ true
instrs_ask h [] = refl
instrs_ask h (i ∷ is) =
    ap (λ b. b || not (list_any needs_data_count (i ∷ is))) (both_ask (in_instr h i) (in_instrs (context_after h i) is))
    ∙ join (asks_data (in_instr h i)) (asks_data (in_instrs (context_after h i) is)) (needs_data_count i) (list_any needs_data_count is)
    (instr_asks h i) (instrs_ask (context_after h i) is)

body_asks : (u : TypeUse FunctionType) (k : FuncKind) → (asks_data (in_func_kind u k) || not (list_any needs_data_count (instrs_of k))) ≡ true
body_asks u (func.Import import exact) = or-true (asks_data (in_func_kind u (func.Import import exact)))
body_asks u (func.Inline locals e) =
    let marks = param_marks u.inline ++ local_marks locals in
    let need = list_any needs_data_count e.instrs in
    let here = body_here u marks in
    asks_behind (check_sites (flat_map in_local locals)) (declaration_sites [] marks ++ in_expression here e) need
    (asks_behind (declaration_sites [] marks) (in_expression here e) need
    (asks_before (in_instrs here e.instrs) (Asked (Clause 2 (hints_stand e)) ∷ []) need (instrs_ask here e.instrs)))

field_asks : (x : ModuleField) → (asks_data (in_field x) || not (body_needs_count x)) ≡ true
field_asks (field.Func f) = asks_behind (in_use OfItem f.ty) (in_func_kind f.ty f.kind) (list_any needs_data_count (instrs_of f.kind)) (body_asks f.ty f.kind)
field_asks x = or-true (asks_data (in_field x))

pub fields_ask : (fields : List ModuleField) → may_be_counted fields (asks_data (in_module fields)) ≡ true
fields_ask [] = refl
fields_ask (x ∷ xs) =
    ap (λ b. b || not (needs_count (x ∷ xs))) (both_ask (in_field x) (in_module xs))
    ∙ join (asks_data (in_field x)) (asks_data (in_module xs)) (body_needs_count x) (needs_count xs) (field_asks x) (fields_ask xs)
