-- Resolving changes nothing in stable bodies, and no check in them fails. So both passes may skip them.
use Rattle.std.specs.Prelude.{◌&&◌, map, All, Bool, Option, Some, None}
use Rattle.std.proofs.Common.{◌≡◌, ℕ, ◌+◌, true, false, List, [], ◌∷◌, ◌++◌, refl, sym, ap, ◌∙◌, subst}
use Rattle.std.specs.List.{flat_map, list_all}
use Rattle.std.specs.Cmp.{first_so, second_so}
use Rattle.std.proofs.lemmas.List.Elements.{All-nil, All-cons}
use Rattle.std.proofs.lemmas.List.Folds.{list_all-append}
use Rattle.wast_base.specs.Blocks.{is_balanced}
use Rattle.wast_base.specs.Filling.{one_if, given_if, with_ids_from, missing_id_count}
use Rattle.wast_base.specs.Ids.{Name, Mark, text_start, mark_of_option}
use Rattle.wast_base.specs.Spaces.{name_if}
use Rattle.wast_tree_nodes.specs.Clauses.{hints_stand}
use Rattle.wast_tree_nodes.specs.Instrs.{block_effects}
use Rattle.wast_tree_nodes.specs.Sites.{Check, Clause, OfItem, OfCall, OfBlock, Where, Site, Asked, Used, BodyContext, constant_context, check_sites}
use Rattle.wast_tree_nodes.specs.Sites.{if_there, in_id, in_local, param_marks, local_marks, declaration_sites, body_here, in_instrs, context_after}
use Rattle.wast_tree_nodes.specs.Sites.{in_expression, in_constant, in_func}
use Rattle.wast_tree_map.specs.Mapped.{Change, no_change, mapped_instr, mapped_instrs, mapped_expression, mapped_constant, mapped_local}
use Rattle.wast_tree_map.specs.Mapped.{mapped_func_kind, mapped_field, Joins, Each}
use Rattle.wast_tree_map.proofs.Fields.{field_at}
use Rattle.wast_tree_map.proofs.Kept.{joins_at}
use Rattle.wast_tree_map.proofs.Laws.{same_keeps}
use Rattle.wast_expand_keys.specs.Signatures.{Signature}
use Rattle.wast_expand_keys.specs.ImpliedTypes.{implied_signatures}
use Rattle.wast_expand_keys.specs.Expanders.{LookUp}
use Rattle.wast_expand_keys.specs.Expanded.{lacks_id, with_type_id, implied_types, fields_with_types, found_for, binding_change, bound_field}
use Rattle.wast_expand_keys.specs.Expanded.{expanded_fields}
use Rattle.wast_expand_types.specs.Binding.{no_use, IsPassedBody, IsPassedField}
use Rattle.wast_expand_types.proofs.Needing.{needed_inline, inline_bound, bound_instrs, bound_kind_anywhere}
use Rattle.wast_resolve_rules.specs.Demands.{first_unmet}
use Rattle.wast_resolve_rules.specs.Resolved.{numbering_change}
use Rattle.wast_resolve_passes.specs.NumberedBodies.{IsNumberedBody, IsNumberedField}
use Rattle.wast_resolve.specs.Tree.{Id, FunctionType, TypeUse, Instruction, Expression, Local, FuncKind, Func, ModuleField}
use Rattle.wast_resolve.specs.Tree.value
use Rattle.wast_resolve.specs.Tree.instr
use Rattle.wast_resolve.specs.Tree.func
use Rattle.wast_resolve.specs.Tree.field
use Rattle.wast_resolve.specs.Stable.{is_stable, is_stable_kind, is_stable_field, has_stable_bodies}
use Rattle.wast_resolve.proofs.StableSites.{IsStableSite, each_both, instrs_sites, sites_none, numbering_joins, binding_joins, sites_need}

each_as : {S : Type 0} (p q : S → Type 0) → ((s : S) → p s → q s) → (ss : List S) → Each p ss → Each q ss
each_as p q f [] h = tt
each_as p q f (s ∷ ss) h = (f s h.0, each_as p q f ss h.1)

-- A local with the same id and a type that no change affects.
abbrev plain : Local → Local
plain l = record l { ty = value.I32 }

plain_marks : (ls : List Local) → local_marks (map plain ls) ≡ local_marks ls
plain_marks [] = refl
plain_marks (l ∷ ls) = λ t. mark_of_option l.id ∷ plain_marks ls t

-- The body of a function field.
abbrev instrs_of : FuncKind → List Instruction
instrs_of (func.Import source exact) = []
instrs_of (func.Inline locals e) = e.instrs

abbrev body_of : ModuleField → List Instruction
body_of (field.Func x) = instrs_of x.kind
body_of x = []

-- A change that changes no stable site. The law of the tree map is about whole fields. So the body is put into a function
-- whose other parts the change keeps.
module _ (f : Change) (own : (o : Option Id) → f.own o ≡ o) (fix : (s : Site) → IsStableSite s → Joins no_change f no_change s) where
  -- the change, which keeps the type use of the function
  abbrev used_within : Where → TypeUse FunctionType → TypeUse FunctionType
  used_within OfItem u = u
  used_within OfCall u = f.used OfCall u
  used_within OfBlock u = f.used OfBlock u

  abbrev within : Change
  within = record f { used = used_within; id = λ o. o }

  same_instr : (h : BodyContext) (i : Instruction) → mapped_instr within h i ≡ mapped_instr f h i
  same_instr h (instr.call x) = refl
  same_instr h i = refl

  same_instrs : (h : BodyContext) (is : List Instruction) → mapped_instrs within h is ≡ mapped_instrs f h is
  same_instrs h [] = refl
  same_instrs h (i ∷ is) = λ t. same_instr h i t ∷ same_instrs (context_after h i) is t

  site_fixed : (s : Site) → IsStableSite s → Joins no_change within no_change s
  site_fixed (Used OfItem u) e = absurd (cc e)
  site_fixed (Used OfCall u) e = fix (Used OfCall u) e
  site_fixed (Used OfBlock u) e = fix (Used OfBlock u) e
  site_fixed s e = fix s e

  abbrev IsFixed : List Site → Type 0
  IsFixed ss = Each (Joins no_change within no_change) ss

  plain_fixed : (o : Option Id) (rest : List Check) → IsFixed (check_sites rest) → IsFixed (check_sites (if_there in_id o ++ rest))
  plain_fixed None rest h = h
  plain_fixed (Some id) rest h = (tt, h)

  locals_fixed : (ls : List Local) → IsFixed (check_sites (flat_map in_local (map plain ls)))
  locals_fixed [] = tt
  locals_fixed (l ∷ ls) = plain_fixed l.id (flat_map in_local (map plain ls)) (locals_fixed ls)

  declared_fixed : (before : List (Option Name)) (ms : List (Option Mark)) → IsFixed (declaration_sites before ms)
  declared_fixed before [] = tt
  declared_fixed before (m ∷ ms) = (tt, declared_fixed (before ++ name_if m ∷ []) ms)

  module _ (u : TypeUse FunctionType) (locals : List Local) (e : Expression)
      (stable : (h : BodyContext) → Each IsStableSite (in_instrs h e.instrs)) where
    abbrev lone : Func
    lone = record {
      span = text_start;
      id = None;
      name = None;
      exports = record { names = [] };
      kind = func.Inline (map plain locals) e;
      ty = u;
    }

    abbrev marks : List (Option Mark)
    marks = param_marks u.inline ++ local_marks (map plain locals)

    body_fixed : IsFixed (in_expression (body_here u marks) e)
    body_fixed =
        each_both (Joins no_change within no_change) (in_instrs (body_here u marks) e.instrs) (Asked (Clause 2 (hints_stand e)) ∷ [])
        (each_as IsStableSite (Joins no_change within no_change) site_fixed (in_instrs (body_here u marks) e.instrs) (stable (body_here u marks)))
        (tt, tt)

    lone_fixed : IsFixed (in_func lone)
    lone_fixed = (
      refl,
      each_both (Joins no_change within no_change) (check_sites (flat_map in_local (map plain locals)))
          (declaration_sites [] marks ++ in_expression (body_here u marks) e) (locals_fixed locals)
          (each_both (Joins no_change within no_change) (declaration_sites [] marks) (in_expression (body_here u marks) e)
          (declared_fixed [] marks) body_fixed),
    )

    lone_stays : mapped_field within (field.Func lone) ≡ field.Func lone
    lone_stays =
        let x : ModuleField = field.Func lone in
        let a = field_at x in
        sym (ap (mapped_field within) a.still)
        ∙ (joins_at x a no_change within no_change (record { keeps = same_keeps; ids = λ o. refl; owns = own }) lone_fixed ∙ a.still)

    body_stays : mapped_expression f (body_here u (param_marks u.inline ++ local_marks locals)) e ≡ e
    body_stays =
        let here : BodyContext = body_here u (param_marks u.inline ++ local_marks locals) in
        let same : mapped_instrs f here e.instrs ≡ mapped_instrs within (body_here u marks) e.instrs = sym (same_instrs here e.instrs)
        ∙ ap (λ ms. mapped_instrs within (body_here u (param_marks u.inline ++ ms)) e.instrs) (sym (plain_marks locals)) in
        ap (λ (is : List Instruction). record e { instrs = is }) (same ∙ ap body_of lone_stays)

-- The body of a function, for both passes.
expression_sites : (h : BodyContext) (e : Expression) → Each IsStableSite (in_instrs h e.instrs) → Each IsStableSite (in_expression h e)
expression_sites h e stable = each_both IsStableSite (in_instrs h e.instrs) (Asked (Clause 2 (hints_stand e)) ∷ []) stable (tt, tt)

constant_sites : (e : Expression) → Each IsStableSite (in_instrs constant_context e.instrs) → Each IsStableSite (in_constant e)
constant_sites e stable =
    each_both IsStableSite (in_instrs constant_context e.instrs) (Asked (Clause 5 (is_balanced (block_effects e.instrs))) ∷ []) stable (tt, tt)

kind_passed : (k : FuncKind) → is_stable_kind k ≡ true → IsPassedBody k
kind_passed (func.Import source exact) stable = record { needs = refl; stays = λ find. refl }
kind_passed (func.Inline locals e) stable =
    let sites : (h : BodyContext) → Each IsStableSite (in_instrs h e.instrs) = λ h. instrs_sites h e.instrs stable in
    let bound : (find : LookUp) → mapped_constant (binding_change find) e ≡ e =
    λ find. ap (λ (is : List Instruction). record e { instrs = is })
    (bound_instrs find constant_context e.instrs ∙ sym (bound_instrs find (body_here no_use []) e.instrs))
    ∙ body_stays (binding_change find) (λ o. refl) (binding_joins find) no_use [] e sites in
    record {
      needs = needed_inline no_use locals e ∙ sites_need (in_constant e) (constant_sites e (sites constant_context));
      stays = λ find. inline_bound find no_use locals e ∙ ap (func.Inline locals) (bound find);
    }

kind_numbered : (k : FuncKind) → is_stable_kind k ≡ true → IsNumberedBody k
kind_numbered (func.Import source exact) stable = record { met = λ c u. refl; stays = λ c u. refl }
kind_numbered (func.Inline locals e) stable =
    let sites : (h : BodyContext) → Each IsStableSite (in_instrs h e.instrs) = λ h. instrs_sites h e.instrs stable in
    record {
      met = λ c u.
          let here : BodyContext = body_here u (param_marks u.inline ++ local_marks locals) in
          ap first_unmet (sites_none c (in_expression here e) (expression_sites here e (sites here)));
      stays = λ c u. ap (func.Inline (map (mapped_local (numbering_change c)) locals))
          (body_stays (numbering_change c) (λ o. refl) (numbering_joins c) u locals e sites);
    }

-- All fields before type uses are resolved.
field_passed : (x : ModuleField) → is_stable_field x ≡ true → IsPassedField x
field_passed (field.Func x) stable = kind_passed x.kind stable
field_passed x stable = tt

pub all_passed : (xs : List ModuleField) → has_stable_bodies xs ≡ true → All IsPassedField xs
all_passed [] stable = All-nil IsPassedField
all_passed (x ∷ xs) stable =
    All-cons IsPassedField x xs (field_passed x (first_so (is_stable_field x) (has_stable_bodies xs) stable))
    (all_passed xs (second_so (is_stable_field x) (has_stable_bodies xs) stable))

-- All fields afterwards: types have ids, type uses have indices, and types are appended.
field_numbered : (find : LookUp) (x : ModuleField) → is_stable_field x ≡ true → IsNumberedField (bound_field find x)
field_numbered find (field.Func x) stable =
    subst IsNumberedBody (sym (bound_kind_anywhere find x.ty x.kind ∙ (kind_passed x.kind stable).stays find)) (kind_numbered x.kind stable)
field_numbered find x stable = tt

bound_numbered : (find : LookUp) (xs : List ModuleField) → has_stable_bodies xs ≡ true → All IsNumberedField (map (bound_field find) xs)
bound_numbered find [] stable = All-nil IsNumberedField
bound_numbered find (x ∷ xs) stable =
    All-cons IsNumberedField (bound_field find x) (map (bound_field find) xs)
    (field_numbered find x (first_so (is_stable_field x) (has_stable_bodies xs) stable))
    (bound_numbered find xs (second_so (is_stable_field x) (has_stable_bodies xs) stable))

given_same : (b : Bool) (n : ℕ) (x : ModuleField) → is_stable_field (given_if b with_type_id n x) ≡ is_stable_field x
given_same false n x = refl
given_same true n (field.Ty t) = refl
given_same true n x = refl

ids_same : (n : ℕ) (xs : List ModuleField) → has_stable_bodies (with_ids_from lacks_id with_type_id n xs) ≡ has_stable_bodies xs
ids_same n [] = refl
ids_same n (x ∷ xs) = λ t. given_same (lacks_id x) n x t && ids_same (n + one_if (lacks_id x)) xs t

types_stable : (n : ℕ) (ss : List Signature) → has_stable_bodies (implied_types n ss) ≡ true
types_stable n [] = refl
types_stable n (s ∷ ss) = types_stable (n + 1) ss

typed_stable : (n : ℕ) (fields : List ModuleField) → has_stable_bodies fields ≡ true → has_stable_bodies (fields_with_types n fields) ≡ true
typed_stable n fields stable =
    let own = with_ids_from lacks_id with_type_id n fields in
    let more = implied_types (n + missing_id_count lacks_id fields) (implied_signatures fields) in
    list_all-append is_stable_field own more
    ∙ (λ t. (ids_same n fields ∙ stable) t && types_stable (n + missing_id_count lacks_id fields) (implied_signatures fields) t)

pub all_numbered : (n : ℕ) (fields : List ModuleField) → has_stable_bodies fields ≡ true → All IsNumberedField (expanded_fields n fields)
all_numbered n fields stable = bound_numbered (found_for fields n) (fields_with_types n fields) (typed_stable n fields stable)
