-- The checks of a function, part by part.
use Rattle.std.specs.Prelude.{Option, Some, None, option_map}
use Rattle.std.proofs.Common.{◌≡◌, ◌+◌, ◌≤◌, ◌^◌, List, [], ◌∷◌, ◌++◌, length, refl, sym, ap, ◌∙◌, subst}
use Rattle.std.proofs.lemmas.Grind.{flat_map-append}
use Rattle.std.specs.List.{flat_map}
use Rattle.wast_base.specs.Ids.{Mark}
use Rattle.wast_base.specs.Spaces.{position_of}
use Rattle.wast_base.proofs.Numbered.{denoted_still}
use Rattle.wast_tree_nodes.specs.Sites.{BodyContext, Locals, in_local, local_marks, param_marks, declaration_sites, body_here}
use Rattle.wast_tree_nodes.specs.Sites.{in_expression, in_func_kind, check_sites}
use Rattle.wast_tree_map.specs.Mapped.{Change, KeepsMarks, mapped_signature, mapped_func_kind}
use Rattle.wast_tree_map.proofs.Fields.{marks_stay}
use Rattle.wast_resolve_passes.specs.Tree.{Index, FunctionType, TypeUse, FuncKind}
use Rattle.wast_resolve_passes.specs.Tree.index
use Rattle.wast_resolve_passes.specs.Tree.space
use Rattle.wast_resolve_passes.specs.Tree.func
use Rattle.wast_resolve_rules.specs.Scopes.{Scope, type_at, params_of, unsaid_params, implicit_param_count}
use Rattle.wast_resolve_rules.specs.Demands.{ask_demands, site_demand, site_demands, declared_ids, kind_marks, open_counts_at, open_counts, HasMany}
use Rattle.wast_resolve_passes.specs.Locals.{LocalSpace, body_declarations, names, locals_in, NumbersIn, SaysAsMuch, kind_counts}
use Rattle.wast_resolve_passes.specs.Standing.{initial_context}
use Rattle.wast_resolve_rules.specs.Resolved.{numbered_at, numbered_use}
use Rattle.wast_resolve_passes.specs.TwoSteps.{in_locals, in_body, with_locals, with_body}
use Rattle.wast_resolve_rules.proofs.Counted.{many_one, many_left, many_right}
use Rattle.wast_resolve_rules.proofs.Numbering.{inline_keeps}
use Rattle.wast_resolve_names.proofs.Parts.{asking_demands}

-- the context of the body of a function
abbrev pub inside : TypeUse FunctionType → FuncKind → BodyContext
inside u k = initial_context (locals_in u k)

-- the types of the locals, the ids of parameters and locals, and the body
pub kind_demands : (c : Scope) (u : TypeUse FunctionType) (k : FuncKind)
    → site_demands c (in_func_kind u k) ≡ ask_demands c.known (in_locals k) ++
    (site_demands c (body_declarations (param_marks u.inline) k) ++ site_demands c (in_body (inside u k) k))
kind_demands c u (func.Import import exact) = refl
kind_demands c u (func.Inline locals e) =
    let marks = param_marks u.inline ++ local_marks locals in
    let types = flat_map in_local locals in
    let body = in_expression (body_here u marks) e in
    flat_map-append (site_demand c) (check_sites types) (declaration_sites [] marks ++ body)
    ∙ (ap (λ ds. ds ++ site_demands c (declaration_sites [] marks ++ body)) (asking_demands c types)
    ∙ ap (λ ds. ask_demands c.known types ++ ds) (flat_map-append (site_demand c) (declaration_sites [] marks) body))

-- too many blocks in the body, or too many parameters and locals
body_many : (u : TypeUse FunctionType) (k : FuncKind) → HasMany (open_counts (in_body (inside u k) k)) → HasMany (open_counts (in_func_kind u k))
body_many u (func.Import import exact) m = m
body_many u (func.Inline locals e) m =
    let marks = param_marks u.inline ++ local_marks locals in
    let types = check_sites (flat_map in_local locals) in
    let body = in_expression (body_here u marks) e in
    subst HasMany (sym (flat_map-append open_counts_at types (declaration_sites [] marks ++ body)))
    (many_right (open_counts types) (open_counts (declaration_sites [] marks ++ body))
    (subst HasMany (sym (flat_map-append open_counts_at (declaration_sites [] marks) body))
    (many_right (open_counts (declaration_sites [] marks)) (open_counts body) m)))

module _ (c : Scope) (u : TypeUse FunctionType) (k : FuncKind) where
  pub many_blocks : HasMany (open_counts (in_body (inside u k) k)) → HasMany (kind_counts c u k)
  many_blocks m = many_right ((implicit_param_count c (Some u) + length (declared_ids u.inline k)) ∷ []) (open_counts (in_func_kind u k)) (body_many u k m)

  pub many_locals : 2 ^ 32 ≤ implicit_param_count c (Some u) + length (declared_ids u.inline k) → HasMany (kind_counts c u k)
  many_locals le =
      let n = implicit_param_count c (Some u) + length (declared_ids u.inline k) in
      many_left (n ∷ []) (open_counts (in_func_kind u k)) (many_one n le)

module _ (f : Change) where
  -- the body and the declarations do not change while the types of locals are walked
  pub body_stays : (h : BodyContext) (k : FuncKind) → in_body h (with_locals f k) ≡ in_body h k
  body_stays h (func.Import import exact) = refl
  body_stays h (func.Inline locals e) = refl

  pub kind_stays : KeepsMarks f → (k : FuncKind) → kind_marks (with_locals f k) ≡ kind_marks k
  kind_stays keeps (func.Import import exact) = refl
  kind_stays keeps (func.Inline locals e) = marks_stay f keeps locals

  pub opening_stays : KeepsMarks f → (params : List (Option Mark)) (k : FuncKind) → body_declarations params (with_locals f k) ≡ body_declarations params k
  opening_stays keeps params (func.Import import exact) = refl
  opening_stays keeps params (func.Inline locals e) = ap (λ ms. declaration_sites [] (params ++ ms)) (marks_stay f keeps locals)

  -- and then the body
  pub kind_becomes : (u : TypeUse FunctionType) (k : FuncKind) → with_body f (inside u k) (with_locals f k) ≡ mapped_func_kind f u k
  kind_becomes u (func.Import import exact) = refl
  kind_becomes u (func.Inline locals e) = refl

-- names have the same numbers among as many unnamed parameters with the same names after them
pub numbers_still : (c : Scope) (l m : Locals) (k : FuncKind) (s : LocalSpace) → implicit_param_count c l.owner ≡ implicit_param_count c m.owner
    → l.names ≡ m.names → NumbersIn c l k s → NumbersIn c m k s
numbers_still c l m (func.Import import exact) s some same h = tt
numbers_still c l m (func.Inline locals e) s some same h = λ name. h name ∙ (λ i. option_map (λ p. some i + p) (position_of name (same i)))

unsaid_still : (c : Scope) (index : Option Index) (inline : Option FunctionType)
    → unsaid_params c (option_map (numbered_at c.known space.Ty) index) (option_map (mapped_signature (numbered_at c.known)) inline)
    ≡ unsaid_params c index inline
unsaid_still c index (Some t) = refl
unsaid_still c None None = refl
unsaid_still c (Some i) None = ap (λ o. params_of (type_at c.types o)) (denoted_still (c.known.number space.Ty) i)

-- a type use has the same parameters after it is numbered
pub numbered_says : (c : Scope) (u v : TypeUse FunctionType) → v ≡ numbered_use c.known u → SaysAsMuch c u v
numbered_says c u v is = subst (SaysAsMuch c u) (sym is) record {
  nameless = unsaid_still c u.index u.inline;
  marks = inline_keeps (numbered_at c.known) u.inline;
}
