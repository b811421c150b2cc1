use Rattle.std.specs.Prelude.{⊤, ◌+◌, ◌≤◌, ◌^◌, Some}
use Rattle.std.proofs.Common.{◌≡◌, ◌∙◌, ◌++◌, ap, sym, subst, length, None}
use Rattle.std.proofs.lemmas.Result.{err_from_is_err_and}
use Rattle.wast_base.specs.Faults.{diagnostic_of}
use Rattle.wast_tree_nodes.specs.Sites.{param_marks}
use Rattle.wast_resolve_passes.specs.Tree.{FuncKind}
use Rattle.wast_resolve_rules.specs.Demands.{first_unmet, Answers, ask_demands, site_demands, declared_ids, kind_marks, open_counts, HasMany}
use Rattle.wast_resolve_passes.specs.Locals.{body_declarations, names, locals_in, kind_counts}
use Rattle.wast_resolve_rules.specs.Resolved.{numbering_change}
use Rattle.wast_resolve_names.specs.Resolvers.{scope_of}
use Rattle.wast_resolve_rules.specs.Scopes.{implicit_param_count}
use Rattle.wast_resolve_passes.specs.TwoSteps.{in_locals, in_body, with_body}
use Rattle.wast_resolve_rules.proofs.Numbering.{numbering_keeps}
use Rattle.wast_resolve_rules.proofs.Unmet.{answers_first, answers_after, first_unmet-append}
use Rattle.wast_resolve_passes.proofs.Functions.{inside, kind_demands, many_blocks, many_locals, numbers_still, body_stays, kind_stays}
use Rattle.wast_resolve_passes.proofs.Functions.{opening_stays, kind_becomes}
use Rattle.wast_resolve_passes.proofs.walks.walk_kind.Goals as goal

pub returns-in_err-walk_locals : goal.returns-in_err-walk_locals
returns-in_err-walk_locals c u says =
    let k = c.args.kind.now in
    let s = scope_of c.args.names.now in
    let e = diagnostic_of c.in_err-walk_locals.field-0.0 in
    let many = HasMany (kind_counts s u k) in
    let p = err_from_is_err_and c.from_residual.result c.from_residual.ensures.1 in
    rw (p.1, p.2) (subst (λ ds. Answers ⊤ many e (first_unmet ds)) (sym (kind_demands s u k))
    (answers_first e (ask_demands s.known (in_locals k)) (site_demands s (body_declarations (param_marks u.inline) k) ++ site_demands s
    (in_body (inside u k) k)) (λ l. absurd l) (λ m. absurd m) c.in_err-walk_locals.ensures))

pub returns-in_err-locals : goal.returns-in_err-locals
returns-in_err-locals c u says =
    let k = c.args.kind.now in
    let v = c.args.ty.now in
    let s = scope_of c.args.names.now in
    let e = diagnostic_of c.in_err-locals.field-0.0 in
    let f = numbering_change s in
    let keeps = numbering_keeps s in
    let many = HasMany (kind_counts s u k) in
    let p = err_from_is_err_and c.from_residual-in_err-locals.result c.from_residual-in_err-locals.ensures.1 in
    let is = c.in_ok-walk_locals.ensures.1 in
    let long = ap (λ (x : FuncKind). length (declared_ids v.inline x)) is ∙ (ap (λ ms. length (param_marks v.inline ++ ms)) (kind_stays f keeps k)
    ∙ ap (λ ps. length (ps ++ kind_marks k)) says.marks) in
    let opened = ap (body_declarations (param_marks v.inline)) is
    ∙ (opening_stays f keeps (param_marks v.inline) k ∙ ap (λ ps. body_declarations ps k) says.marks) in
    rw (p.1, p.2) (subst (λ ds. Answers ⊤ many e (first_unmet ds)) (sym (kind_demands s u k))
    (answers_after e (ask_demands s.known (in_locals k)) (site_demands s (body_declarations (param_marks u.inline) k) ++ site_demands s
    (in_body (inside u k) k)) (λ l. l) (λ m. m) c.in_ok-walk_locals.ensures.0
    (answers_first e (site_demands s (body_declarations (param_marks u.inline) k)) (site_demands s (in_body (inside u k) k)) (λ l. l) (many_locals s u k)
    (subst (λ ss. Answers ⊤ (2 ^ 32 ≤ implicit_param_count s (Some u) + length (declared_ids u.inline k)) e (first_unmet (site_demands s ss))) opened
    (subst (λ n. Answers ⊤ (2 ^ 32 ≤ n + length (declared_ids u.inline k)) e
    (first_unmet (site_demands s (body_declarations (param_marks v.inline) c.walk_locals.new.kind)))) says.nameless
    (subst (λ n. Answers ⊤ (2 ^ 32 ≤ implicit_param_count s (Some v) + n) e
    (first_unmet (site_demands s (body_declarations (param_marks v.inline) c.walk_locals.new.kind)))) long (c.in_err-locals.ensures.names s).1))))))

pub returns-in_err-walk_body : goal.returns-in_err-walk_body
returns-in_err-walk_body c u says =
    let k = c.args.kind.now in
    let v = c.args.ty.now in
    let s = scope_of c.args.names.now in
    let e = diagnostic_of c.in_err-walk_body.field-0.0 in
    let f = numbering_change s in
    let keeps = numbering_keeps s in
    let here = inside u k in
    let many = HasMany (kind_counts s u k) in
    let p = err_from_is_err_and c.from_residual-in_err-walk_body.result c.from_residual-in_err-walk_body.ensures.1 in
    let is = c.in_ok-walk_locals.ensures.1 in
    let opened = ap (body_declarations (param_marks v.inline)) is
    ∙ (opening_stays f keeps (param_marks v.inline) k ∙ ap (λ ps. body_declarations ps k) says.marks) in
    let called = ap (λ (x : FuncKind). names (declared_ids v.inline x)) is ∙ (ap (λ ms. names (param_marks v.inline ++ ms)) (kind_stays f keeps k)
    ∙ ap (λ ps. names (ps ++ kind_marks k)) says.marks) in
    let body = ap (in_body here) is ∙ body_stays f here k in
    let met = subst (λ ss. first_unmet (site_demands s ss) ≡ None) opened (c.in_ok-locals.ensures.names s).0 in
    let numbers = numbers_still s (locals_in v c.walk_locals.new.kind)
    (locals_in u k) c.walk_locals.new.kind c.in_ok-locals.locals says.nameless called c.in_ok-locals.ensures.numbers in
    rw (p.1, p.2) (subst (λ ds. Answers ⊤ many e (first_unmet ds)) (sym (kind_demands s u k))
    (answers_after e (ask_demands s.known (in_locals k)) (site_demands s (body_declarations (param_marks u.inline) k) ++ site_demands s
    (in_body here k)) (λ l. l) (λ m. m) c.in_ok-walk_locals.ensures.0
    (answers_after e (site_demands s (body_declarations (param_marks u.inline) k)) (site_demands s (in_body here k)) (λ l. l) (many_blocks s u k) met
    (subst (λ ss. Answers ⊤ (HasMany (open_counts ss)) e (first_unmet (site_demands s ss))) body (c.in_err-walk_body.ensures (locals_in u k) numbers)))))

-- a body in which nothing is left to resolve
pub returns-then-skips_bodies : goal.returns-then-skips_bodies
returns-then-skips_bodies c u says =
    let k = c.args.kind.now in
    let v = c.args.ty.now in
    let s = scope_of c.args.names.now in
    let f = numbering_change s in
    let keeps = numbering_keeps s in
    let here = inside u k in
    let is = c.in_ok-walk_locals.ensures.1 in
    let opened = ap (body_declarations (param_marks v.inline)) is
    ∙ (opening_stays f keeps (param_marks v.inline) k ∙ ap (λ ps. body_declarations ps k) says.marks) in
    let met = subst (λ ss. first_unmet (site_demands s ss) ≡ None) opened (c.in_ok-locals.ensures.names s).0 in
    let body = c.requires c.if-skips_bodies.true in (
      ap first_unmet (kind_demands s u k)
          ∙ (first_unmet-append (ask_demands s.known (in_locals k)) (site_demands s (body_declarations (param_marks u.inline) k) ++ site_demands s
          (in_body here k)) c.in_ok-walk_locals.ensures.0
          ∙ (first_unmet-append (site_demands s (body_declarations (param_marks u.inline) k)) (site_demands s (in_body here k)) met
          ∙ body.met s u)),
      is ∙ sym (body.stays s u),
    )

pub returns : goal.returns
returns c u says =
    let k = c.args.kind.now in
    let v = c.args.ty.now in
    let s = scope_of c.args.names.now in
    let f = numbering_change s in
    let keeps = numbering_keeps s in
    let here = inside u k in
    let is = c.in_ok-walk_locals.ensures.1 in
    let opened = ap (body_declarations (param_marks v.inline)) is
    ∙ (opening_stays f keeps (param_marks v.inline) k ∙ ap (λ ps. body_declarations ps k) says.marks) in
    let called = ap (λ (x : FuncKind). names (declared_ids v.inline x)) is ∙ (ap (λ ms. names (param_marks v.inline ++ ms)) (kind_stays f keeps k)
    ∙ ap (λ ps. names (ps ++ kind_marks k)) says.marks) in
    let stays = ap (in_body here) is ∙ body_stays f here k in
    let met = subst (λ ss. first_unmet (site_demands s ss) ≡ None) opened (c.in_ok-locals.ensures.names s).0 in
    let numbers = numbers_still s (locals_in v c.walk_locals.new.kind)
    (locals_in u k) c.walk_locals.new.kind c.in_ok-locals.locals says.nameless called c.in_ok-locals.ensures.numbers in
    let body = c.in_ok-walk_body.ensures (locals_in u k) numbers in (
      ap first_unmet (kind_demands s u k)
          ∙ (first_unmet-append (ask_demands s.known (in_locals k)) (site_demands s (body_declarations (param_marks u.inline) k) ++ site_demands s
          (in_body here k)) c.in_ok-walk_locals.ensures.0
          ∙ (first_unmet-append (site_demands s (body_declarations (param_marks u.inline) k)) (site_demands s (in_body here k)) met
          ∙ (ap (λ ss. first_unmet (site_demands s ss)) (sym stays) ∙ body.0))),
      body.1 ∙ (ap (with_body f here) is ∙ kind_becomes f u k),
    )
