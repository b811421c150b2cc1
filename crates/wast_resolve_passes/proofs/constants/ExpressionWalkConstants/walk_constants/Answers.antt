use Rattle.std.specs.Prelude.{⊤, refl}
use Rattle.std.proofs.Common.{◌∙◌, ap, sym, subst}
use Rattle.std.proofs.lemmas.Result.{err_from_is_err_and}
use Rattle.wast_base.specs.Blocks.{is_balanced}
use Rattle.wast_base.specs.Faults.{diagnostic_of}
use Rattle.wast_tree_nodes.specs.Instrs.{block_effects}
use Rattle.wast_tree_nodes.specs.Sites.{Clause, constant_context, in_constant, in_instrs}
use Rattle.wast_resolve_rules.specs.Demands.{first_unmet, site_demands, open_counts, HasMany, Answers}
use Rattle.wast_resolve_names.specs.Resolvers.{scope_of}
use Rattle.wast_resolve_names.proofs.Parts.{all_but_last, all_counts_but_last}
use Rattle.wast_resolve_passes.proofs.Within.{none_numbers}
use Rattle.wast_resolve_passes.proofs.constants.ExpressionWalkConstants.walk_constants.Goals as goal

pub returns-in_err-walk_expression : goal.returns-in_err-walk_expression
returns-in_err-walk_expression c =
    let x = c.args.self.now in
    let s = scope_of c.args.names.now in
    let e = diagnostic_of c.in_err-walk_expression.field-0.0 in
    let last = Clause 5 (is_balanced (block_effects x.instrs)) in
    let p = err_from_is_err_and c.from_residual.result c.from_residual.ensures.1 in
    let failed = c.in_err-walk_expression.ensures constant_context.locals (none_numbers s c.none.result c.none.ensures) in
    rw (p.1, p.2) (subst (λ ns. Answers ⊤ (HasMany ns) e (first_unmet (site_demands s (in_constant x))))
    (sym (all_counts_but_last (in_instrs constant_context x.instrs) last))
    (subst (λ ds. Answers ⊤ (HasMany (open_counts (in_instrs constant_context x.instrs))) e (first_unmet ds))
    (sym (all_but_last s (in_instrs constant_context x.instrs) last refl)) failed))

pub returns : goal.returns
returns c =
    let x = c.args.self.now in
    let s = scope_of c.args.names.now in
    let done = c.in_ok-walk_expression.ensures constant_context.locals (none_numbers s c.none.result c.none.ensures) in
    (ap first_unmet (all_but_last s (in_instrs constant_context x.instrs) (Clause 5 (is_balanced (block_effects x.instrs))) refl) ∙ done.0, done.1)
