use Rattle.std.specs.Prelude.{⊤, refl}
use Rattle.std.proofs.Common.{ap, sym, subst}
use Rattle.wast_tree_map.specs.Mapped.{mapped_expression}
use Rattle.wast_tree_nodes.specs.Clauses.{hints_stand}
use Rattle.wast_tree_nodes.specs.Sites.{Clause, in_instrs, in_expression}
use Rattle.wast_resolve_passes.specs.Tree.{FuncKind}
use Rattle.wast_resolve_passes.specs.Tree.func
use Rattle.wast_resolve_rules.specs.Demands.{HasMany, first_unmet, open_counts, site_demands}
use Rattle.wast_resolve_passes.specs.Locals.{NumbersIn}
use Rattle.wast_resolve_passes.specs.Standing.{initial_context}
use Rattle.wast_resolve_rules.specs.Resolved.{numbering_change}
use Rattle.wast_resolve_names.specs.Resolvers.{scope_of}
use Rattle.wast_resolve_names.proofs.Parts.{all_but_last, all_counts_but_last, walks_as}
use Rattle.wast_resolve_passes.proofs.walks.walk_body.Goals as goal

-- branch hints have no checks
pub returns-in-Inline : goal.returns-in-Inline
returns-in-Inline c l numbers =
    let s = scope_of c.args.names.now in
    let e = c.in-Inline.expression in
    let sites = in_instrs (initial_context l) e.instrs in
    let last = Clause 2 (hints_stand e) in
    let named = subst (λ (k : FuncKind). NumbersIn s l k c.args.locals.now) c.in-Inline.is numbers in
    let body = func.Inline c.in-Inline.locals in
    rw c.in-Inline.is
    (walks_as {K = ⊤} {L = ⊤} {M = HasMany (open_counts sites)} {N = HasMany (open_counts (in_expression (initial_context l) e))} (λ m. m)
    (subst HasMany (sym (all_counts_but_last sites last)))
    (site_demands s sites) (site_demands s (in_expression (initial_context l) e))
    (mapped_expression (numbering_change s) (initial_context l) e) c.walk_expression.new.expression
    (body (mapped_expression (numbering_change s) (initial_context l) e)) (body c.walk_expression.new.expression) c.walk_expression.result
    (ap first_unmet (sym (all_but_last s sites last refl))) (ap body) (c.walk_expression.ensures l named))
