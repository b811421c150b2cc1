use Rattle.std.specs.Prelude.{⊤}
use Rattle.std.proofs.Common.{List, ap, subst, ◌≡◌, None}
use Rattle.std.proofs.lemmas.Result.{err_from_is_err_and}
use Rattle.wast_base.specs.Blocks.{Blocks}
use Rattle.wast_base.specs.Faults.{diagnostic_of}
use Rattle.wast_tree_map.specs.Mapped.{mapped_instrs}
use Rattle.wast_tree_nodes.specs.Sites.{in_instrs}
use Rattle.wast_resolve_passes.specs.Tree.{Instruction}
use Rattle.wast_resolve_rules.specs.Demands.{first_unmet, site_demands, open_counts, HasMany, Answers}
use Rattle.wast_resolve_passes.specs.Standing.{initial_context}
use Rattle.wast_resolve_rules.specs.Resolved.{numbering_change}
use Rattle.wast_resolve_names.specs.Resolvers.{scope_of}
use Rattle.wast_resolve_passes.proofs.instrs.walk_expression.Goals as goal

pub returns-in_err-walk_instrs : goal.returns-in_err-walk_instrs
returns-in_err-walk_instrs c l numbers =
    let x = c.args.expression.now in
    let s = scope_of c.args.names.now in
    let h = initial_context l in
    let e = diagnostic_of c.in_err-walk_instrs.field-0.0 in
    let p = err_from_is_err_and c.from_residual.result c.from_residual.ensures.1 in
    rw (p.1, p.2) (subst (λ (bs : Blocks). let g = record h { blocks = bs }
    in Answers ⊤ (HasMany (open_counts (in_instrs g x.instrs))) e (first_unmet (site_demands s (in_instrs g x.instrs))))
    c.new-labels.ensures (c.in_err-walk_instrs.ensures l numbers))

pub returns : goal.returns
returns c l numbers =
    let x = c.args.expression.now in
    let s = scope_of c.args.names.now in
    let h = initial_context l in
    let done = subst (λ (bs : Blocks). let g = record h { blocks = bs }
    in (first_unmet (site_demands s (in_instrs g x.instrs)) ≡ None) × (c.walk_instrs.new.instrs ≡ mapped_instrs (numbering_change s) g x.instrs))
    c.new-labels.ensures (c.in_ok-walk_instrs.ensures l numbers) in
    (done.0, ap (λ (is : List Instruction). record x { instrs = is }) done.1)
