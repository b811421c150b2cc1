use Rattle.std.specs.Prelude.{⊤, [], ◌∷◌}
use Rattle.std.proofs.Common.{ap, ◌∙◌}
use Rattle.std.proofs.lemmas.Result.{err_from_is_err_and}
use Rattle.wast_base.specs.Faults.{diagnostic_of}
use Rattle.wast_base.specs.Ids.{mark_of_option}
use Rattle.wast_base.specs.Spaces.{name_if}
use Rattle.wast_tree_nodes.specs.Sites.{OfBlock, Begins, in_block, in_use}
use Rattle.wast_resolve_passes.specs.Tree.{BlockType}
use Rattle.wast_resolve_rules.specs.Demands.{HasMany, open_counts, site_demand}
use Rattle.wast_resolve_names.specs.Resolvers.{scope_of}
use Rattle.wast_resolve_names.proofs.Parts.{both_met, fails_first, fails_second}
use Rattle.wast_resolve_passes.proofs.instrs.walk_block.Goals as goal

pub returns-in_err-walk_block_type-clause-walks : goal.returns-in_err-walk_block_type-clause-walks
returns-in_err-walk_block_type-clause-walks c =
    let x = c.args.block.now in
    let blocks = c.args.labels.now in
    let p = err_from_is_err_and c.from_residual.result c.from_residual.ensures.1 in
    rw (p.1, p.2) (fails_first ⊤ (HasMany (open_counts (in_block blocks x))) (scope_of c.args.names.now) (in_use OfBlock x.ty)
    (Begins blocks (mark_of_option x.label) ∷ []) (diagnostic_of c.in_err-walk_block_type.field-0.0)
    c.in_err-walk_block_type.ensures)

pub returns-in_err-open_label-clause-walks : goal.returns-in_err-open_label-clause-walks
returns-in_err-open_label-clause-walks c =
    let x = c.args.block.now in
    let blocks = c.args.labels.now in
    let p = err_from_is_err_and c.from_residual-in_err-open_label.result c.from_residual-in_err-open_label.ensures.1 in
    rw (p.1, p.2) (fails_second ⊤ (HasMany (open_counts (in_block blocks x))) (scope_of c.args.names.now) (in_use OfBlock x.ty)
    (Begins blocks (mark_of_option x.label) ∷ []) (diagnostic_of c.in_err-open_label.field-0.0)
    c.in_ok-walk_block_type.ensures.0 (c.in_err-open_label.ensures.walks c.args.names.now))

pub returns-clause-walks : goal.returns-clause-walks
returns-clause-walks c =
    let x = c.args.block.now in
    let blocks = c.args.labels.now in
    let typed = c.in_ok-walk_block_type.ensures in
    let opened = c.in_ok-open_label.ensures.walks c.args.names.now in
    (both_met (site_demand (scope_of c.args.names.now)) (in_use OfBlock x.ty) (Begins blocks (mark_of_option x.label) ∷ []) typed.0 opened.0, typed.1)

pub returns-clause-blocks : goal.returns-clause-blocks
returns-clause-blocks c l =
    let same = ap (λ (b : BlockType). b.label) (c.get.ensures ∙ c.in_ok-walk_block_type.ensures.1) in
    c.in_ok-open_label.ensures.blocks l ∙ ap (λ o. name_if (mark_of_option o) ∷ c.args.labels.now) same
