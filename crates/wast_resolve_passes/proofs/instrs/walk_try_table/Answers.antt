use Rattle.std.specs.Prelude.{⊤, [], ◌∷◌, ◌++◌, flat_map}
use Rattle.std.proofs.Common.{◌≡◌, ap, sym, subst, ◌∙◌}
use Rattle.std.proofs.lemmas.Grind.{flat_map-append}
use Rattle.std.proofs.lemmas.Result.{err_from_is_err_and}
use Rattle.wast_base.specs.Faults.{diagnostic_of}
use Rattle.wast_base.specs.Ids.{mark_of_option}
use Rattle.wast_base.specs.Spaces.{name_if}
use Rattle.wast_tree_nodes.specs.Sites.{BodyContext, OfBlock, Begins, after_all, in_catch, in_try_table, in_use}
use Rattle.wast_tree_nodes.proofs.Behind.{after-append}
use Rattle.wast_resolve_passes.specs.Tree.{BlockType}
use Rattle.wast_resolve_rules.specs.Demands.{HasMany, open_counts_at, open_counts, site_demand}
use Rattle.wast_resolve_passes.specs.Standing.{context_of}
use Rattle.wast_resolve_names.specs.Resolvers.{scope_of}
use Rattle.wast_resolve_rules.proofs.Counted.{many_right}
use Rattle.wast_resolve_rules.proofs.Unmoved.{catches_stay}
use Rattle.wast_resolve_names.proofs.Parts.{both_met, fails_first, fails_second, more_answers}
use Rattle.wast_resolve_passes.proofs.instrs.walk_try_table.Goals as goal

pub returns-in_err-walk_block_type-clause-walks : goal.returns-in_err-walk_block_type-clause-walks
returns-in_err-walk_block_type-clause-walks c =
    let x = c.args.table.now in
    let blocks = c.args.labels.now in
    let p = err_from_is_err_and c.from_residual.result c.from_residual.ensures.1 in
    rw (p.1, p.2) (fails_first ⊤ (HasMany (open_counts (in_try_table blocks x))) (scope_of c.args.names.now) (in_use OfBlock x.block.ty)
    (flat_map (in_catch blocks) x.catches ++ Begins blocks (mark_of_option x.block.label) ∷ []) (diagnostic_of c.in_err-walk_block_type.field-0.0)
    c.in_err-walk_block_type.ensures)

pub returns-in_err-walk_catches-clause-walks : goal.returns-in_err-walk_catches-clause-walks
returns-in_err-walk_catches-clause-walks c =
    let x = c.args.table.now in
    let blocks = c.args.labels.now in
    let s = scope_of c.args.names.now in
    let t = diagnostic_of c.in_err-walk_catches.field-0.0 in
    let many = HasMany (open_counts (in_try_table blocks x)) in
    let begins = Begins blocks (mark_of_option x.block.label) ∷ [] in
    let p = err_from_is_err_and c.from_residual-in_err-walk_catches.result c.from_residual-in_err-walk_catches.ensures.1 in
    rw (p.1, p.2) (fails_second ⊤ many s (in_use OfBlock x.block.ty) (flat_map (in_catch blocks) x.catches ++ begins) t c.in_ok-walk_block_type.ensures.0
    (fails_first ⊤ many s (flat_map (in_catch blocks) x.catches) begins t c.in_err-walk_catches.ensures))

pub returns-in_err-open_label-clause-walks : goal.returns-in_err-open_label-clause-walks
returns-in_err-open_label-clause-walks c =
    let x = c.args.table.now in
    let blocks = c.args.labels.now in
    let s = scope_of c.args.names.now in
    let t = diagnostic_of c.in_err-open_label.field-0.0 in
    let many = HasMany (open_counts (in_try_table blocks x)) in
    let begins = Begins blocks (mark_of_option x.block.label) ∷ [] in
    let caught = flat_map (in_catch blocks) x.catches in
    let all = flat_map-append open_counts_at caught begins in
    let p = err_from_is_err_and c.from_residual-in_err-open_label.result c.from_residual-in_err-open_label.ensures.1 in
    rw (p.1, p.2) (fails_second ⊤ many s (in_use OfBlock x.block.ty) (caught ++ begins) t c.in_ok-walk_block_type.ensures.0
    (fails_second ⊤ many s caught begins t c.in_ok-walk_catches.ensures.0
    (more_answers ⊤ (HasMany (open_counts begins)) many t _ (λ m. subst HasMany (sym all) (many_right (open_counts caught) (open_counts begins) m))
    (c.in_err-open_label.ensures.walks c.args.names.now))))

pub returns-clause-walks : goal.returns-clause-walks
returns-clause-walks c =
    let x = c.args.table.now in
    let blocks = c.args.labels.now in
    let d = site_demand (scope_of c.args.names.now) in
    let typed = c.in_ok-walk_block_type.ensures in
    let named = c.in_ok-walk_catches.ensures in
    let opened = c.in_ok-open_label.ensures.walks c.args.names.now in
    let begins = Begins blocks (mark_of_option x.block.label) ∷ [] in
    let caught = flat_map (in_catch blocks) x.catches in (
      both_met d (in_use OfBlock x.block.ty) (caught ++ begins) typed.0 (both_met d caught begins named.0 opened.0),
      λ i. record {
        block = typed.1 i;
        catches = named.1 i;
      },
    )

pub returns-clause-blocks : goal.returns-clause-blocks
returns-clause-blocks c l =
    let x = c.args.table.now in
    let s = c.args.labels.now in
    let h = context_of l s in
    let begins = Begins s (mark_of_option x.block.label) ∷ [] in
    let caught = flat_map (in_catch s) x.catches in
    let same = ap (λ (b : BlockType). b.label) (c.get.ensures ∙ c.in_ok-walk_block_type.ensures.1) in
    let stays : after_all h (caught ++ begins) ≡ after_all h begins = after-append h caught begins
    ∙ ap (λ (g : BodyContext). after_all g begins) (catches_stay h s x.catches) in
    c.in_ok-open_label.ensures.blocks l ∙ (ap (λ o. name_if (mark_of_option o) ∷ s) same ∙ sym (ap (λ (g : BodyContext). g.blocks) stays))
