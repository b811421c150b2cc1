use Rattle.std.proofs.Common.{◌≡◌, None, ap, subst, ◌∙◌}
use Rattle.std.proofs.lemmas.Result.{err_from_is_err_and}
use Rattle.wast_base.specs.Faults.{diagnostic_of}
use Rattle.wast_tree_map.specs.Mapped.{mapped_block}
use Rattle.wast_tree_nodes.specs.Sites.{OfBlock, in_use}
use Rattle.wast_resolve_passes.specs.Tree.{BlockType}
use Rattle.wast_resolve_rules.specs.Demands.{first_unmet, site_demands, Answers}
use Rattle.wast_resolve_rules.specs.Resolved.{numbering_change}
use Rattle.wast_resolve_names.specs.Resolvers.{scope_of}
use Rattle.wast_resolve_passes.proofs.instrs.walk_block_type.Goals as goal

pub returns-in_err-walk_body_type : goal.returns-in_err-walk_body_type
returns-in_err-walk_body_type c =
    let s = scope_of c.args.names.now in
    let t = diagnostic_of c.in_err-walk_body_type.field-0.0 in
    let p = err_from_is_err_and c.from_residual.result c.from_residual.ensures.1 in
    rw (p.1, p.2) (subst (λ (b : BlockType). Answers ⊥ ⊥ t (first_unmet (site_demands s (in_use OfBlock b.ty)))) c.get_mut.ensures.value
    c.in_err-walk_body_type.ensures.block)

pub returns : goal.returns
returns c =
    let s = scope_of c.args.names.now in
    let b = c.get_mut.result.now in
    let typed = c.in_ok-walk_body_type.ensures.block in
    let becomes : record b { ty = c.walk_body_type.new.ty } ≡ mapped_block (numbering_change s) b = λ i. record b { ty = typed.1 i } in (
      subst (λ (b : BlockType). first_unmet (site_demands s (in_use OfBlock b.ty)) ≡ None) c.get_mut.ensures.value typed.0,
      becomes
          ∙ ap (mapped_block (numbering_change s)) c.get_mut.ensures.value,
    )
