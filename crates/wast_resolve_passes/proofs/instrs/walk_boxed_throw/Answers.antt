use Rattle.std.proofs.Common.{subst}
use Rattle.std.specs.Prelude.{◌++◌}
use Rattle.wast_tree_map.specs.Mapped.{Change, mapped_handlers}
use Rattle.wast_tree_nodes.specs.Sites.{check_sites, in_handlers, in_pair}
use Rattle.wast_resolve_passes.specs.Tree.space
use Rattle.wast_resolve_names.specs.Walking.{WalksBodies}
use Rattle.wast_resolve_passes.proofs.instrs.walk_boxed_throw.Goals as goal

pub returns : goal.returns
returns c =
    let blocks = c.args.labels.now in
    subst (λ resume. WalksBodies c.args.names.now
    (λ a. check_sites (in_pair space.Ty a.type_index space.Tag a.tag_index) ++ in_handlers blocks a.table)
    (λ f a. record { type_index = f.index space.Ty a.type_index; tag_index = f.index space.Tag a.tag_index; table = mapped_handlers f blocks a.table })
    resume c.walk_resume_throw.new.resume c.walk_resume_throw.result)
    c.get_mut.ensures.value c.walk_resume_throw.ensures
