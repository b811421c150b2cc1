use Rattle.std.proofs.Common.{subst}
use Rattle.wast_tree_map.specs.Mapped.{mapped_indirect}
use Rattle.wast_tree_nodes.specs.Sites.{in_indirect}
use Rattle.wast_resolve_names.specs.Walking.{WalksBodies}
use Rattle.wast_resolve_passes.proofs.instrs.walk_boxed_call.Goals as goal

pub returns : goal.returns
returns c =
    subst (λ call. WalksBodies c.args.names.now in_indirect mapped_indirect call c.walk_indirect.new.call c.walk_indirect.result)
    c.get_mut.ensures.value c.walk_indirect.ensures
