use Rattle.std.proofs.Common.{ap, ◌∙◌}
use Rattle.wast_tree_nodes.specs.Sites.{in_indirect}
use Rattle.wast_core_conv.specs.Encodable.{encodable}
use Rattle.wast_core_conv.proofs.instr_values.put_boxed_call.Goals as goal

pub put_indirect-requires : goal.put_indirect-requires
put_indirect-requires g c = ap (λ call. encodable (in_indirect call)) c.get.ensures ∙ c.requires
