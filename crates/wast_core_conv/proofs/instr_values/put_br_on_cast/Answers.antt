use Rattle.std.proofs.Common.{ap, ◌∙◌}
use Rattle.wast_tree_nodes.specs.Sites.{in_cast, constant_context}
use Rattle.wast_core_conv.specs.Encodable.{encodable}
use Rattle.wast_core_conv.proofs.instr_values.put_br_on_cast.Goals as goal

pub put_br_cast-requires : goal.put_br_cast-requires
put_br_cast-requires g c = ap (λ arg. encodable (in_cast constant_context.blocks arg.label arg.to_type arg.from_type)) c.get-arg.ensures ∙ c.requires
