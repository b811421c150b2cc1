use Rattle.std.proofs.Common.{◌∙◌, ap}
use Rattle.wasm_ops.specs.Control.{block_type}
use Rattle.wast_tree_nodes.specs.Sites.{OfBlock, in_use}
use Rattle.wast_core_conv.specs.Encodable.{are_resolved}
use Rattle.wast_core_conv.specs.Meaning as meaning
use Rattle.wast_core_conv.proofs.Ready.{sites_resolved}
use Rattle.wast_core_conv.proofs.TypesReady.{block_covered}
use Rattle.wast_core_conv.proofs.instr_values.put_block.Goals as goal

pub block_type-requires : goal.block_type-requires
block_type-requires g c = ap (λ b. are_resolved (in_use OfBlock b.ty)) c.get.ensures ∙ sites_resolved (in_use OfBlock c.args.block.now.ty) c.requires

pub encode-requires : goal.encode-requires
encode-requires g c = ap (λ x. (block_type x).is_covered) (c.block_type.ensures ∙ ap meaning.as_block_type c.get.ensures)
    ∙ block_covered c.args.block.now c.requires
