use Rattle.std.proofs.Common.{◌∙◌, ap}
use Rattle.std.specs.List.{list_all}
use Rattle.wasm_ops.specs.Control.{block_type}
use Rattle.wast_tree_nodes.specs.Sites.{OfBlock, in_use}
use Rattle.wast_core_conv.specs.Encodable.{is_encodable_catch, are_resolved}
use Rattle.wast_core_conv.specs.Meaning as meaning
use Rattle.wast_core_conv.proofs.EachPasses.{both_true}
use Rattle.wast_core_conv.proofs.Ready.{sites_resolved}
use Rattle.wast_core_conv.proofs.Spelled.{catches_written}
use Rattle.wast_core_conv.proofs.Standing.{try_table_parts}
use Rattle.wast_core_conv.proofs.TypesReady.{block_covered}
use Rattle.wast_core_conv.proofs.instr_values.put_try_table.Goals as goal

pub block_type-requires : goal.block_type-requires
block_type-requires g c =
    ap (λ b. are_resolved (in_use OfBlock b.ty)) c.get.ensures
    ∙ sites_resolved (in_use OfBlock c.args.table.now.block.ty) (try_table_parts c.args.table.now c.requires).0

pub encode-requires : goal.encode-requires
encode-requires g c =
    let parts = try_table_parts c.args.table.now c.requires in
    both_true _ _ (ap (λ x. (block_type x).is_covered) (c.block_type.ensures ∙ ap meaning.as_block_type c.get.ensures)
    ∙ block_covered c.args.table.now.block parts.0)
    (ap (list_all is_encodable_catch) c.as_slice.ensures ∙ parts.1)

pub returns : goal.returns
returns g c =
    rw (← c.get.ensures, ← c.block_type.ensures)
    (catches_written g.S.Sink.rules c.args.out.now c.encode.new.out c.block_type.result c.as_slice.result.now c.args.table.now.catches
    c.encode.result c.as_slice.ensures c.encode.ensures)
