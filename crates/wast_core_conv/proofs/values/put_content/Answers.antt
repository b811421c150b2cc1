use Rattle.std.proofs.Common.{◌&&◌}
use Rattle.wast_tree_nodes.specs.Sites.{in_local}
use Rattle.wast_core_conv.specs.Encodable.{are_encodable}
use Rattle.wast_core_conv.specs.Meaning as meaning
use Rattle.wast_core_conv.proofs.EachPasses.{both_true, each_then}
use Rattle.wast_core_conv.proofs.Spelled.{body_written, and_true}
use Rattle.wasm_ops.specs.Spelling.{val_type}
use Rattle.wast_core_conv.proofs.TypesReady.{local_covered}
use Rattle.wast_core_conv.proofs.values.put_content.Goals as goal

pub encode-requires : goal.encode-requires
encode-requires g c =
    both_true _ _
    (each_then (λ l. are_encodable (in_local l)) (λ l. are_encodable (in_local l) && (val_type (meaning.as_val_type l.ty)).is_covered)
    (λ l h. both_true _ _ h (local_covered l h)) c.args.locals.now c.requires.locals)
    (and_true _ c.requires.instrs)

pub returns : goal.returns
returns g c = body_written g.S.Sink.rules c.args.out.now c.encode.new.out c.args.locals.now c.args.instructions.now c.encode.result c.encode.ensures
