use Rattle.wast_core_conv.specs.Encodable.{is_encodable_ask}
use Rattle.wast_core_conv.proofs.EachPasses.{both_true}
use Rattle.wast_core_conv.proofs.Spelled.{function_written}
use Rattle.wast_core_conv.proofs.TypesReady.{signature_parts}
use Rattle.wast_core_conv.proofs.values.ResolvedEncodeWithFunctionType.spell.Goals as goal

pub encode-requires : goal.encode-requires
encode-requires g c = let parts = signature_parts is_encodable_ask c.args.ty.now c.requires
    in rw (c.as_slice.ensures, c.as_slice-2.ensures) (both_true _ _ parts.0 parts.1)

pub returns : goal.returns
returns g c = function_written g.S.Sink.rules c.args.out.now c.encode.new.out c.args.ty.now c.as_slice.result.now c.as_slice-2.result.now
    c.encode.result c.as_slice.ensures c.as_slice-2.ensures c.encode.ensures
