use Rattle.wasm_ops.specs.Spelling.{name, InRangeName}
use Rattle.wasm_out.specs.Producers.{producer_value}
use Rattle.wast_core_conv.specs.Customs.{as_producer_value}
use Rattle.wast_core_conv.proofs.CustomsSpelled.{all_ready, listed_behind}
use Rattle.wast_core_conv.proofs.custom_values.ResolvedEncodeWithTuple2RefStrSeqTuple2RefStrRefStr.spell.Goals as goal

pub encode-requires : goal.encode-requires
encode-requires g c = all_ready c.as_slice.result.now

pub returns : goal.returns
returns g c =
    let text = c.args.field.now.0.now in
    listed_behind g.S.Sink.rules c.args.out.now c.encode.new.out (name text) (InRangeName text) (λ x. (producer_value x).bytes)
    (λ x. (producer_value x).in_range) as_producer_value c.as_slice.result.now c.args.field.now.1 c.encode.result c.as_slice.ensures c.encode.ensures
