use Rattle.std.proofs.Common.{◌∙◌, ap}
use Rattle.std.specs.List.{list_all}
use Rattle.wast_core_conv.specs.Encodable.{is_encodable_instr}
use Rattle.wast_core_conv.proofs.Expressions.{expression_written}
use Rattle.wast_core_conv.proofs.Spelled.{and_true}
use Rattle.wast_core_conv.proofs.Standing.{ready_instrs}
use Rattle.wast_core_conv.proofs.field_values.ResolvedEncodeWithExpression.spell.Goals as goal

pub encode-requires : goal.encode-requires
encode-requires g c = and_true _ (ap (list_all is_encodable_instr) c.as_slice.ensures ∙ ready_instrs c.args.expression.now c.requires)

pub returns : goal.returns
returns g c = expression_written g.S.Sink.rules c.args.out.now c.encode.new.out c.as_slice.result.now c.args.expression.now.instrs c.encode.result
    c.as_slice.ensures c.encode.ensures
