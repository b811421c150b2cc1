use Rattle.std.proofs.Common.{map}
use Rattle.std.proofs.lemmas.Result.{err_from_is_err_and}
use Rattle.wast_resolve_names.specs.Resolvers.{read_shape}
use Rattle.wast_resolve_rules.specs.Scopes.{shapes_in}
use Rattle.wast_resolve_spaces.specs.Shaping.{types_demands, types_fields}
use Rattle.wast_resolve_spaces.proofs.Shaping.{next_met, next_read, many_next, refused_more}
use Rattle.wast_resolve_spaces.proofs.shapes.type_shapes.Goals as goal

pub add_field-requires : goal.add_field-requires
add_field-requires c = (next_met c.args.fields.now c.loop-field.field-index c.field-item.result c.loop-field-test.true c.field-item.is types_demands
    c.loop-field.invariant.1).0

pub returns-in_err-add_field-clause-refusal : goal.returns-in_err-add_field-clause-refusal
returns-in_err-add_field-clause-refusal c =
    let p = err_from_is_err_and c.from_residual.result c.from_residual.ensures.1 in
    rw (p.1, p.2) (refused_more c.in_err-add_field.field-0.0 (many_next c.args.fields.now c.loop-field.field-index c.field-item.result
    c.loop-field-test.true c.field-item.is types_fields) c.in_err-add_field.ensures.refusal)

pub loop-field-preserved : goal.loop-field-preserved
loop-field-preserved c = (
  next_read c.args.fields.now c.loop-field.field-index c.field-item.result c.loop-field-test.true c.field-item.is shapes_in
      (map read_shape c.add_field.new.read.items) (map read_shape c.loop-field.read.items) _ c.in_ok-add_field.ensures.ok c.loop-field.invariant.0,
  (next_met c.args.fields.now c.loop-field.field-index c.field-item.result c.loop-field-test.true c.field-item.is types_demands c.loop-field.invariant.1).1,
)
