use Rattle.std.proofs.Common.{map}
use Rattle.std.proofs.lemmas.Result.{err_from_is_err_and}
use Rattle.wast_resolve_names.specs.Resolvers.{read_shape}
use Rattle.wast_resolve_rules.specs.Scopes.{shape_of}
use Rattle.wast_resolve_spaces.specs.Shaping.{type_demands, type_fields}
use Rattle.wast_resolve_spaces.proofs.Shaping.{next_met, next_one, many_here, refused_more}
use Rattle.wast_resolve_spaces.proofs.shapes.add_types.Goals as goal

pub add_type-requires : goal.add_type-requires
add_type-requires c = (next_met c.args.types.now c.loop-ty.ty-index c.ty-item.result c.loop-ty-test.true c.ty-item.is type_demands c.loop-ty.invariant.1).0

pub returns-in_err-add_type-clause-refusal : goal.returns-in_err-add_type-clause-refusal
returns-in_err-add_type-clause-refusal c =
    let p = err_from_is_err_and c.from_residual.result c.from_residual.ensures.1 in
    rw (p.1, p.2) (refused_more c.in_err-add_type.field-0.0 (many_here c.args.types.now c.loop-ty.ty-index c.ty-item.result c.loop-ty-test.true
    c.ty-item.is type_fields) c.in_err-add_type.ensures.refusal)

pub loop-ty-preserved : goal.loop-ty-preserved
loop-ty-preserved c = (
  next_one c.args.types.now c.loop-ty.ty-index c.ty-item.result c.loop-ty-test.true c.ty-item.is (λ t. shape_of t.def.kind)
      (map read_shape c.add_type.new.read.items) (map read_shape c.loop-ty.read.items) _ c.in_ok-add_type.ensures.ok c.loop-ty.invariant.0,
  (next_met c.args.types.now c.loop-ty.ty-index c.ty-item.result c.loop-ty-test.true c.ty-item.is type_demands c.loop-ty.invariant.1).1,
)
