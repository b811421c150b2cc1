use Rattle.std.proofs.Common.{ap, ◌∙◌}
use Rattle.wast_expand_keys.specs.Expanders.{Bound, numbers_in}
use Rattle.wast_expand_keys.proofs.AsWritten.{stays_as_written}
use Rattle.wast_resolve_rules.specs.Scopes.{Function}
use Rattle.wast_resolve_spaces.proofs.shapes.func_shape.Goals as goal

pub returns-clause-shape : goal.returns-clause-shape
returns-clause-shape c =
    c.of_func.ensures
    ∙ ap Function (c.in_ok-key.ensures.key
    ∙ stays_as_written (numbers_in c.new-cx.result) (λ q. ap (λ (cx : Bound). numbers_in cx q) c.new-cx.ensures) c.args.ty.now)
