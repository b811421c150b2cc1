use Rattle.std.proofs.Common.{List, Option, arith, subst, ◌∙◌}
use Rattle.wast_base.specs.Ids.{Name}
use Rattle.wast_base.specs.Spaces.{position_of}
use Rattle.wast_expand_keys.specs.Expanders.{Extends, numbers_in}
use Rattle.wast_expand_keys.specs.Expanded.{bindings_in}
use Rattle.wast_expand_types.proofs.Expanding.{extends_more}
use Rattle.wast_expand_types.proofs.expansion.bind_types.Goals as goal

pub loop-field-preserved : goal.loop-field-preserved
loop-field-preserved c =
    let at : List (Option Name) → _ = λ (names : List (Option Name)). Extends c.loop-field.cx.bound c.bind_type.new.cx.bound
    (bindings_in (λ name. position_of name names) c.field-item.result) in
    record {
      names = c.in_ok-bind_type.ensures.names ∙ c.loop-field.invariant.names;
      bound = extends_more (numbers_in c.args.cx.now) c.args.cx.now.bound c.loop-field.cx.bound c.bind_type.new.cx.bound c.args.fields.now
          c.loop-field.field-index c.field-item.result (omega arith) c.field-item.is c.loop-field.invariant.bound
          (subst at c.loop-field.invariant.names c.in_ok-bind_type.ensures.ok);
    }
