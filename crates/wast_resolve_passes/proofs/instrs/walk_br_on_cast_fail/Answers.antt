use Rattle.std.proofs.Common.{subst}
use Rattle.wast_resolve_names.specs.Walking.{WalksCast}
use Rattle.wast_resolve_passes.proofs.instrs.walk_br_on_cast_fail.Goals as goal

pub returns : goal.returns
returns c =
    subst (λ arg. WalksCast c.args.names.now c.args.labels.now (arg.label, (arg.to_type, arg.from_type))
    (c.walk_cast.new.label, (c.walk_cast.new.to, c.walk_cast.new.from)) c.walk_cast.result)
    c.get_mut-arg.ensures.value c.walk_cast.ensures
