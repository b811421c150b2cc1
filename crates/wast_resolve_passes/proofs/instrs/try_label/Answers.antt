use Rattle.wast_resolve_names.specs.Resolvers.{scope_of}
use Rattle.wast_resolve_passes.proofs.Tries.{label_tried}
use Rattle.wast_resolve_passes.proofs.instrs.try_label.Goals as goal

pub returns : goal.returns
returns c names =
    label_tried (scope_of names) c.args.labels.now c.args.label.now c.try_number.new.idx c.try_number.result c.try_number.ensures.met
    c.try_number.ensures.index c.try_number.ensures.stays
