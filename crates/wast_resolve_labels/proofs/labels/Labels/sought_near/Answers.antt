use Rattle.std.proofs.Common.{◌∙◌, ap, sym}
use Rattle.wast_base.specs.Ids.{name_of}
use Rattle.wast_resolve_labels.specs.OpenBlocks.{label_depth}
use Rattle.wast_resolve_labels.proofs.Indexed.{found_nearest}
use Rattle.wast_resolve_labels.proofs.labels.Labels.sought_near.Goals as goal

pub returns : goal.returns
returns c =
    let own = c.self.inside in
    ap (label_depth (name_of c.args.id.now)) (sym c.self.view_is)
    ∙ found_nearest c.args.id.now own.«open».items c.as_slice-open.result.now c.split_at.result.1.now c.max-first.result
    c.as_slice-open.ensures.value c.split_at.ensures.back c.steps_back.result c.steps_back.ensures c.in_ok-steps.steps c.in_ok-steps.was
