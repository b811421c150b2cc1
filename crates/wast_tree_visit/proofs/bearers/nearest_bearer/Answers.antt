use Rattle.wast_base.specs.Ids.{name_of}
use Rattle.wast_tree_visit.specs.Private.IdOwners.{bears}
use Rattle.wast_tree_visit.proofs.Places.{any_aside}
use Rattle.wast_tree_visit.proofs.bearers.nearest_bearer.Goals as goal

pub outward-init : goal.outward-init
outward-init g c = any_aside g.T.HasItems.items c.args.fields.now (bears c.args.space (name_of c.args.id.now)) c.args.start
