use Rattle.std.proofs.Common.{arith}
use Rattle.wast_base.specs.Ids.{name_of}
use Rattle.wast_tree_visit.specs.Private.IdOwners.{bears}
use Rattle.wast_tree_visit.proofs.Places.{stepped_on, stepped_out, nearer_on}
use Rattle.wast_tree_visit.proofs.bearers.step_on.Goals as goal

pub returns-then-place-saturating_sub-clause-borne : goal.returns-then-place-saturating_sub-clause-borne
returns-then-place-saturating_sub-clause-borne g c =
    stepped_on g.T.HasItems.items c.args.fields.now
    (bears c.args.space (name_of c.args.id.now)) c.args.place.field c.args.place.item c.look_at-look.result.found c.look_at-look.ensures.found

pub returns-else-place-saturating_sub-clause-borne : goal.returns-else-place-saturating_sub-clause-borne
returns-else-place-saturating_sub-clause-borne g c =
    stepped_out g.T.HasItems.items c.args.fields.now
    (bears c.args.space (name_of c.args.id.now)) c.args.place.field c.args.place.item c.look_at-look.result.found
    (omega (arith, c.if-place-saturating_sub.false, c.saturating_sub.ensures, c.look_at-look.ensures.items)) c.look_at-look.ensures.found

pub returns-else-place-saturating_sub-clause-nearer : goal.returns-else-place-saturating_sub-clause-nearer
returns-else-place-saturating_sub-clause-nearer g c =
    nearer_on g.T.HasItems.items c.args.fields.now c.args.place.field c.args.place.item (omega (arith, c.if-place-fields.false))
    (omega (arith, c.if-place-saturating_sub.false, c.saturating_sub.ensures, c.look_at-look.ensures.items))
