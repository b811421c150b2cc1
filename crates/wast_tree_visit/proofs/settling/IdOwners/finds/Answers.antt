use Rattle.std.proofs.Common.{sym, ap, ◌∙◌}
use Rattle.std.specs.List.{flat_map, list_any}
use Rattle.wast_base.specs.Ids.{name_of}
use Rattle.wast_tree_nodes.proofs.Bearing.{borne_among}
use Rattle.wast_tree_visit.specs.Private.IdOwners.{bears}
use Rattle.wast_tree_visit.proofs.settling.IdOwners.finds.Goals as goal

pub returns-in-Some-clause-borne : goal.returns-in-Some-clause-borne
returns-in-Some-clause-borne g c =
    let name = name_of c.args.id.now in
    c.in-Some.ensures
    ∙ (ap (λ fs. list_any (bears c.args.space name) (flat_map g.T.HasItems.items fs.now)) c.start-start.ensures
    ∙ sym (borne_among c.args.space name (flat_map g.T.HasItems.items c.args.self.now.fields.now)))

pub returns-in-None-clause-borne : goal.returns-in-None-clause-borne
returns-in-None-clause-borne g c =
    let name = name_of c.args.id.now in
    c.in-None.ensures
    ∙ (ap (λ fs. list_any (bears c.args.space name) (flat_map g.T.HasItems.items fs.now)) c.start-start.ensures
    ∙ sym (borne_among c.args.space name (flat_map g.T.HasItems.items c.args.self.now.fields.now)))
