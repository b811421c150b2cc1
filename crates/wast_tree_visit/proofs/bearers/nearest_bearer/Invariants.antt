use Rattle.std.proofs.Common.{◌≡◌, ◌||◌, ◌+◌}
use Rattle.std.specs.List.{list_any, flat_map}
use Rattle.wast_base.specs.Ids.{name_of}
use Rattle.wast_tree_visit.specs.Private.IdOwners.{bears, items_behind, items_before, steps_on, steps_back}
use Rattle.wast_tree_visit.proofs.bearers.nearest_bearer.Given as goal

abbrev pub invariant-outward : goal.invariant-outward
invariant-outward g l =
    let p = bears l.space (name_of l.id) in let items = g.T.HasItems.items in
    (list_any p (items_before items l.fields l.back) || list_any p (items_behind items l.fields l.on)) ≡ list_any p (flat_map items l.fields)

abbrev pub decreases-outward : goal.decreases-outward
decreases-outward g l = steps_on g.T.HasItems.items l.fields l.on + steps_back g.T.HasItems.items l.fields l.back
