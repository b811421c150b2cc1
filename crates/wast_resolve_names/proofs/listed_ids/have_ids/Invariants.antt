use Rattle.std.proofs.Common.{◌≡◌, map, drop}
use Rattle.std.specs.Prelude.{is_some}
use Rattle.std.specs.List.{list_any}
use Rattle.wast_base.specs.Spaces.{name_if}
use Rattle.wast_resolve_names.proofs.listed_ids.have_ids.Given as goal

abbrev pub invariant-loop-item : goal.invariant-loop-item
invariant-loop-item g l =
    list_any is_some (map (λ x. name_if (g.T.HasId.mark x)) (drop l.item-index l.items)) ≡ list_any is_some (map (λ x. name_if (g.T.HasId.mark x)) l.items)
