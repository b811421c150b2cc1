use Rattle.std.proofs.Common.{◌≡◌, ◌++◌, map, drop}
use Rattle.wast_base.specs.Spaces.{name_if}
use Rattle.wast_resolve_names.proofs.listed_ids.gather_each.Given as goal

abbrev pub invariant-loop-item : goal.invariant-loop-item
invariant-loop-item g l = l.gathering ++ map (λ x. name_if (g.T.HasId.mark x)) (drop l.item-index l.items) ≡ l.fn.gathering ++ map
    (λ x. name_if (g.T.HasId.mark x)) l.items
