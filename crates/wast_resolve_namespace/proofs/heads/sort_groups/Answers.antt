use Rattle.std.proofs.Common.{◌∙◌, refl, arith}
use Rattle.std.proofs.lemmas.List.Sorted.{IsPermutation-trans}
use Rattle.wast_resolve_namespace.proofs.heads.sort_groups.Goals as goal

pub groups-init : goal.groups-init
groups-init c = record { same = refl; permutation = c.sort_by_head.ensures }

pub groups-preserved : goal.groups-preserved
groups-preserved c = record {
  same = c.sort_next-after.auto.headed ∙ c.groups.invariant.same;
  permutation = IsPermutation-trans _ _ _ c.groups.invariant.permutation c.sort_next-after.ensures.permutation;
}

pub groups-smaller : goal.groups-smaller
groups-smaller c = omega (arith, c.sort_next-after.ensures.progress, c.sort_next-after.ensures.within, c.groups.invariant.same)
