-- Computes the example of `Worked`.
use Rattle.std.proofs.Common.{refl}
use Rattle.wast_base.specs.Blocks.{stays_open}
use Rattle.wast_resolve_labels.specs.Worked.{ThreeAreOpen, LabelsThere, EndsThere}

pub three_are_open : ThreeAreOpen
unfolding stays_open
three_are_open = (refl, refl, refl)

pub labels_there : LabelsThere
labels_there = (refl, refl, refl, refl)

pub ends_there : EndsThere
ends_there = (refl, refl, refl, refl, refl)
