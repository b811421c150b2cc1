-- Proves the examples of specs/Worked by computing them.
use Rattle.std.proofs.Common.{refl}
use Rattle.wast_base.specs.Worked.{PlacesInTwoLines, NamesInOrder}

pub places_in_two_lines : PlacesInTwoLines
places_in_two_lines = (refl, refl, refl, refl, refl, refl, refl, refl)

pub names_in_order : NamesInOrder
names_in_order = (refl, refl, refl, refl, refl, refl, refl)
