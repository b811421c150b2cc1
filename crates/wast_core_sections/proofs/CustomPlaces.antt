-- A custom section has one position.
use Rattle.std.proofs.Common.{◌≡◌, [], ◌∷◌, refl}
use Rattle.std.specs.List.{filter}
use Rattle.wast_tree_nodes.specs.Customs.{custom_place}
use Rattle.wast_core_sections.specs.Tree.{CustomPlace, CustomPlaceAnchor}
use Rattle.wast_core_sections.specs.Tree.anchor
use Rattle.wast_core_sections.specs.Tree.custom_place as at
use Rattle.wast_core_sections.specs.declared.slots.Slot.TheVariants as slot
use Rattle.wast_core_sections.specs.Slots.{order, is_place, CustomsStandOnce}

before_once : (a : CustomPlaceAnchor) → filter (is_place (at.Before a)) order ≡ slot.Custom (at.Before a) ∷ []
before_once anchor.Ty = refl
before_once a = refl

after_once : (a : CustomPlaceAnchor) → filter (is_place (at.After a)) order ≡ slot.Custom (at.After a) ∷ []
after_once anchor.Ty = refl
after_once a = refl

place_once : (p : CustomPlace) → filter (is_place p) order ≡ slot.Custom p ∷ []
place_once at.BeforeFirst = refl
place_once at.AfterLast = refl
place_once (at.Before a) = before_once a
place_once (at.After a) = after_once a

pub customs_stand_once : CustomsStandOnce
customs_stand_once c = place_once (custom_place c)
