-- The search for an item by its id: the items before and after a position, and whether an item has the id.
--
-- A position is a field and an item of it. The steps to the end and to the start show that the search ends.
use Rattle.std.specs.Prelude.{Bool, ℕ, ◌&&◌, ◌+◌, ◌-◌, List, ◌++◌, length, take, drop, flat_map}
use Rattle.std.specs.List.{list_any}
use Rattle.wast_base.specs.Ids.{Name}
use Rattle.wast_base.specs.Spaces.{same_space, is_called, name_if}
use Rattle.wast_tree_visit.specs.Tree.{Space}
use Rattle.wast_tree_visit.specs.declared.bearers.Place.{Place}
use Rattle.wast_tree_nodes.specs.Items.{Item}

-- whether an item is of the space and has this name
abbrev pub bears : Space → Name → Item → Bool
bears s name x = same_space s x.space && is_called name (name_if x.id)

-- the same for the item at an index; false if there is none
abbrev pub bears_at : Space → Name → List Item → ℕ → Bool
bears_at s name xs i = list_any (bears s name) (take 1 (drop i xs))

-- the items of the field at an index, or none if there is no such field
abbrev pub items_at : {T : Type 0} → (T → List Item) → List T → ℕ → List Item
items_at items fields i = flat_map items (take 1 (drop i fields))

-- the items after a position
abbrev pub items_behind : {T : Type 0} → (T → List Item) → List T → Place → List Item
items_behind items fields place = drop place.item (items_at items fields place.field) ++ flat_map items (drop (place.field + 1) fields)

-- the items before a position
abbrev pub items_before : {T : Type 0} → (T → List Item) → List T → Place → List Item
items_before items fields place = flat_map items (take place.field fields) ++ take place.item (items_at items fields place.field)

-- the greatest number of steps from a position to the end
abbrev pub steps_on : {T : Type 0} → (T → List Item) → List T → Place → ℕ
steps_on items fields place = length (items_behind items fields place) + (length fields - place.field)

-- the greatest number of steps from a position to the start
abbrev pub steps_back : {T : Type 0} → (T → List Item) → List T → Place → ℕ
steps_back items fields place = place.item + (length (flat_map items (take place.field fields)) + place.field)
