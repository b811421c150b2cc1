-- The theorems of maps over module fields, each as one proposition.
--
-- A theorem holds for every change, or for those that keep ids or rename them. Passes cite these, so that none of
-- them needs a proof that goes through the tree.
--
--   all_mapped f [(start $f)]  =  [(start 0)]      if f replaces the index $f by 0
use Rattle.std.specs.Prelude.{◌≡◌, Option, List, map}
use Rattle.wast_base.specs.Ids.{mark_of_option}
use Rattle.wast_tree_nodes.specs.Items.{items}
use Rattle.wast_tree_nodes.specs.Sites.{in_module}
use Rattle.wast_tree_nodes.specs.WrittenOut.{is_written_out}
use Rattle.wast_tree_map.specs.Tree.{Id, ModuleField}
use Rattle.wast_tree_map.specs.Mapped.{Change, no_change, compose, mapped_field, mapped_site, KeepsMarks, Joins, AreJoint, Each}
use Rattle.wast_tree_map.specs.Named.{Naming, renamed_mark, renamed_item, named_site, RenamesIds, NamedJoins, AreNamedJoint}

-- A list of fields, each mapped.
abbrev pub all_mapped : Change → List ModuleField → List ModuleField
all_mapped f fields = map (mapped_field f) fields

-- The sites of the mapped fields are the mapped sites, if the change keeps the ids within items.
abbrev pub StandsMapped : Type 0
StandsMapped = (f : Change) → KeepsMarks f → (fields : List ModuleField) → in_module (all_mapped f fields) ≡ map (mapped_site f) (in_module fields)

-- The map that changes nothing keeps the fields.
abbrev pub StaysStill : Type 0
StaysStill = (fields : List ModuleField) → all_mapped no_change fields ≡ fields

-- Two maps one after another are a third map, if they agree with it at each site and id, and the first keeps the ids
-- within items.
abbrev pub MapsJoin : Type 0
MapsJoin = (h g f : Change) → AreJoint h g f → (fields : List ModuleField) → Each (Joins h g f) (in_module fields) → all_mapped g (all_mapped h fields) ≡ all_mapped f fields

-- Two maps one after another are their composition, if the first keeps the ids within items.
abbrev pub MapsTwice : Type 0
MapsTwice = (h g : Change) → KeepsMarks h → (fields : List ModuleField) → all_mapped g (all_mapped h fields) ≡ all_mapped (compose h g) fields

-- Maps that are equal at each site and at each id have the same result.
abbrev pub MapsAlike : Type 0
MapsAlike = (f g : Change) → ((o : Option Id) → f.id o ≡ g.id o) → ((o : Option Id) → f.own o ≡ g.own o) → (fields : List ModuleField) → Each (Joins no_change f g) (in_module fields) → all_mapped f fields ≡ all_mapped g fields

-- The mapped fields are desugared if and only if the fields are.
abbrev pub StaysWrittenOut : Type 0
StaysWrittenOut = (f : Change) (fields : List ModuleField) → is_written_out (all_mapped f fields) ≡ is_written_out fields

-- The change keeps the id of each item, and its position.
abbrev pub KeepsItems : Change → Type 0
KeepsItems f = (o : Option Id) → mark_of_option (f.id o) ≡ mark_of_option o

-- Then the items are the same, if the ids within them are kept too.
abbrev pub ItemsStay : Type 0
ItemsStay = (f : Change) → KeepsItems f → KeepsMarks f → (fields : List ModuleField) → items (all_mapped f fields) ≡ items fields

-- The sites of fields whose ids are renamed are the renamed and mapped sites.
abbrev pub StandsNamed : Type 0
StandsNamed = (n : Naming) (f : Change) → RenamesIds n f → (fields : List ModuleField) → in_module (all_mapped f fields) ≡ map (named_site n f) (in_module fields)

-- Two maps one after another are a third map, if they agree with it at each site and id, and the first one renames
-- ids.
abbrev pub MapsJoinNamed : Type 0
MapsJoinNamed = (n : Naming) (h g f : Change) → AreNamedJoint n h g f → (fields : List ModuleField) → Each (NamedJoins n h g f) (in_module fields) → all_mapped g (all_mapped h fields) ≡ all_mapped f fields

-- The change renames the id of each item.
abbrev pub NamesItems : Naming → Change → Type 0
NamesItems n f = (o : Option Id) → mark_of_option (f.id o) ≡ renamed_mark n (mark_of_option o)

-- Then the items are those of the fields, renamed.
abbrev pub ItemsNamed : Type 0
ItemsNamed = (n : Naming) (f : Change) → NamesItems n f → RenamesIds n f → (fields : List ModuleField) → items (all_mapped f fields) ≡ map (renamed_item n) (items fields)
