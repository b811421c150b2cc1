-- The names of custom sections, and their positions in the binary module (text format: custom annotations).
--
--   (@custom "a" (before code) "x")      name "a", position `Before Code`, rank 12
--   (@producers ..)                      name "producers", position `AfterLast`, rank 1
use Rattle.std.specs.Prelude.{ℕ, ◌+◌, ◌==◌, Bool, false, List, [], ◌∷◌, ◌++◌, map, codes, if◌then◌else◌}
use Rattle.std.specs.List.{flat_map}
use Rattle.std.specs.Str.{bytes_eq}
use Rattle.wast_tree_nodes.specs.Tree.{Custom, CustomPlace, CustomPlaceAnchor, Dylink0Subsection, ModuleField}
use Rattle.wast_tree_nodes.specs.Tree.anchor
use Rattle.wast_tree_nodes.specs.Tree.custom
use Rattle.wast_tree_nodes.specs.Tree.custom_place as at
use Rattle.wast_tree_nodes.specs.Tree.field
use Rattle.wast_tree_nodes.specs.Tree.dylink

-- the name of a section
abbrev pub custom_name : Custom → List ℕ
custom_name (custom.Raw section) = section.name.now
custom_name (custom.Producers producers) = codes "producers"
custom_name (custom.Dylink0 info) = codes "dylink.0"

-- the position of a section in the binary module: `producers` is last and `dylink.0` first
abbrev pub custom_place : Custom → CustomPlace
custom_place (custom.Raw section) = section.place
custom_place (custom.Producers producers) = at.AfterLast
custom_place (custom.Dylink0 info) = at.BeforeFirst

-- the number of a subsection of dylink.0
abbrev pub subsection_id : Dylink0Subsection → ℕ
subsection_id (dylink.MemInfo memory_size memory_align table_size table_align) = 1
subsection_id (dylink.Needed names) = 2
subsection_id (dylink.ExportInfo flags) = 3
subsection_id (dylink.ImportInfo flags) = 4
subsection_id (dylink.RuntimePath names) = 5
subsection_id (dylink.TargetArch name) = 6

-- the number of a section that a custom section can be before or after
abbrev pub anchor_rank : CustomPlaceAnchor → ℕ
anchor_rank anchor.Ty = 0
anchor_rank anchor.Import = 1
anchor_rank anchor.Func = 2
anchor_rank anchor.Table = 3
anchor_rank anchor.Memory = 4
anchor_rank anchor.Tag = 5
anchor_rank anchor.Global = 6
anchor_rank anchor.Export = 7
anchor_rank anchor.Start = 8
anchor_rank anchor.Elem = 9
anchor_rank anchor.Code = 10
anchor_rank anchor.Data = 11

-- all of these sections, in the order of their numbers
abbrev pub anchors : List CustomPlaceAnchor
anchors =
    anchor.Ty ∷ anchor.Import ∷ anchor.Func ∷ anchor.Table ∷ anchor.Memory ∷ anchor.Tag ∷ anchor.Global ∷ anchor.Export
    ∷ anchor.Start ∷ anchor.Elem ∷ anchor.Code ∷ anchor.Data ∷ []

-- the number of a position
abbrev pub place_rank : CustomPlace → ℕ
place_rank at.BeforeFirst = 0
place_rank at.AfterLast = 1
place_rank (at.Before a) = 2 + anchor_rank a
place_rank (at.After a) = 14 + anchor_rank a

-- all positions, in the order of their numbers
abbrev pub places : List CustomPlace
places = at.BeforeFirst ∷ at.AfterLast ∷ (map at.Before anchors ++ map at.After anchors)

-- whether a custom section has this position
abbrev pub stands_at : CustomPlace → Custom → Bool
stands_at place c = place_rank place == place_rank (custom_place c)

-- the custom section of a field, if it has this position
abbrev pub customs_in : CustomPlace → ModuleField → List Custom
customs_in place (field.Custom c) = if stands_at place c then c ∷ [] else []
customs_in place x = []

-- the custom sections with this position, in source order
abbrev pub customs_at : CustomPlace → List ModuleField → List Custom
customs_at place fields = flat_map (customs_in place) fields

-- whether a field is a custom section of this name
abbrev pub is_custom_called : List ℕ → ModuleField → Bool
is_custom_called text (field.Custom c) = bytes_eq (custom_name c) text
is_custom_called text x = false
