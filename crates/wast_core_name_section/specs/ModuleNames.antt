-- The subsections of the name section: the names of the module, of the items of each index space, and of things inside
-- items (custom sections: name section).
--
-- A subsection without entries is left out, as the `wast` crate does.
--
--   (module $m (func $f (param $x i32)))     module "m"; functions: 0 "f"; locals: 0: 0 "x"
use Rattle.std.specs.Prelude.{ℕ, List, [], ◌∷◌, ◌++◌, Option, Some, None, All, map, if◌then◌else◌}
use Rattle.std.specs.List.{flat_map}
use Rattle.wast_base.specs.Spaces.{same_space}
use Rattle.wast_tree_nodes.specs.Items.{space_of_kind}
use Rattle.wast_tree_nodes.specs.Imports.{item_sigs}
use Rattle.wast_tree_nodes.specs.Profiles.{Defined, Nothing, Types, Imported, Lone, profile_of}
use Rattle.wast_core_name_section.specs.Tree.{Space, ItemSig, ImportItems, ModuleField}
use Rattle.wast_core_name_section.specs.Tree.space
use Rattle.wast_core_name_section.specs.Tree.ty
use Rattle.wast_core_name_section.specs.declared.within.Within.{Within}
use Rattle.wast_core_name_section.specs.declared.within.Within.TheVariants as within
use Rattle.wast_core_name_section.specs.declared.names_payload.NameMap.{NameMap}
use Rattle.wast_core_name_section.specs.declared.names_payload.NameMap.TheVariants as map_of
use Rattle.wast_core_name_section.specs.GivenNames.{given_name, named_from}
use Rattle.wast_core_name_section.specs.WithinItems.{types_of, lists_within}
use Rattle.wasm_out.specs.NameSectionBytes.{Named, One, Direct, Indirect, NameSubsection, name_subsection}
use Rattle.wasm_out.specs.NameSectionBytes as named

-- A type, with its name.
abbrev pub type_name : ty.«Type» → Space × Option (List ℕ)
type_name t = (space.Ty, given_name t.name t.id)

-- An imported item, with its index space and its name.
abbrev pub sig_name : ItemSig → Space × Option (List ℕ)
sig_name sig = (space_of_kind sig.kind, given_name sig.name sig.id)

-- The names of imported items. Items that share a signature all have its name.
abbrev pub import_names : ImportItems → List (Space × Option (List ℕ))
import_names i = map sig_name (item_sigs i)

-- The names of the items that a field defines, each with its index space.
abbrev pub names_defined : Defined → List (Space × Option (List ℕ))
names_defined Nothing = []
names_defined (Types ts) = map type_name ts
names_defined (Imported i) = import_names i
names_defined (Lone a) = (a.space, given_name a.name a.id) ∷ []

-- The same for a field.
abbrev pub item_names_in : ModuleField → List (Space × Option (List ℕ))
item_names_in f = names_defined (profile_of f).items

-- The name of an item, if it is in the index space.
abbrev pub given_name_in : Space → Space × Option (List ℕ) → List (Option (List ℕ))
given_name_in s p = if same_space s p.0 then p.1 ∷ [] else []

-- The names of the items of an index space in a field.
abbrev pub names_given : Space → ModuleField → List (Option (List ℕ))
names_given s f = flat_map (given_name_in s) (item_names_in f)

-- The items of an index space that have a name, by their indices.
abbrev pub named_items : Space → List ModuleField → List (ℕ × List ℕ)
named_items s fields = named_from 0 (flat_map (names_given s) fields)

-- A subsection with one name map. Without entries there is no subsection.
abbrev pub direct : Named → List (ℕ × List ℕ) → List NameSubsection
direct of [] = []
direct of (e ∷ es) = record { of = of; content = Direct (e ∷ es) } ∷ []

-- The kind of the subsection of an index space.
abbrev pub named_of : Space → Named
named_of space.Func = named.Functions
named_of space.Table = named.Tables
named_of space.Memory = named.Memories
named_of space.Global = named.Globals
named_of space.Tag = named.Tags
named_of space.Elem = named.Elements
named_of space.Data = named.DataSegments
named_of space.Ty = named.Types

-- A subsection with a name map for each item. Without entries there is no subsection.
abbrev pub indirect : Named → List (ℕ × List (ℕ × List ℕ)) → List NameSubsection
indirect of [] = []
indirect of (e ∷ es) = record { of = of; content = Indirect (e ∷ es) } ∷ []

-- The kind of the subsection of a kind of list inside items.
abbrev pub named_within : Within → Named
named_within within.Locals = named.Locals
named_within within.Labels = named.Labels
named_within within.Fields = named.Fields
named_within within.Parameters = named.Parameters
named_within within.TagParameters = named.TagParameters

-- The items that have names inside, by their indices.
abbrev pub named_lists : Within → List ModuleField → List (ℕ × List (ℕ × List ℕ))
named_lists w fields = named_from 0 (flat_map (lists_within (types_of fields) w) fields)

-- The subsection of one name map.
abbrev pub map_names : List ModuleField → NameMap → List NameSubsection
map_names fields (map_of.Items s) = direct (named_of s) (named_items s fields)
map_names fields (map_of.Within w) = indirect (named_within w) (named_lists w fields)

-- The subsection of the name of the module, if it has one.
abbrev pub module_name : Option (List ℕ) → List NameSubsection
module_name None = []
module_name (Some text) = record { of = named.Whole; content = One text } ∷ []

-- The name maps, in the order of their subsections.
abbrev pub name_maps : List NameMap
name_maps =
    map_of.Items space.Func
    ∷ map_of.Within within.Locals
    ∷ map_of.Within within.Labels
    ∷ map_of.Items space.Ty
    ∷ map_of.Items space.Table
    ∷ map_of.Items space.Memory
    ∷ map_of.Items space.Global
    ∷ map_of.Items space.Elem
    ∷ map_of.Items space.Data
    ∷ map_of.Within within.Fields
    ∷ map_of.Items space.Tag
    ∷ map_of.Within within.Parameters
    ∷ map_of.Within within.TagParameters
    ∷ []

-- The subsections of a module with this name and these fields.
abbrev pub name_subsections : Option (List ℕ) → List ModuleField → List NameSubsection
name_subsections text fields = module_name text ++ flat_map (map_names fields) name_maps

-- Whether the numbers, counts and lengths of the subsections are in range.
abbrev pub InRangeNames : Option (List ℕ) → List ModuleField → Type 0
InRangeNames text fields = All (λ x. (name_subsection x).in_range) (name_subsections text fields)
