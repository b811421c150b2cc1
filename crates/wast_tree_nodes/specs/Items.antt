-- The items of a module, in the order in which they are numbered (text format: modules).
--
-- An item has an index space, an id if it has one, and for a struct type the ids of its fields. The index of an item is its
-- position among the items of its index space.
--
--   (import "a" "b" (func $f)) (rec (type $t (func)) (type $s (struct (field $x i32)))) (func $g)
--
-- has the items: function $f; type $t; type $s with the field $x; function $g. So $g is function 1 and $s is type 1.
use Rattle.std.specs.Prelude.{List, [], ◌∷◌, Option, map, flat_map}
use Rattle.wast_tree_nodes.specs.Tree.{Id, Space, StructField, InnerTypeKind, ItemKind, ItemSig, ImportItems, ModuleField}
use Rattle.wast_tree_nodes.specs.Tree.space
use Rattle.wast_tree_nodes.specs.Tree.inner
use Rattle.wast_tree_nodes.specs.Tree.ty
use Rattle.wast_tree_nodes.specs.Tree.import_items
use Rattle.wast_tree_nodes.specs.Tree.kind
use Rattle.wast_tree_nodes.specs.Profiles.{Defined, Nothing, Types, Imported, Lone, profile_of}
use Rattle.wast_base.specs.Ids.{Mark, mark_of_option}

-- an item: its index space, its id if it has one, and the ids of the fields of a struct type, in their order
pub record Item : Type 0 where
  pub space : Space
  pub id : Option Mark
  pub fields : List (Option Mark)

-- the ids of the fields of a struct
abbrev pub field_ids : List StructField → List (Option Mark)
field_ids fields = map (λ f. mark_of_option f.id) fields

-- the fields of a composite type, which only a struct type has
abbrev pub fields_of : InnerTypeKind → List StructField
fields_of (inner.Func t) = []
fields_of (inner.Struct t) = t.fields
fields_of (inner.Array t) = []
fields_of (inner.Cont t) = []

-- an item of an index space, from its id and its fields
abbrev pub item : Space → Option Id → List StructField → Item
item s id fields = record { space = s; id = mark_of_option id; fields = field_ids fields }

-- the item of a type definition
abbrev pub items_of_type : ty.«Type» → List Item
items_of_type t = item space.Ty t.id (fields_of t.def.kind) ∷ []

-- the index space of an imported item
abbrev pub space_of_kind : ItemKind → Space
space_of_kind (kind.Func u) = space.Func
space_of_kind (kind.FuncExact u) = space.Func
space_of_kind (kind.Table t) = space.Table
space_of_kind (kind.Memory t) = space.Memory
space_of_kind (kind.Global t) = space.Global
space_of_kind (kind.Tag t) = space.Tag

-- the item of an imported signature
abbrev pub item_of_sig : ItemSig → Item
item_of_sig sig = item (space_of_kind sig.kind) sig.id []

-- the items of an import, one for each name; if names share a signature, each item has its id
abbrev pub items_of_import : ImportItems → List Item
items_of_import (import_items.Single source name sig) = item_of_sig sig ∷ []
items_of_import (import_items.Group1 source items) = flat_map (λ p. item_of_sig p.1 ∷ []) items
items_of_import (import_items.Group2 source sig names) = flat_map (λ name. item_of_sig sig ∷ []) names

-- the items of a profile; each type of a group is an item
abbrev pub items_defined : Defined → List Item
items_defined Nothing = []
items_defined (Types ts) = flat_map items_of_type ts
items_defined (Imported i) = items_of_import i
items_defined (Lone a) = item a.space a.id [] ∷ []

-- the items of a field
abbrev pub items_in : ModuleField → List Item
items_in f = items_defined (profile_of f).items

-- the items of all fields, in order
abbrev pub items : List ModuleField → List Item
items fields = flat_map items_in fields
