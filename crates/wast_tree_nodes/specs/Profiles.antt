-- The profile of a field: its kind, its position and the items that it defines (text format: modules).
--
-- All definitions that need one of these read it here, so that a new field states them once, in a line of `profile_of`.
--
--   (func $f (import "a" "b"))     kind `Func`, the position of `func`, one item: a function $f, imported
--   (start 3)                      kind `Start`, the position of 3, no item
use Rattle.std.specs.Prelude.{Bool, true, false, List, [], ◌∷◌, Option, Some, None}
use Rattle.wast_base.specs.Ids.{span_of_index}
use Rattle.wast_tree_nodes.specs.Tree.{Span, Id, NameAnnotation, Space, ImportItems, FuncKind, TableKind, MemoryKind, GlobalKind, TagKind, Custom, ModuleField}
use Rattle.wast_tree_nodes.specs.Tree.space
use Rattle.wast_tree_nodes.specs.Tree.ty
use Rattle.wast_tree_nodes.specs.Tree.func
use Rattle.wast_tree_nodes.specs.Tree.table
use Rattle.wast_tree_nodes.specs.Tree.memory
use Rattle.wast_tree_nodes.specs.Tree.global
use Rattle.wast_tree_nodes.specs.Tree.tag_kind
use Rattle.wast_tree_nodes.specs.Tree.custom
use Rattle.wast_tree_nodes.specs.Tree.field
use Rattle.wast_tree_nodes.specs.Customs.{custom_place}
use Rattle.wast_tree_nodes.specs.declared.kinds.FieldKind.{FieldKind}
use Rattle.wast_tree_nodes.specs.declared.kinds.FieldKind.TheVariants as kind
use Rattle.wast_tree_nodes.specs.declared.profiles.LoneItem.{LoneItem}
use Rattle.wast_tree_nodes.specs.declared.profiles.FieldItems.{FieldItems}
use Rattle.wast_tree_nodes.specs.declared.profiles.FieldItems.TheVariants as from
use Rattle.wast_tree_nodes.specs.declared.profiles.FieldProfile.{FieldProfile}

-- The item of a field that defines exactly one: its index space, its id, its name annotation, and whether it has an inline
-- import. A segment cannot be imported, so it has None there. `(func $f (import "a" "b"))` has Func, $f, None, Some true.
pub record Alone : Type 0 where
  pub space : Space
  pub id : Option Id
  pub name : Option NameAnnotation
  pub imported : Option Bool

-- the items that a field defines
pub data Defined : Type 0 where
  -- no item, as for an export
  Nothing : Defined
  -- one type, or the types of a group
  Types : List ty.«Type» → Defined
  -- imported items
  Imported : ImportItems → Defined
  -- one item
  Lone : Alone → Defined

-- a profile
pub record Profile : Type 0 where
  pub kind : FieldKind
  pub span : Span
  pub items : Defined

-- whether a function has an inline import
abbrev pub is_imported_func : FuncKind → Bool
is_imported_func (func.Import source exact) = true
is_imported_func (func.Inline locals e) = false

-- whether a table has one
abbrev pub is_imported_table : TableKind → Bool
is_imported_table (table.Import source ty) = true
is_imported_table (table.Normal ty init) = false
is_imported_table (table.Inline ty is64 shared elements) = false

-- whether a memory has one
abbrev pub is_imported_memory : MemoryKind → Bool
is_imported_memory (memory.Import source ty) = true
is_imported_memory (memory.Normal ty) = false
is_imported_memory (memory.Inline is64 pieces exponent) = false

-- whether a global has one
abbrev pub is_imported_global : GlobalKind → Bool
is_imported_global (global.Import source) = true
is_imported_global (global.Inline e) = false

-- whether a tag has one
abbrev pub is_imported_tag : TagKind → Bool
is_imported_tag (tag_kind.Import source) = true
is_imported_tag tag_kind.Inline = false

-- the position of a custom section in the source; 0 for `producers` and `dylink.0`, because the AST has none of these
abbrev pub custom_span : Custom → Span
custom_span (custom.Raw section) = section.span
custom_span (custom.Producers producers) = record { offset = 0 }
custom_span (custom.Dylink0 info) = record { offset = 0 }

-- a profile of its parts
abbrev pub profile : FieldKind → Span → Defined → Profile
profile k span items = record { kind = k; span = span; items = items }

-- the profile of a field that defines one item
abbrev pub lone : FieldKind → Span → Space → Option Id → Option NameAnnotation → Option Bool → Profile
lone k span s id name imported = profile k span (Lone (record { space = s; id = id; name = name; imported = imported }))

-- the profile of a field
abbrev pub profile_of : ModuleField → Profile
profile_of (field.Ty t) = profile kind.Ty t.span (Types (t ∷ []))
profile_of (field.Rec r) = profile kind.Rec r.span (Types r.types)
profile_of (field.Import i) = profile kind.Import i.span (Imported i.items)
profile_of (field.Func f) = lone kind.Func f.span space.Func f.id f.name (Some (is_imported_func f.kind))
profile_of (field.Table t) = lone kind.Table t.span space.Table t.id t.name (Some (is_imported_table t.kind))
profile_of (field.Memory m) = lone kind.Memory m.span space.Memory m.id m.name (Some (is_imported_memory m.kind))
profile_of (field.Global g) = lone kind.Global g.span space.Global g.id g.name (Some (is_imported_global g.kind))
profile_of (field.Export e) = profile kind.Export e.span Nothing
profile_of (field.Start i) = profile kind.Start (span_of_index i) Nothing
profile_of (field.Elem e) = lone kind.Elem e.span space.Elem e.id e.name None
profile_of (field.Data d) = lone kind.Data d.span space.Data d.id d.name None
profile_of (field.Tag t) = lone kind.Tag t.span space.Tag t.id t.name (Some (is_imported_tag t.kind))
profile_of (field.Custom c) = profile (kind.Custom (custom_place c)) (custom_span c) Nothing

-- the item that the code's `LoneItem` refers to
abbrev pub alone_read : LoneItem → Alone
alone_read item = record { space = item.space; id = item.id.now; name = item.name.now; imported = item.imported }

-- the items that the code's `FieldItems` refers to
abbrev pub items_read : FieldItems → Defined
items_read from.Nothing = Nothing
items_read (from.Type t) = Types (t.now ∷ [])
items_read (from.Types ts) = Types ts.now
items_read (from.Imported i) = Imported i.now
items_read (from.Lone item) = Lone (alone_read item)

-- the profile that the code's `FieldProfile` refers to
abbrev pub profile_read : FieldProfile → Profile
profile_read p = profile p.kind p.span (items_read p.items)
