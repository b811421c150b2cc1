-- Which kinds of fields can have items of an index space, or lists of names inside their items (text format: modules).
--
--   items of `func`: imports and functions          lists of labels: imports and functions
use Rattle.std.specs.Prelude.{Bool, ◌||◌}
use Rattle.wast_tree_nodes.specs.Kinds.{is_of}
use Rattle.wast_tree_nodes.specs.declared.kinds.FieldKind.{FieldKind}
use Rattle.wast_tree_nodes.specs.declared.kinds.FieldKind.TheVariants as kind
use Rattle.wast_core_name_section.specs.Tree.{Space, ModuleField}
use Rattle.wast_core_name_section.specs.Tree.space
use Rattle.wast_core_name_section.specs.declared.within.Within.{Within}
use Rattle.wast_core_name_section.specs.declared.within.Within.TheVariants as within

-- Whether a field is of either kind.
abbrev pub is_either : FieldKind → FieldKind → ModuleField → Bool
is_either k l f = is_of k f || is_of l f

-- Whether a field can have items of an index space.
abbrev pub has_items : Space → ModuleField → Bool
has_items space.Func f = is_either kind.Import kind.Func f
has_items space.Table f = is_either kind.Import kind.Table f
has_items space.Memory f = is_either kind.Import kind.Memory f
has_items space.Global f = is_either kind.Import kind.Global f
has_items space.Tag f = is_either kind.Import kind.Tag f
has_items space.Elem f = is_of kind.Elem f
has_items space.Data f = is_of kind.Data f
has_items space.Ty f = is_either kind.Ty kind.Rec f

-- Whether a field can have lists of names inside its items.
abbrev pub has_lists : Within → ModuleField → Bool
has_lists within.Locals f = is_either kind.Import kind.Func f
has_lists within.Labels f = is_either kind.Import kind.Func f
has_lists within.Fields f = is_either kind.Ty kind.Rec f
has_lists within.Parameters f = is_either kind.Ty kind.Rec f
has_lists within.TagParameters f = is_either kind.Import kind.Tag f
