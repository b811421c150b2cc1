-- Fields of other kinds have no items of an index space, no lists of names inside their items, and no types.
use Rattle.std.proofs.Common.{◌≡◌, true, false, List, [], ◌∷◌, map, refl, sym, arith}
use Rattle.std.specs.List.{flat_map}
use Rattle.wast_tree_nodes.specs.Imports.{item_sigs}
use Rattle.wast_tree_nodes.specs.Items.{space_of_kind}
use Rattle.wast_base.specs.Spaces.{same_space}
use Rattle.wast_core_ranges.specs.FieldRanges.{none_pass}
use Rattle.wast_tree_nodes.specs.declared.kinds.FieldKind.TheVariants as knd
use Rattle.wast_core_ranges.specs.declared.stretches.FieldRange.{FieldRange}
use Rattle.wast_core_ranges.proofs.Reaching.{all_there, reach_whole}
use Rattle.wast_core_name_section.specs.FieldsWithNames.{is_either, has_items, has_lists}
use Rattle.wast_core_name_section.specs.ModuleNames.{sig_name, given_name_in, names_given}
use Rattle.wast_core_name_section.specs.WithinItems.{types_within, lists_in_type, lists_in_kind, lists_in_sig, lists_within}
use Rattle.wast_core_name_section.specs.Tree.{Space, ItemKind, ItemSig, ModuleField}
use Rattle.wast_core_name_section.specs.Tree.space
use Rattle.wast_core_name_section.specs.Tree.ty
use Rattle.wast_core_name_section.specs.Tree.kind
use Rattle.wast_core_name_section.specs.Tree.field
use Rattle.wast_core_name_section.specs.declared.within.Within.{Within}
use Rattle.wast_core_name_section.specs.declared.within.Within.TheVariants as within
use Rattle.wast_core_name_section.proofs.NameMaps.{other_space}

-- If no kind of imported items is in an index space, no signature has an item of it.
none_imported : (s : Space) → ((k : ItemKind) → same_space s (space_of_kind k) ≡ false) → (sigs : List ItemSig)
    → flat_map (given_name_in s) (map sig_name sigs) ≡ []
none_imported s other [] = refl
none_imported s other (sig ∷ sigs) = rw (other sig.kind) (none_imported s other sigs)

-- Segments and types are not imported.
no_elem : (k : ItemKind) → same_space space.Elem (space_of_kind k) ≡ false
no_elem (kind.Func u) = refl
no_elem k = refl

no_data : (k : ItemKind) → same_space space.Data (space_of_kind k) ≡ false
no_data (kind.Func u) = refl
no_data k = refl

no_type : (k : ItemKind) → same_space space.Ty (space_of_kind k) ≡ false
no_type (kind.Func u) = refl
no_type k = refl

pub no_items_elsewhere : (s : Space) (f : ModuleField) → has_items s f ≡ false → names_given s f ≡ []
no_items_elsewhere space.Func (field.Import i) h = cc
no_items_elsewhere space.Func (field.Func x) h = cc
no_items_elsewhere space.Func (field.Rec r) h = other_space space.Func r.types refl
no_items_elsewhere space.Table (field.Import i) h = cc
no_items_elsewhere space.Table (field.Table x) h = cc
no_items_elsewhere space.Table (field.Rec r) h = other_space space.Table r.types refl
no_items_elsewhere space.Memory (field.Import i) h = cc
no_items_elsewhere space.Memory (field.Memory x) h = cc
no_items_elsewhere space.Memory (field.Rec r) h = other_space space.Memory r.types refl
no_items_elsewhere space.Global (field.Import i) h = cc
no_items_elsewhere space.Global (field.Global x) h = cc
no_items_elsewhere space.Global (field.Rec r) h = other_space space.Global r.types refl
no_items_elsewhere space.Tag (field.Import i) h = cc
no_items_elsewhere space.Tag (field.Tag x) h = cc
no_items_elsewhere space.Tag (field.Rec r) h = other_space space.Tag r.types refl
no_items_elsewhere space.Elem (field.Import i) h = none_imported space.Elem no_elem (item_sigs i.items)
no_items_elsewhere space.Elem (field.Elem x) h = cc
no_items_elsewhere space.Elem (field.Rec r) h = other_space space.Elem r.types refl
no_items_elsewhere space.Data (field.Import i) h = none_imported space.Data no_data (item_sigs i.items)
no_items_elsewhere space.Data (field.Data x) h = cc
no_items_elsewhere space.Data (field.Rec r) h = other_space space.Data r.types refl
no_items_elsewhere space.Ty (field.Import i) h = none_imported space.Ty no_type (item_sigs i.items)
no_items_elsewhere space.Ty (field.Ty t) h = cc
no_items_elsewhere space.Ty (field.Rec r) h = cc
no_items_elsewhere s f h = refl

-- Types have no locals, no labels, and no parameters of tags.
no_locals_in : (types : List ty.«Type») → flat_map (lists_in_type within.Locals) types ≡ []
no_locals_in [] = refl
no_locals_in (t ∷ types) = no_locals_in types

no_labels_in : (types : List ty.«Type») → flat_map (lists_in_type within.Labels) types ≡ []
no_labels_in [] = refl
no_labels_in (t ∷ types) = no_labels_in types

no_tag_params_in : (types : List ty.«Type») → flat_map (lists_in_type within.TagParameters) types ≡ []
no_tag_params_in [] = refl
no_tag_params_in (t ∷ types) = no_tag_params_in types

-- Imported items have no fields of structs, and no parameters of types.
no_fields_in : (k : ItemKind) → lists_in_kind within.Fields k ≡ []
no_fields_in (kind.Func u) = refl
no_fields_in k = refl

no_params_in : (k : ItemKind) → lists_in_kind within.Parameters k ≡ []
no_params_in (kind.Func u) = refl
no_params_in k = refl

no_lists_imported : (w : Within) → ((k : ItemKind) → lists_in_kind w k ≡ []) → (sigs : List ItemSig) → flat_map (lists_in_sig w) sigs ≡ []
no_lists_imported w none [] = refl
no_lists_imported w none (sig ∷ sigs) = rw (none sig.kind) (no_lists_imported w none sigs)

pub no_lists_elsewhere : (types : List ty.«Type») (w : Within) (f : ModuleField) → has_lists w f ≡ false → lists_within types w f ≡ []
no_lists_elsewhere types within.Locals (field.Import i) h = cc
no_lists_elsewhere types within.Locals (field.Func x) h = cc
no_lists_elsewhere types within.Locals (field.Rec r) h = no_locals_in r.types
no_lists_elsewhere types within.Labels (field.Import i) h = cc
no_lists_elsewhere types within.Labels (field.Func x) h = cc
no_lists_elsewhere types within.Labels (field.Rec r) h = no_labels_in r.types
no_lists_elsewhere types within.Fields (field.Ty t) h = cc
no_lists_elsewhere types within.Fields (field.Rec r) h = cc
no_lists_elsewhere types within.Fields (field.Import i) h = no_lists_imported within.Fields no_fields_in (item_sigs i.items)
no_lists_elsewhere types within.Parameters (field.Ty t) h = cc
no_lists_elsewhere types within.Parameters (field.Rec r) h = cc
no_lists_elsewhere types within.Parameters (field.Import i) h = no_lists_imported within.Parameters no_params_in (item_sigs i.items)
no_lists_elsewhere types within.TagParameters (field.Import i) h = cc
no_lists_elsewhere types within.TagParameters (field.Tag t) h = cc
no_lists_elsewhere types within.TagParameters (field.Rec r) h = no_tag_params_in r.types
no_lists_elsewhere types w f h = refl

-- Fields of other kinds have no types.
no_types_elsewhere : (f : ModuleField) → is_either knd.Ty knd.Rec f ≡ false → types_within f ≡ []
no_types_elsewhere (field.Ty t) h = cc
no_types_elsewhere (field.Rec r) h = cc
no_types_elsewhere f h = refl

-- A list of such fields has none.
pub no_types : (fields : List ModuleField) → none_pass (is_either knd.Ty knd.Rec) fields ≡ true → flat_map types_within fields ≡ []
no_types fields h =
    let none : FieldRange = record { first = 0; end = 0 } in
    sym (all_there types_within (is_either knd.Ty knd.Rec) fields none no_types_elsewhere
    (reach_whole (is_either knd.Ty knd.Rec) fields none record { ordered = omega arith; inside = omega arith; before = refl; behind = h }))
