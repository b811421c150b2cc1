-- The name section does not depend on generated ids, or on positions of type uses.
use Rattle.std.proofs.Common.{◌≡◌, List, [], ◌∷◌, ◌++◌, map, Option, Some, None, option_map, refl, ap, arith}
use Rattle.std.specs.Prelude.{cond}
use Rattle.std.specs.List.{flat_map}
use Rattle.std.proofs.lemmas.Grind.{common_steps}
use Rattle.wast_base.specs.Ids.{Name, Written, Generated, name_of, is_generated}
use Rattle.wast_tree_nodes.specs.Sites.{BodyContext, context_after, param_marks, local_marks, body_here}
use Rattle.wast_tree_map.specs.Mapped.{mapped_type, mapped_tag_type, mapped_item_kind, mapped_sig, mapped_import_items, mapped_instr}
use Rattle.wast_tree_map.specs.Mapped.{mapped_instrs, mapped_local, mapped_func_kind, mapped_func, mapped_field}
use Rattle.wast_tree_map.specs.Laws.{all_mapped}
use Rattle.wast_resolve_rules.specs.Stripped.{written_id, at_start, stripped_use, stripping}
use Rattle.wast_core.specs.Tree.{Id, Index, NameAnnotation, FunctionType, TypeUse, TagType, ItemKind, ImportItems, Instruction, FuncKind, Func, ModuleField}
use Rattle.wast_core.specs.Tree.index
use Rattle.wast_core.specs.Tree.space
use Rattle.wast_core.specs.Tree.ty
use Rattle.wast_core.specs.Tree.tag
use Rattle.wast_core.specs.Tree.kind
use Rattle.wast_core.specs.Tree.func
use Rattle.wast_core.specs.Tree.field
use Rattle.wast_core_name_section.specs.GivenNames.{written_text, id_text, given_name}
use Rattle.wast_core_name_section.specs.WithinItems as within
use Rattle.wast_core_name_section.specs.WithinItems.{arity, types_within, types_of, arity_at, params_or, local_name, locals_in, label_in}
use Rattle.wast_core_name_section.specs.WithinItems.{labels_in, locals_of, tag_params, lists_in_type}
use Rattle.wast_core_name_section.specs.ModuleNames.{type_name, import_names, item_names_in}
use Rattle.wast_core_name_section.proofs.Each.{each_like}
use Rattle.wast_core_name_section.proofs.SameNameSection.{SameLists, SameInKind, SameInImport, KeepsNames, arity_in, same_arity, in_type}
use Rattle.wast_core_name_section.proofs.SameNameSection.{in_func, in_tag, in_imported_func, names_imported, in_import}
use Rattle.wast_core.proofs.Fronts.{same_space_of, sigs_changed}
use Rattle.wast_core.proofs.Stripping.{def_stays}
use Rattle.wast_core.proofs.ToldTypes.{each_alike}

-- The names of items.
same_given : (name : Option NameAnnotation) (id : Option Id) → given_name name (written_id id) ≡ given_name name id
same_given (Some annotation) id = refl
same_given None None = refl
same_given None (Some id) = by_name (name_of id) refl
  where
    by_name : (q : Name) → name_of id ≡ q → id_text (cond (is_generated q) None (Some id)) ≡ written_text q
    by_name (Written text) h = ap written_text h
    by_name (Generated n) h = refl

same_types : (ts : List ty.«Type») → map type_name (map (mapped_type stripping) ts) ≡ map type_name ts
same_types ts = each_alike (mapped_type stripping) type_name (λ t i. (space.Ty, same_given t.name t.id i)) ts

same_imported : (x : ImportItems) → import_names (mapped_import_items stripping x) ≡ import_names x
same_imported x = names_imported (mapped_sig stripping) x (mapped_import_items stripping x) (sigs_changed stripping x)
    (λ s i. (same_space_of stripping s.kind i, same_given s.name s.id i))

same_names : (x : ModuleField) → item_names_in (mapped_field stripping x) ≡ item_names_in x
same_names x = grind (arith, common_steps, same_given, same_types, same_imported)

-- How many parameters the type at an index has.
same_arity_in : (t : ty.«Type») → arity_in (mapped_type stripping t) ≡ arity_in t
same_arity_in t = ap (λ d. arity d.kind) (def_stays t)

arities_in : (x : ModuleField) → map arity_in (types_within (mapped_field stripping x)) ≡ map arity_in (types_within x)
arities_in (field.Ty t) = ap (λ n. n ∷ []) (same_arity_in t)
arities_in (field.Rec r) = each_alike (mapped_type stripping) arity_in same_arity_in r.types
arities_in x = refl

arity_stays : (xs : List ModuleField) (i : Option Index) → arity_at (types_of (all_mapped stripping xs)) (option_map at_start i) ≡ arity_at (types_of xs) i
arity_stays xs None = refl
arity_stays xs (Some (index.Num n span)) = same_arity (mapped_field stripping) arities_in xs n
arity_stays xs (Some (index.Id id)) = refl

-- The names inside items.
names_inside : (u : TypeUse FunctionType) (k : FuncKind) → locals_in (mapped_func_kind stripping u k) ≡ locals_in k
names_inside u (func.Import import exact) = refl
names_inside u (func.Inline locals e) = each_alike (mapped_local stripping) local_name (λ l. refl) locals

same_locals : (xs : List ModuleField) (f : Func) → locals_of (types_of (all_mapped stripping xs)) (mapped_func stripping f) ≡ locals_of (types_of xs) f
same_locals xs f = λ i. within.params_then_locals (params_or (arity_stays xs f.ty.index i) f.ty.inline) (names_inside f.ty f.kind i)

same_label : (h : BodyContext) (i : Instruction) → label_in (mapped_instr stripping h i) ≡ label_in i
same_label h i = grind (arith, common_steps)

labels_inside : (h : BodyContext) (is : List Instruction) → flat_map label_in (mapped_instrs stripping h is) ≡ flat_map label_in is
labels_inside h [] = refl
labels_inside h (i ∷ is) = λ t. same_label h i t ++ labels_inside (context_after h i) is t

same_labels : (u : TypeUse FunctionType) (k : FuncKind) → labels_in (mapped_func_kind stripping u k) ≡ labels_in k
same_labels u (func.Import import exact) = refl
same_labels u (func.Inline locals e) = labels_inside (body_here u (param_marks u.inline ++ local_marks locals)) e.instrs

same_params : (t : TagType) → tag_params (mapped_tag_type stripping t) ≡ tag_params t
same_params (tag.Exception u) = refl

same_kind : (k : ItemKind) → SameInKind (mapped_item_kind stripping k) k
same_kind (kind.Func u) = λ w. in_imported_func w (stripped_use u) u refl
same_kind (kind.FuncExact u) = λ w. in_imported_func w (stripped_use u) u refl
same_kind k = λ w. refl

same_import : (x : ImportItems) → SameInImport (mapped_import_items stripping x) x
same_import x = in_import (mapped_sig stripping) x (mapped_import_items stripping x) (sigs_changed stripping x) (λ s. same_kind s.kind)

same_lists : (xs : List ModuleField) (x : ModuleField) → SameLists (all_mapped stripping xs) xs (mapped_field stripping x) x
same_lists xs (field.Ty t) = λ w. in_type w (mapped_type stripping t) t (def_stays t)
same_lists xs (field.Rec r) = λ w. each_like (mapped_type stripping) (lists_in_type w) (lists_in_type w)
    (λ t. in_type w (mapped_type stripping t) t (def_stays t)) r.types
same_lists xs (field.Import i) = same_import i.items
same_lists xs (field.Func f) = λ w. in_func w (types_of (all_mapped stripping xs)) (types_of xs) (mapped_func stripping f) f (same_locals xs f)
    (same_labels f.ty f.kind)
same_lists xs (field.Tag t) = λ w. in_tag w (mapped_tag_type stripping t.ty) t.ty (same_params t.ty)
same_lists xs x = λ w. refl

pub keeps_names : KeepsNames (mapped_field stripping)
keeps_names = record { items = same_names; lists = same_lists }
