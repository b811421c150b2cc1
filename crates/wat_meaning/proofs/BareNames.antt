-- The name section does not depend on addresses.
--
-- For example, `(func $f (param (@name "x") i32))` has the names "f" and "x", wherever the texts of `$f` and "x" are.
use Rattle.std.proofs.Common.{◌≡◌, ℕ, List, [], ◌∷◌, map, Option, Some, None, option_map, refl, ap, arith}
use Rattle.std.proofs.lemmas.Grind.{common_steps}
use Rattle.std.proofs.lemmas.List.{length-map}
use Rattle.wast_tree_nodes.specs.Items.{space_of_kind}
use Rattle.wast_tree_nodes.specs.Profiles.{Defined, Lone, profile_of}
use Rattle.wast_core_name_section.specs.GivenNames.{written_text, given_name}
use Rattle.wast_core_name_section.specs.ModuleNames.{type_name, import_names, names_defined, item_names_in}
use Rattle.wast_core_name_section.specs.WithinItems.{arity, param_name, field_name, local_name, label_name, label_in, types_within}
use Rattle.wast_core_name_section.specs.WithinItems.{types_of, arity_at, params_or, params_if, params_then_locals, locals_in, locals_of}
use Rattle.wast_core_name_section.specs.WithinItems.{labels_in, tag_params, field_names_of, param_names_of, lists_in_type}
use Rattle.wast_core_name_section.proofs.Each.{each_like}
use Rattle.wast_core_name_section.proofs.SameNameSection.{SameLists, SameInKind, SameInImport, KeepsNames, arity_in, same_arity, in_func}
use Rattle.wast_core_name_section.proofs.SameNameSection.{in_tag, in_imported_func, names_imported, in_import}
use Rattle.wast_core.proofs.ToldTypes.{each_alike}
use Rattle.wat_syntax.specs.Tree.{Id, Index, NameAnnotation, ValType, FunctionType, InnerTypeKind, BlockType, Instruction, TagType}
use Rattle.wat_syntax.specs.Tree.{ItemKind, ImportItems, FuncKind, Func, ModuleField}
use Rattle.wat_syntax.specs.Tree.index
use Rattle.wat_syntax.specs.Tree.space
use Rattle.wat_syntax.specs.Tree.inner
use Rattle.wat_syntax.specs.Tree.ty
use Rattle.wat_syntax.specs.Tree.instr
use Rattle.wat_syntax.specs.Tree.tag
use Rattle.wat_syntax.specs.Tree.kind
use Rattle.wat_syntax.specs.Tree.func
use Rattle.wat_syntax.specs.Tree.field
use Rattle.wat_syntax.specs.Bare.{bare_id_option, bare_index_option, bare_name_option, bare_param, bare_function_type, bare_type_use}
use Rattle.wat_syntax.specs.Bare.{bare_struct_field, bare_composite, bare_type, bare_tag_type}
use Rattle.wat_syntax.specs.BareInstructions.{bare_block, bare_instr}
use Rattle.wat_syntax.specs.BareFields.{bare_item_kind, bare_item_sig, bare_import_items, bare_local, bare_func_kind, bare_func, bare_field, bare_fields}
use Rattle.wat_ready.proofs.Erased.{name_kept}
use Rattle.wat_meaning.proofs.ShownItems.{sigs_bare}

-- the name of an item
given_same : (name : Option NameAnnotation) (id : Option Id) → given_name (bare_name_option name) (bare_id_option id) ≡ given_name name id
given_same (Some annotation) id = refl
given_same None None = refl
given_same None (Some id) = ap written_text (name_kept id.name)

type_same : (t : ty.«Type») → type_name (bare_type t) ≡ type_name t
type_same t = λ i. (space.Ty, given_same t.name t.id i)

space_same : (k : ItemKind) → space_of_kind (bare_item_kind k) ≡ space_of_kind k
space_same (kind.Func u) = refl
space_same x = refl

imported_same : (x : ImportItems) → import_names (bare_import_items x) ≡ import_names x
imported_same x =
    names_imported bare_item_sig x (bare_import_items x) (sigs_bare x) (λ s i. (space_same s.kind i, given_same s.name s.id i))

-- A field that defines one item defines the same one, apart from addresses.
abbrev lone_bare : Defined → Defined
lone_bare (Lone a) = Lone (record a { id = bare_id_option a.id; name = bare_name_option a.name })
lone_bare d = d

lone_same : (d : Defined) → names_defined (lone_bare d) ≡ names_defined d
lone_same (Lone a) = λ i. (a.space, given_same a.name a.id i) ∷ []
lone_same d = refl

names_same : (x : ModuleField) → item_names_in (bare_field x) ≡ item_names_in x
names_same (field.Ty t) = λ i. type_same t i ∷ []
names_same (field.Rec r) = each_alike bare_type type_name type_same r.types
names_same (field.Import x) = imported_same x.items
names_same x = lone_same (profile_of x).items

-- the number of parameters of the type at an index
arity_same : (k : InnerTypeKind) → arity (bare_composite k) ≡ arity k
arity_same (inner.Func t) = ap Some (length-map t.params bare_param)
arity_same x = refl

arities_in : (x : ModuleField) → map arity_in (types_within (bare_field x)) ≡ map arity_in (types_within x)
arities_in (field.Ty t) = λ i. arity_same t.def.kind i ∷ []
arities_in (field.Rec r) = each_alike bare_type arity_in (λ t. arity_same t.def.kind) r.types
arities_in x = refl

arity_stays : (xs : List ModuleField) (i : Option Index)
    → arity_at (types_of (bare_fields xs)) (bare_index_option i) ≡ arity_at (types_of xs) i
arity_stays xs None = refl
arity_stays xs (Some (index.Num n span)) = same_arity bare_field arities_in xs n
arity_stays xs (Some (index.Id id)) = refl

-- parameters and fields
params_same : (ps : List (Option Id × Option NameAnnotation × ValType)) → map param_name (map bare_param ps) ≡ map param_name ps
params_same ps = each_alike bare_param param_name (λ p. given_same p.1 p.0) ps

fields_named : (k : InnerTypeKind) → field_names_of (bare_composite k) ≡ field_names_of k
fields_named (inner.Struct t) = each_alike bare_struct_field field_name (λ f. given_same f.name f.id) t.fields
fields_named x = refl

params_named : (k : InnerTypeKind) → param_names_of (bare_composite k) ≡ param_names_of k
params_named (inner.Func t) = params_same t.params
params_named x = refl

in_type : (xs : List ModuleField) (t : ty.«Type») → SameLists (bare_fields xs) xs (field.Ty (bare_type t)) (field.Ty t)
in_type xs t w = grind (arith, common_steps, fields_named, params_named)

-- locals and labels of functions
params_stay : (arity other : Option ℕ) (t : Option FunctionType) → other ≡ arity
    → params_or other (option_map bare_function_type t) ≡ params_or arity t
params_stay arity other None same = ap (λ (n : Option ℕ). params_or n None) same
params_stay arity other (Some t) same = ap Some (params_same t.params)

locals_named : (k : FuncKind) → locals_in (bare_func_kind k) ≡ locals_in k
locals_named (func.Import source exact) = refl
locals_named (func.Inline locals e) = each_alike bare_local local_name (λ l. given_same l.name l.id) locals

locals_same : (xs : List ModuleField) (f : Func) → locals_of (types_of (bare_fields xs)) (bare_func f) ≡ locals_of (types_of xs) f
locals_same xs f =
    let old = arity_at (types_of xs) f.ty.index in
    let new = arity_at (types_of (bare_fields xs)) (bare_index_option f.ty.index) in
    λ i. params_then_locals (params_stay old new f.ty.inline (arity_stays xs f.ty.index) i) (locals_named f.kind i)

label_same : (b : BlockType) → label_name (bare_block b) ≡ label_name b
label_same b = given_same b.label_name b.label

label_kept : (i : Instruction) → label_in (bare_instr i) ≡ label_in i
label_kept (instr.block b) = λ t. label_same b t ∷ []
label_kept (instr.loop_ b) = λ t. label_same b t ∷ []
label_kept (instr.if_ b) = λ t. label_same b t ∷ []
label_kept (instr.try_ b) = λ t. label_same b t ∷ []
label_kept (instr.try_table x) = λ t. label_same x.block t ∷ []
label_kept i = refl

labels_same : (k : FuncKind) → labels_in (bare_func_kind k) ≡ labels_in k
labels_same (func.Import source exact) = refl
labels_same (func.Inline locals e) = each_like bare_instr label_in label_in label_kept e.instrs

-- type uses of tags and imports
inline_same : (t : Option FunctionType) → params_if (option_map bare_function_type t) ≡ params_if t
inline_same None = refl
inline_same (Some t) = params_same t.params

tag_same : (t : TagType) → tag_params (bare_tag_type t) ≡ tag_params t
tag_same (tag.Exception u) = inline_same u.inline

kind_same : (k : ItemKind) → SameInKind (bare_item_kind k) k
kind_same (kind.Func u) = λ w. in_imported_func w (bare_type_use u) u (inline_same u.inline)
kind_same (kind.FuncExact u) = λ w. in_imported_func w (bare_type_use u) u (inline_same u.inline)
kind_same x = λ w. refl

import_same : (x : ImportItems) → SameInImport (bare_import_items x) x
import_same x = in_import bare_item_sig x (bare_import_items x) (sigs_bare x) (λ s. kind_same s.kind)

-- all lists of a field
lists_same : (xs : List ModuleField) (x : ModuleField) → SameLists (bare_fields xs) xs (bare_field x) x
lists_same xs (field.Ty t) = in_type xs t
lists_same xs (field.Rec r) = λ w. each_like bare_type (lists_in_type w) (lists_in_type w) (λ t. in_type xs t w) r.types
lists_same xs (field.Import x) = import_same x.items
lists_same xs (field.Func f) =
    λ w. in_func w (types_of (bare_fields xs)) (types_of xs) (bare_func f) f (locals_same xs f) (labels_same f.kind)
lists_same xs (field.Tag t) = λ w. in_tag w (bare_tag_type t.ty) t.ty (tag_same t.ty)
lists_same xs x = λ w. refl

pub keeps_names : KeepsNames bare_field
keeps_names = record { items = names_same; lists = lists_same }
