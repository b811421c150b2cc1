-- The names inside items: locals and labels of functions, fields of structs, parameters of function types and of tags
-- (custom sections, name section: indirect name maps).
--
-- Locals are numbered after the parameters. So the number of parameters is looked up if a function has no inline type.
-- If its type index has no function type, no local has a name.
--
--   (type (func (param i32))) (func (type 0) (local $l i64))     the local has index 1 and the name "l"
use Rattle.std.specs.Prelude.{ℕ, List, [], ◌∷◌, ◌++◌, length, map, replicate, Option, Some, None, option_map, slice_get}
use Rattle.std.specs.List.{flat_map}
use Rattle.wast_core_name_section.specs.Tree.{Id, Index, NameAnnotation, ValType, StructField, FunctionType, TypeUse, InnerTypeKind, BlockType, Instruction, Local, FuncKind, Func, TagType, ItemKind, ItemSig, ImportItems, ModuleField}
use Rattle.wast_core_name_section.specs.Tree.index
use Rattle.wast_core_name_section.specs.Tree.inner
use Rattle.wast_core_name_section.specs.Tree.ty
use Rattle.wast_core_name_section.specs.Tree.func
use Rattle.wast_core_name_section.specs.Tree.tag
use Rattle.wast_core_name_section.specs.Tree.kind
use Rattle.wast_core_name_section.specs.Tree.field
use Rattle.wast_core_name_section.specs.declared.within.Within.{Within}
use Rattle.wast_core_name_section.specs.declared.within.Within.TheVariants as within
use Rattle.wast_tree_nodes.specs.Imports.{item_sigs}
use Rattle.wast_tree_nodes.specs.Instrs.{block_of}
use Rattle.wast_tree_nodes.specs.Types as own
use Rattle.wast_core_name_section.specs.GivenNames.{given_name, named_from}

-- The name of a parameter.
abbrev pub param_name : Option Id × Option NameAnnotation × ValType → Option (List ℕ)
param_name p = given_name p.1 p.0

-- The name of a struct field.
abbrev pub field_name : StructField → Option (List ℕ)
field_name f = given_name f.name f.id

-- The name of a local.
abbrev pub local_name : Local → Option (List ℕ)
local_name l = given_name l.name l.id

-- The name of the label of a block.
abbrev pub label_name : BlockType → Option (List ℕ)
label_name b = given_name b.label_name b.label

-- The label of a block, if there is a block.
abbrev pub label_if : Option BlockType → List (Option (List ℕ))
label_if None = []
label_if (Some b) = label_name b ∷ []

-- The label of the block that an instruction opens, if it opens one.
abbrev pub label_in : Instruction → List (Option (List ℕ))
label_in i = label_if (block_of i)

-- The names of the fields of a struct type.
abbrev pub field_names_of : InnerTypeKind → List (Option (List ℕ))
field_names_of (inner.Struct t) = map field_name t.fields
field_names_of k = []

-- The names of the parameters of a function type.
abbrev pub param_names_of : InnerTypeKind → List (Option (List ℕ))
param_names_of (inner.Func t) = map param_name t.params
param_names_of k = []

-- The number of parameters of a function type.
abbrev pub arity : InnerTypeKind → Option ℕ
arity (inner.Func t) = Some (length t.params)
arity k = None

-- The same for a type that may be missing.
abbrev pub arity_of : Option ty.«Type» → Option ℕ
arity_of None = None
arity_of (Some t) = arity t.def.kind

-- The types of a field, in the order of the type index space.
abbrev pub types_within : ModuleField → List ty.«Type»
types_within f = own.types_of f

-- The type index space of these fields.
abbrev pub types_of : List ModuleField → List ty.«Type»
types_of fields = flat_map types_within fields

-- The number of parameters of the function type at an index, if there is one.
abbrev pub arity_at : List ty.«Type» → Option Index → Option ℕ
arity_at types None = None
arity_at types (Some (index.Id id)) = None
arity_at types (Some (index.Num n span)) = arity_of (slice_get types n)

-- Parameters without names.
abbrev pub unnamed_list : ℕ → List (Option (List ℕ))
unnamed_list n = replicate n None

-- The names of the parameters of an inline type. Without one there are as many parameters without names as the function
-- type has.
abbrev pub params_or : Option ℕ → Option FunctionType → Option (List (Option (List ℕ)))
params_or arity (Some t) = Some (map param_name t.params)
params_or arity None = option_map unnamed_list arity

-- The names of the parameters of a type use.
abbrev pub params_used : List ty.«Type» → TypeUse FunctionType → Option (List (Option (List ℕ)))
params_used types u = params_or (arity_at types u.index) u.inline

-- The names of the locals of a function.
abbrev pub locals_in : FuncKind → List (Option (List ℕ))
locals_in (func.Import import exact) = []
locals_in (func.Inline locals e) = map local_name locals

-- Parameters and then locals. Without a function type there are none.
abbrev pub params_then_locals : Option (List (Option (List ℕ))) → List (Option (List ℕ)) → List (Option (List ℕ))
params_then_locals None locals = []
params_then_locals (Some params) locals = params ++ locals

-- The parameters of a function, and then its locals.
abbrev pub locals_of : List ty.«Type» → Func → List (Option (List ℕ))
locals_of types f = params_then_locals (params_used types f.ty) (locals_in f.kind)

-- The labels of a function: one for each instruction that opens a block, in the order of the body.
abbrev pub labels_in : FuncKind → List (Option (List ℕ))
labels_in (func.Import import exact) = []
labels_in (func.Inline locals e) = flat_map label_in e.instrs

-- The names of the parameters of an inline type, if there is one.
abbrev pub params_if : Option FunctionType → List (Option (List ℕ))
params_if None = []
params_if (Some t) = map param_name t.params

-- The names of the parameters in a type use.
abbrev pub inline_params : TypeUse FunctionType → List (Option (List ℕ))
inline_params u = params_if u.inline

-- The names of the parameters of a tag.
abbrev pub tag_params : TagType → List (Option (List ℕ))
tag_params (tag.Exception u) = inline_params u

-- A list of names, or none if it has no entry.
abbrev pub where_named : List (ℕ × List ℕ) → Option (List (ℕ × List ℕ))
where_named [] = None
where_named (e ∷ es) = Some (e ∷ es)

-- The names in a list, by their positions, if there is any.
abbrev pub list_of : List (Option (List ℕ)) → Option (List (ℕ × List ℕ))
list_of names = where_named (named_from 0 names)

-- The lists of names inside a type.
abbrev pub lists_in_type : Within → ty.«Type» → List (Option (List (ℕ × List ℕ)))
lists_in_type within.Fields t = list_of (field_names_of t.def.kind) ∷ []
lists_in_type within.Parameters t = list_of (param_names_of t.def.kind) ∷ []
lists_in_type w t = []

-- The lists of names inside a function.
abbrev pub lists_in_func : List ty.«Type» → Within → Func → List (Option (List (ℕ × List ℕ)))
lists_in_func types within.Locals f = list_of (locals_of types f) ∷ []
lists_in_func types within.Labels f = list_of (labels_in f.kind) ∷ []
lists_in_func types w f = []

-- The lists of names inside a tag.
abbrev pub lists_in_tag : Within → TagType → List (Option (List (ℕ × List ℕ)))
lists_in_tag within.TagParameters t = list_of (tag_params t) ∷ []
lists_in_tag w t = []

-- The lists inside an imported function: the parameters of its inline type. The function is counted, and has no labels.
abbrev pub lists_in_imported_func : Within → TypeUse FunctionType → List (Option (List (ℕ × List ℕ)))
lists_in_imported_func within.Locals u = list_of (inline_params u) ∷ []
lists_in_imported_func within.Labels u = None ∷ []
lists_in_imported_func w u = []

-- The lists inside an imported tag. The tag is counted, and its list has no names.
abbrev pub lists_in_imported_tag : Within → List (Option (List (ℕ × List ℕ)))
lists_in_imported_tag within.TagParameters = None ∷ []
lists_in_imported_tag w = []

-- The lists inside an imported item of a kind.
abbrev pub lists_in_kind : Within → ItemKind → List (Option (List (ℕ × List ℕ)))
lists_in_kind w (kind.Func u) = lists_in_imported_func w u
lists_in_kind w (kind.FuncExact u) = lists_in_imported_func w u
lists_in_kind w (kind.Tag t) = lists_in_imported_tag w
lists_in_kind w k = []

-- The lists inside an imported item.
abbrev pub lists_in_sig : Within → ItemSig → List (Option (List (ℕ × List ℕ)))
lists_in_sig w sig = lists_in_kind w sig.kind

-- The lists inside an import, item by item. Items that share a signature all have its list.
abbrev pub lists_in_import : Within → ImportItems → List (Option (List (ℕ × List ℕ)))
lists_in_import w i = flat_map (lists_in_sig w) (item_sigs i)

-- The lists inside a field, given the types of its module.
abbrev pub lists_within : List ty.«Type» → Within → ModuleField → List (Option (List (ℕ × List ℕ)))
lists_within types w (field.Ty t) = lists_in_type w t
lists_within types w (field.Rec r) = flat_map (lists_in_type w) r.types
lists_within types w (field.Import i) = lists_in_import w i.items
lists_within types w (field.Func f) = lists_in_func types w f
lists_within types w (field.Tag t) = lists_in_tag w t.ty
lists_within types w f = []
