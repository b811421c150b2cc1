-- The parts of types do not depend on the addresses of name annotations.
--
--   (func (param $p (@name "a") i32))      the parameter has the id $p and the type i32, wherever "a" is
use Rattle.std.specs.Prelude.{not, Option, Some, None, option_map}
use Rattle.std.specs.List.{flat_map}
use Rattle.std.proofs.Common.{◌≡◌, List, [], ◌∷◌, ◌++◌, map, refl, ap}
use Rattle.wast_base.specs.Ids.{mark_of_option}
use Rattle.wast_tree_nodes.specs.Items.{field_ids, fields_of}
use Rattle.wast_tree_nodes.specs.Sites.{Check, Covered, if_there, in_index, in_val, in_param, in_signature, in_struct_field}
use Rattle.wast_tree_nodes.specs.Sites.{in_inner, in_descriptor, in_type, in_rec, in_type_use, in_local, param_marks, local_marks}
use Rattle.wat_syntax.specs.Tree.{FunctionType, TypeUse, StructField, InnerTypeKind, Rec, Local}
use Rattle.wat_syntax.specs.Tree.form
use Rattle.wat_syntax.specs.Tree.space
use Rattle.wat_syntax.specs.Tree.inner
use Rattle.wat_syntax.specs.Tree.ty
use Rattle.wat_ready.specs.Shown.{shown_composite, shown_function_type, shown_local, shown_param, shown_rec, shown_struct_field, shown_type, shown_type_use}
use Rattle.wat_ready.proofs.ShownLists.{map_same, flat_same, option_same}

-- the checks of a function type
pub signature_asks : (t : FunctionType) → in_signature (shown_function_type t) ≡ in_signature t
signature_asks t = ap (λ z. z ++ flat_map in_val t.results) (flat_same shown_param in_param (λ p. refl) t.params)

-- of a type use
pub use_asks : (u : TypeUse FunctionType) → in_type_use (shown_type_use u) ≡ in_type_use u
use_asks u = ap (λ z. if_there (in_index space.Ty) u.index ++ z) (option_same shown_function_type in_signature signature_asks u.inline)

-- the ids of the parameters of an inline type
pub params_shown : (o : Option FunctionType) → param_marks (option_map shown_function_type o) ≡ param_marks o
params_shown None = refl
params_shown (Some t) = map_same shown_param (λ p. mark_of_option p.0) (λ p. refl) t.params

-- the fields of a struct
pub field_ids_shown : (fs : List StructField) → field_ids (map shown_struct_field fs) ≡ field_ids fs
field_ids_shown fs = map_same shown_struct_field (λ f. mark_of_option f.id) (λ f. refl) fs

pub fields_shown : (k : InnerTypeKind) → field_ids (fields_of (shown_composite k)) ≡ field_ids (fields_of k)
fields_shown (inner.Struct t) = field_ids_shown t.fields
fields_shown x = refl

-- the checks of a composite type
inner_asks : (k : InnerTypeKind) → in_inner (shown_composite k) ≡ in_inner k
inner_asks (inner.Func t) = signature_asks t
inner_asks (inner.Struct t) = flat_same shown_struct_field in_struct_field (λ f. refl) t.fields
inner_asks (inner.Array t) = refl
inner_asks (inner.Cont t) = refl

-- of a type, and of the types of a group
pub type_asks : (t : ty.«Type») → in_type (shown_type t) ≡ in_type t
type_asks t =
    let d = t.def in
    let around : List Check → List Check =
    λ z. if_there in_descriptor d.descriptor ++ (if_there in_descriptor d.describes ++ (z ++ Covered form.Shared (not d.shared) ∷ [])) in
    ap (λ (z : List Check). flat_map (in_index space.Ty) d.parents ++ around z) (inner_asks d.kind)

pub rec_asks : (r : Rec) → in_rec (shown_rec r) ≡ in_rec r
rec_asks r = flat_same shown_type in_type type_asks r.types

-- locals: their checks and their ids
pub locals_asks : (ls : List Local) → flat_map in_local (map shown_local ls) ≡ flat_map in_local ls
locals_asks ls = flat_same shown_local in_local (λ l. refl) ls

pub locals_shown : (ls : List Local) → local_marks (map shown_local ls) ≡ local_marks ls
locals_shown ls = map_same shown_local (λ l. mark_of_option l.id) (λ l. refl) ls
