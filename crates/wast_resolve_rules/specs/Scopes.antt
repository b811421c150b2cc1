-- The data of a module that checks read: its identifier context, and its types by index (text format: indices, types).
--
--   (type (func (param i32)))            a function type with one parameter
--   (type (struct (field $x i32)))       a struct whose field $x is number 0
--   (type (struct (field i32)))          another type, because no field has an id
use Rattle.std.specs.Prelude.{ℕ, ◌+◌, cond, is_some, List, length, map, flat_map, Option, Some, None, option_map, slice_get}
use Rattle.std.specs.List.{list_any}
use Rattle.wast_tree_nodes.specs.Items.{field_ids, items}
use Rattle.wast_tree_nodes.specs.Known.{IdContext, id_context}
use Rattle.wast_tree_nodes.specs.Types.{types_of}
use Rattle.wast_expand_keys.specs.Signatures.{Signature, signature_of}
pub use Rattle.wast_base.specs.Denoted.{denoted}
use Rattle.wast_base.specs.Ids.{Name}
use Rattle.wast_base.specs.Spaces.{name_if, position_of}
use Rattle.wast_tree_nodes.specs.Sites.{Locals}
use Rattle.wast_resolve_rules.specs.Tree.{Index, FunctionType, TypeUse, InnerTypeKind, ModuleField}
use Rattle.wast_resolve_rules.specs.Tree.space
use Rattle.wast_resolve_rules.specs.Tree.inner

-- What checks read of a type: the signature of a function type, or the look-up of fields of a struct in which some
-- field has an id.
pub data Shape : Type 0 where
  Function : Signature → Shape
  Struct : (Name → Option ℕ) → Shape
  Other : Shape

-- a struct with fields of these ids
abbrev pub struct_shape : List (Option Name) → Shape
struct_shape names = cond (list_any is_some names) (Struct (λ name. position_of name names)) Other

-- what checks read of a composite type
abbrev pub shape_of : InnerTypeKind → Shape
shape_of (inner.Func t) = Function (signature_of t)
shape_of (inner.Struct t) = struct_shape (map name_if (field_ids t.fields))
shape_of (inner.Array t) = Other
shape_of (inner.Cont t) = Other

-- the same for the types of a field, members of groups one by one
abbrev pub shapes_in : ModuleField → List Shape
shapes_in x = map (λ t. shape_of t.def.kind) (types_of x)

-- the types of all fields, by index
abbrev pub shapes_of_types : List ModuleField → List Shape
shapes_of_types fields = flat_map shapes_in fields

-- the identifier context, and the types by index
pub record Scope : Type 0 where
  pub known : IdContext
  pub types : List Shape

-- those of a list of fields
abbrev pub module_scope : List ModuleField → Scope
module_scope fields = record { known = id_context (items fields); types = shapes_of_types fields }

-- the type at an index, if there is one
abbrev pub type_at : List Shape → Option ℕ → Option Shape
type_at types None = None
type_at types (Some n) = slice_get types n

-- the number of parameters of a function type, else 0
abbrev pub params_of : Option Shape → ℕ
params_of None = 0
params_of (Some (Function s)) = length s.0
params_of (Some (Struct number)) = 0
params_of (Some Other) = 0

-- the number of a field of a struct type
abbrev pub field_in : Option Shape → Name → Option ℕ
field_in None name = None
field_in (Some (Function s)) name = None
field_in (Some (Struct number)) name = number name
field_in (Some Other) name = None

-- How many parameters a function has by its index alone. With an inline type it is 0, since those are listed.
abbrev pub unsaid_params : Scope → Option Index → Option FunctionType → ℕ
unsaid_params c index (Some t) = 0
unsaid_params c None None = 0
unsaid_params c (Some i) None = params_of (type_at c.types (denoted (c.known.number space.Ty) i))

-- the same for the function around a body
abbrev pub implicit_param_count : Scope → Option (TypeUse FunctionType) → ℕ
implicit_param_count c None = 0
implicit_param_count c (Some u) = unsaid_params c u.index u.inline

-- The number of a parameter or local. Unnamed ones count too.
abbrev pub local_number : Scope → Locals → Name → Option ℕ
local_number c l name = option_map (λ p. implicit_param_count c l.owner + p) (position_of name l.names)

-- the number of a field in the struct at an index
abbrev pub field_number : Scope → Index → Name → Option ℕ
field_number c owner name = field_in (type_at c.types (denoted (c.known.number space.Ty) owner)) name
