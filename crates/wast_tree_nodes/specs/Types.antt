-- The types that a field defines, and whether a type use needs an index (text format: types, recursive types, type uses).
--
--   block (result i32)             needs no index: its inline type is short
--   block (param i32)              needs an index
--   (func (result i32))            needs an index
--   (type $t) (result i32)         is `(type $t)` after its inline type is dropped
use Rattle.std.specs.Prelude.{Bool, false, ◌&&◌, ◌==◌, nat_lt, List, [], ◌∷◌, length, Option, Some, None}
use Rattle.wast_tree_nodes.specs.Tree.{Index, FunctionType, TypeUse, ModuleField}
use Rattle.wast_tree_nodes.specs.Tree.ty
use Rattle.wast_tree_nodes.specs.Tree.field

-- the type of a `type` field
abbrev pub lone_type : ModuleField → Option ty.«Type»
lone_type (field.Ty t) = Some t
lone_type x = None

-- the types of a `type` or `rec` field
abbrev pub types_of : ModuleField → List ty.«Type»
types_of (field.Ty t) = t ∷ []
types_of (field.Rec r) = r.types
types_of x = []

-- the inline type of a type use, or None if the type use has an index
abbrev pub inline_alone : Option Index → Option FunctionType → Option FunctionType
inline_alone None inline = inline
inline_alone (Some i) inline = None

-- a type use, without its inline type if it has an index
abbrev pub said_once : TypeUse FunctionType → TypeUse FunctionType
said_once u = record u { inline = inline_alone u.index u.inline }

-- Whether a function type has no parameters and at most one result. The binary format then has a form without an index.
abbrev pub is_short : FunctionType → Bool
is_short t = length t.params == 0 && nat_lt (length t.results) 2

-- whether there is an inline type that is short
abbrev pub is_short_if : Option FunctionType → Bool
is_short_if None = false
is_short_if (Some t) = is_short t

-- the owner of a type use: a function, an import or a tag; an indirect call; or a block
pub data Where : Type 0 where
  OfItem : Where
  OfCall : Where
  OfBlock : Where

-- whether a type use needs no index
abbrev pub says_enough : Where → Option FunctionType → Bool
says_enough OfItem inline = false
says_enough OfCall inline = false
says_enough OfBlock inline = is_short_if inline
