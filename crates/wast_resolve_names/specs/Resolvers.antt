-- The model of a `Resolver`: its index spaces and types, and the identifier context that they are (text format:
-- indices, modules).
--
-- For `(module (func $f))` the identifier context has $f as function 0, and no other id.
use Rattle.std.specs.Prelude.{◌≡◌, List, [], map, Option, Some, None, option_map, slice_index_or, refl}
use Rattle.std.specs.Coded.{Coded, coded_list, code_by}
use Rattle.wast_resolve_names.specs.Tree.{Space}
use Rattle.wast_resolve_names.specs.Tree.space
use Rattle.wast_base.specs.Spaces.{rank_of}
use Rattle.wast_tree_nodes.specs.Known.{IdContext}
use Rattle.wast_expand_keys.specs.Signatures.{Signature}
use Rattle.wast_resolve_names.specs.declared.resolver.Ns.{Ns}
use Rattle.wast_resolve_names.specs.declared.resolver.TypeShape.{TypeShape}
use Rattle.wast_resolve_names.specs.declared.resolver.Ns.TheVariants as ns
use Rattle.wast_resolve_namespace.specs.Namespaces.{NameSpace, coded_space, empty_from, number_in}
use Rattle.wast_resolve_rules.specs.Scopes.{Shape, Function, Struct, Other, Scope}

-- the index space of an `Ns`
abbrev pub space_of : Ns → Space
space_of ns.Func = space.Func
space_of ns.Table = space.Table
space_of ns.Global = space.Global
space_of ns.Memory = space.Memory
space_of ns.Tag = space.Tag
space_of ns.Ty = space.Ty

-- the index space in a list by rank; a missing one is empty
abbrev pub space_in : List NameSpace → Space → NameSpace
space_in spaces s = slice_index_or spaces (rank_of s) (empty_from 0)

-- the identifier context of index spaces
abbrev pub known_in : List NameSpace → IdContext
known_in spaces = record { number = λ s name. number_in (space_in spaces s) name }

-- what checks read of a type, from its signature and the ids of its fields
abbrev pub shape_by : Option Signature → Option NameSpace → Shape
shape_by None None = Other
shape_by None (Some fields) = Struct (λ name. number_in fields name)
shape_by (Some s) fields = Function s

-- the same for the data of a type
abbrev pub read_shape : TypeShape → Shape
read_shape t = shape_by t.signature t.fields

-- the model: the index spaces by rank, and the types by index
pub record Resolution : Type 0 where
  pub spaces : List NameSpace
  pub types : List TypeShape

-- the identifier context of a resolver
abbrev pub known_of : Resolution → IdContext
known_of r = known_in r.spaces

-- the data of a module that checks read, from a resolver
abbrev pub scope_of : Resolution → Scope
scope_of r = record { known = known_of r; types = map read_shape r.types }

-- a resolver without types
abbrev pub without_types : List NameSpace → Resolution
without_types spaces = record { spaces = spaces; types = [] }

-- a resolver with these types
abbrev pub with_types : Resolution → List TypeShape → Resolution
with_types r types = record { spaces = r.spaces; types = types }

-- the model of the names of a module
pub record KnownNames : Type 0 where
  pub spaces : List NameSpace

-- names are determined by their index spaces
abbrev pub coded_names : Coded KnownNames
coded_names = code_by (List NameSpace) (coded_list coded_space) (λ b. b.spaces) (λ spaces. record { spaces = spaces }) (λ _. refl)

-- no id in any space
abbrev pub no_names : KnownNames
no_names = record { spaces = [] }

-- the identifier context of names
abbrev pub known_to : KnownNames → IdContext
known_to names = known_in names.spaces

-- the ids of the fields of a struct type, if a field has one
abbrev pub IsFieldsOf : Option Shape → Option NameSpace → Type 0
IsFieldsOf None names = names ≡ None
IsFieldsOf (Some (Function s)) names = names ≡ None
IsFieldsOf (Some (Struct number)) names = option_map number_in names ≡ Some number
IsFieldsOf (Some Other) names = names ≡ None
