-- Reading the types of a module, if no two fields of a struct have the same id. Only contracts of private functions use
-- this.
--
-- For `(type (struct (field $x i32) (field $y i32)))` the ids $x and $y have the numbers 0 and 1.
use Rattle.std.specs.Prelude.{⊤, ◌≡◌, ℕ, List, length, map, flat_map, Option, None}
use Rattle.wast_base.specs.declared.faults.Error.{Error}
use Rattle.wast_base.specs.Faults.{diagnostic_of}
use Rattle.wast_base.specs.Ids.{Name, Mark}
use Rattle.wast_base.specs.Spaces.{name_if, position_of}
use Rattle.wast_tree_nodes.specs.Items.{fields_of, field_ids}
use Rattle.wast_tree_nodes.specs.Types.{types_of}
use Rattle.wast_resolve_namespace.specs.Namespaces.{NameSpace, number_in}
use Rattle.wast_resolve_spaces.specs.Tree.{ModuleField}
use Rattle.wast_resolve_spaces.specs.Tree.ty
use Rattle.wast_resolve_rules.specs.Demands.{Demand, field_demands, Answers}

-- ids have the positions of their fields as numbers
abbrev pub NamesFields : List (Option Mark) → NameSpace → Type 0
NamesFields ids s = (name : Name) → number_in s name ≡ position_of name (map name_if ids)

-- the checks of the fields of a type
abbrev pub type_demands : ty.«Type» → List Demand
type_demands t = field_demands (field_ids (fields_of t.def.kind))

-- the checks of the fields of all types of a field
abbrev pub types_demands : ModuleField → List Demand
types_demands x = flat_map type_demands (types_of x)

-- the number of fields of a type
abbrev pub type_fields : ty.«Type» → ℕ
type_fields t = length (field_ids (fields_of t.def.kind))

-- the same for the types of a field
abbrev pub types_fields : ModuleField → List ℕ
types_fields x = map type_fields (types_of x)

-- The error is E12, or E10 if there are too many.
abbrev pub IsRefused : Type 0 → Error → Type 0
IsRefused many e = Answers ⊤ many (diagnostic_of e) None
