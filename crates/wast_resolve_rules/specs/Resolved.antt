-- The fields after numbering: each index is a number, at the position of its id (text format: indices).
--
--   (func $f call $f) (export "a" (func $f))      (func $f call 0) (export "a" (func 0))
--
-- The ids of items stay, because the name section needs them.
use Rattle.std.specs.Prelude.{List, map, option_map}
use Rattle.wast_resolve_rules.specs.Tree.{FunctionType, TypeUse, ModuleField}
use Rattle.wast_resolve_rules.specs.Tree.space
use Rattle.wast_resolve_labels.specs.OpenBlocks.{label_depth}
use Rattle.wast_resolve_rules.specs.Scopes.{Scope, module_scope, local_number, field_number}
use Rattle.wast_tree_nodes.specs.Sites.{Where, OfItem, OfCall, OfBlock}
use Rattle.wast_tree_nodes.specs.Types.{said_once}
use Rattle.wast_tree_nodes.specs.Known.{IdContext}
use Rattle.wast_tree_map.specs.Mapped.{Indices, Change, mapped_signature, mapped_field}
pub use Rattle.wast_base.specs.Denoted.{numbered_by, resolved_index}

-- an index as the number of its item in an index space
abbrev pub numbered_at : IdContext → Indices
numbered_at k s i = resolved_index (k.number s) i

-- a type use with its indices as numbers
abbrev pub numbered_use : IdContext → TypeUse FunctionType → TypeUse FunctionType
numbered_use k u = record { index = option_map (numbered_at k space.Ty) u.index; inline = option_map (mapped_signature (numbered_at k)) u.inline }

-- The type use of an item keeps its inline type. An indirect call or a block with an index drops it.
abbrev pub resolved_use : IdContext → Where → TypeUse FunctionType → TypeUse FunctionType
resolved_use k OfItem u = numbered_use k u
resolved_use k OfCall u = said_once (numbered_use k u)
resolved_use k OfBlock u = said_once (numbered_use k u)

-- The change of the tree: each index becomes its number, and ids of items are unchanged.
abbrev pub numbering_change : Scope → Change
numbering_change c = record {
  index = numbered_at c.known;
  used = resolved_use c.known;
  local = λ l i. resolved_index (local_number c l) i;
  field = λ owner i. resolved_index (field_number c owner) i;
  label = λ blocks i. resolved_index (λ name. label_depth name blocks) i;
  id = λ o. o;
  own = λ o. o;
}

-- the fields with each index as its number
abbrev pub resolved_fields : List ModuleField → List ModuleField
resolved_fields fields = map (mapped_field (numbering_change (module_scope fields))) fields
