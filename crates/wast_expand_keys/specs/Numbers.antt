-- Signatures with the ids of source types replaced by numbers (text format: indices, type uses).
--
-- Two references to one type can be different texts. After the replacement they are equal, so type uses are compared
-- then.
--
--   (type $t (func)) (func (param (ref $t)))      the signature of the function has (ref 0)
--   (func (param (ref $u)))                       has (ref $u), because no type has the id $u
use Rattle.std.specs.Prelude.{ℕ, List, map, Option}
use Rattle.wast_base.specs.Ids.{Name}
use Rattle.wast_base.specs.Denoted.{resolved_index}
use Rattle.wast_tree_nodes.specs.Items.{items}
use Rattle.wast_tree_nodes.specs.Known.{id_context}
use Rattle.wast_tree_map.specs.Mapped.{Indices, mapped_val}
use Rattle.wast_expand_keys.specs.Tree.{ValType, ModuleField}
use Rattle.wast_expand_keys.specs.Tree.space
use Rattle.wast_expand_keys.specs.Signatures.{Signature}

-- a look-up from ids of types to numbers
abbrev pub TypeNames : Type 0
TypeNames = Name → Option ℕ

-- the look-up of the source's types, members of groups included
abbrev pub type_names : List ModuleField → TypeNames
type_names fields = (id_context (items fields)).number space.Ty

-- the number of an id as an index; other ids are unchanged
abbrev pub in_numbers : TypeNames → Indices
in_numbers k s i = resolved_index k i

-- a value type after the replacement
abbrev pub numbered_val : TypeNames → ValType → ValType
numbered_val k v = mapped_val (in_numbers k) v

-- a signature after the replacement
abbrev pub numbered_signature : TypeNames → Signature → Signature
numbered_signature k s = (map (numbered_val k) s.0, map (numbered_val k) s.1)
